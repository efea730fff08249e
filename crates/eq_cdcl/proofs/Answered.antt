-- What an answer says, clause by clause.
use Rattle.std.proofs.Common.{◌≡◌, ℕ, ◌+◌, ◌-◌, ◌≤◌, List, length, arith}
use Rattle.eq_proof.specs.Literal.{Literal}
use Rattle.eq_proof.specs.Satisfying.{SatisfiesAll}
use Rattle.eq_proof.specs.Derivation.{AllDerive, EndsEmpty}
use Rattle.eq_cdcl.specs.Answer.{IfSat, IfUnsat, IfSpent}
use Rattle.eq_cdcl.specs.Halting.{value_in}
use Rattle.eq_cdcl.specs.Logged.{FreshBelow}
use Rattle.eq_cdcl.specs.inner.Answering.{IsAnswer, IsRefutation}
use Rattle.eq_cdcl.specs.declared.solver.Solved.{Solved}
use Rattle.eq_cdcl.specs.declared.solver.Solved.TheVariants.{Sat, Unsat, Spent}

-- one value per variable
pub sat_len : (clauses : List (List Literal)) (vars budget : ℕ) (s : Solved) → IsAnswer clauses vars budget s → IfSat s (λ bits. length bits ≡ vars)
sat_len clauses vars budget (Sat bits) h = h.0
sat_len clauses vars budget (Unsat log) h = tt
sat_len clauses vars budget (Spent log) h = tt

-- the values satisfy
pub sat_satisfies : (clauses : List (List Literal)) (vars budget : ℕ) (s : Solved) → IsAnswer clauses vars budget s → IfSat s (λ bits. SatisfiesAll (value_in bits) clauses)
sat_satisfies clauses vars budget (Sat bits) h = h.1
sat_satisfies clauses vars budget (Unsat log) h = tt
sat_satisfies clauses vars budget (Spent log) h = tt

-- a refutation's steps are derivations
pub unsat_derives : (clauses : List (List Literal)) (vars budget : ℕ) (s : Solved) → IsAnswer clauses vars budget s → IfUnsat s (λ log. AllDerive clauses log)
unsat_derives clauses vars budget (Sat bits) h = tt
unsat_derives clauses vars budget (Unsat log) h = h.0
unsat_derives clauses vars budget (Spent log) h = tt

-- its last clause is empty
pub unsat_ends : (clauses : List (List Literal)) (vars budget : ℕ) (s : Solved) → IsAnswer clauses vars budget s → IfUnsat s (λ log. EndsEmpty log)
unsat_ends clauses vars budget (Sat bits) h = tt
unsat_ends clauses vars budget (Unsat log) h = h.1
unsat_ends clauses vars budget (Spent log) h = tt

-- its other steps are fresh
pub unsat_fresh : (clauses : List (List Literal)) (vars budget : ℕ) (s : Solved) → IsAnswer clauses vars budget s → IfUnsat s (λ log. FreshBelow clauses log (length log - 1))
unsat_fresh clauses vars budget (Sat bits) h = tt
unsat_fresh clauses vars budget (Unsat log) h = h.2
unsat_fresh clauses vars budget (Spent log) h = tt

-- they are within the budget
pub unsat_within : (clauses : List (List Literal)) (vars budget : ℕ) (s : Solved) → IsAnswer clauses vars budget s → IfUnsat s (λ log. length log ≤ budget + 1)
unsat_within clauses vars budget (Sat bits) h = tt
unsat_within clauses vars budget (Unsat log) h = h.3
unsat_within clauses vars budget (Spent log) h = tt

-- the steps of a spent budget are derivations
pub spent_derives : (clauses : List (List Literal)) (vars budget : ℕ) (s : Solved) → IsAnswer clauses vars budget s → IfSpent s (λ log. AllDerive clauses log)
spent_derives clauses vars budget (Sat bits) h = tt
spent_derives clauses vars budget (Unsat log) h = tt
spent_derives clauses vars budget (Spent log) h = h.0

-- they are fresh
pub spent_fresh : (clauses : List (List Literal)) (vars budget : ℕ) (s : Solved) → IsAnswer clauses vars budget s → IfSpent s (λ log. FreshBelow clauses log (length log))
spent_fresh clauses vars budget (Sat bits) h = tt
spent_fresh clauses vars budget (Unsat log) h = tt
spent_fresh clauses vars budget (Spent log) h = h.1

-- and as many as the budget
pub spent_exact : (clauses : List (List Literal)) (vars budget : ℕ) (s : Solved) → IsAnswer clauses vars budget s → IfSpent s (λ log. length log ≡ budget)
spent_exact clauses vars budget (Sat bits) h = tt
spent_exact clauses vars budget (Unsat log) h = tt
spent_exact clauses vars budget (Spent log) h = h.2

-- a refutation is an answer within the budget
pub refutation_answers : (clauses : List (List Literal)) (vars budget steps : ℕ) (s : Solved) → steps ≤ budget → IsRefutation clauses steps s → IsAnswer clauses vars budget s
refutation_answers clauses vars budget steps (Sat bits) le h = absurd h
refutation_answers clauses vars budget steps (Unsat log) le h = (h.0, h.1, h.2, (let len = h.3 in omega arith))
refutation_answers clauses vars budget steps (Spent log) le h = absurd h
