-- How many steps of a log aren't empty, and the solver's answers in the words of a query.
use Rattle.std.proofs.Common.{◌≡◌, ℕ, zero, suc, ◌+◌, ◌-◌, ◌<◌, ◌≤◌, cond, List, [], ◌∷◌, length, slice_get, Some, Result, Ok, Err, IfOk, arith, refl, ap, subst}
use Rattle.std.specs.Prelude.{nat_lt}
use Rattle.std.specs.declared.alloc.AllocError.{AllocError}
use Rattle.std.proofs.lemmas.Bool.{lt-ltb}
use Rattle.std.proofs.lemmas.List.Sums.{sum_by-cons}
use Rattle.std.proofs.lemmas.Option.{none-some, same_Some}
use Rattle.eq_bits.specs.declared.part.Part.{Part}
use Rattle.eq_cdcl.specs.Answer.{IfSat, IfUnsat, IfSpent}
use Rattle.eq_cdcl.specs.Halting.{value_in}
use Rattle.eq_cdcl.specs.Logged.{FreshBelow, HasLiteralsAt}
use Rattle.eq_cdcl.specs.declared.solver.Solved.{Solved}
use Rattle.eq_cdcl.specs.declared.solver.Solved.TheVariants as solved
use Rattle.eq_proof.specs.Derivation.{AllDerive, EndsEmpty, nonempty_of}
use Rattle.eq_proof.specs.Inference.{Inference, clauses_of}
use Rattle.eq_proof.specs.Literal.{Literal}
use Rattle.eq_proof.specs.Satisfying.{SatisfiesAll}
use Rattle.eq_unroll.specs.declared.query.Query.{Query}
use Rattle.eq_unroll.specs.Unrolling.{unrolled}
use Rattle.eq_induct.specs.declared.types.Answer.{Answer}
use Rattle.eq_induct.specs.declared.types.Answer.TheVariants.{Sat, Unsat, Spent}
use Rattle.eq_induct.specs.Answers.{IsAnswer}
use Rattle.eq_induct.specs.inner.Asking.{IsCounted, IsFound, IsSolved}

-- how much a step counts
weight : List Literal → ℕ
weight clause = cond (nat_lt 0 (length clause)) 1 0

with_literals : (clause : List Literal) → (clause ≡ [] → ⊥) → weight clause ≡ 1
unfolding weight
with_literals [] some = absurd (some refl)
with_literals (l ∷ ls) some = ap (λ b. cond {A = ℕ} b 1 0) (lt-ltb 0 (suc (length ls)) (omega arith))

without_literals : (clause : List Literal) → clause ≡ [] → weight clause ≡ 0
unfolding weight
without_literals clause none = ap (λ (ls : List Literal). cond (nat_lt 0 (length ls)) 1 0) none

counted_step : (step : Inference) (log : List Inference) →
    nonempty_of (step ∷ log) ≡ weight step.clause + nonempty_of log
unfolding weight
counted_step step log = sum_by-cons (λ (s : Inference). cond (nat_lt 0 (length s.clause)) 1 0) step log

first_counts : (step : Inference) (log : List Inference) → HasLiteralsAt (step ∷ log) 0 → weight step.clause ≡ 1
first_counts step log has =
    let same = same_Some step has.0 has.1 in
    with_literals step.clause (λ e. has.2 (subst (λ (s : Inference). s.clause ≡ []) same e))

-- steps that all have literals are all counted
all_counted : (log : List Inference) → ((place : ℕ) → place < length log → HasLiteralsAt log place) →
    nonempty_of log ≡ length log
all_counted [] has = refl
all_counted (step ∷ log) has =
    let more = counted_step step log in
    let first = first_counts step log (has 0 (omega arith)) in
    let rest = all_counted log (λ place lt. has (suc place) (omega arith)) in
    omega arith

-- and where the last is empty, all but this one
all_but_one : (log : List Inference) (last : ℕ) → last ≡ length log - 1 → slice_get (clauses_of log) last ≡ Some [] →
    ((place : ℕ) → suc place < length log → HasLiteralsAt log place) → nonempty_of log + 1 ≡ length log
all_but_one [] last is ends has = absurd (none-some [] ends)
all_but_one (step ∷ []) zero is ends has =
    let none = without_literals step.clause (same_Some step.clause [] ends) in
    let more = counted_step step [] in
    omega arith
all_but_one (step ∷ []) (suc last) is ends has = absurd (omega arith)
all_but_one (step ∷ next ∷ log) zero is ends has = absurd (omega arith)
all_but_one (step ∷ next ∷ log) (suc last) is ends has =
    let more = counted_step step (next ∷ log) in
    let first = first_counts step (next ∷ log) (has 0 (omega arith)) in
    let rest = all_but_one (next ∷ log) last (omega arith) ends (λ place lt. has (suc place) (omega arith)) in
    omega arith

-- an answer that is right is counted
pub counted : (part : Part) (q : Query) (k : ℕ) (answer : Answer) → IsAnswer part q k answer → IsCounted answer
counted part q k (Sat run) right = tt
counted part q k (Unsat log) right = right.one_empty
counted part q k (Spent log) right = right.none_empty

-- what the solver promises of clauses, at most `left` of which are learned
pub record Promises (clauses : List (List Literal)) (left : ℕ) (r : Result Solved AllocError) : Type 0 where
  pub satisfies : IfOk r (λ s. IfSat s (λ bits. SatisfiesAll (value_in bits) clauses))
  pub unsat_derives : IfOk r (λ s. IfUnsat s (λ log. AllDerive clauses log))
  pub unsat_ends : IfOk r (λ s. IfUnsat s (λ log. EndsEmpty log))
  pub unsat_fresh : IfOk r (λ s. IfUnsat s (λ log. FreshBelow clauses log (length log - 1)))
  pub unsat_within : IfOk r (λ s. IfUnsat s (λ log. length log ≤ left + 1))
  pub spent_derives : IfOk r (λ s. IfSpent s (λ log. AllDerive clauses log))
  pub spent_fresh : IfOk r (λ s. IfSpent s (λ log. FreshBelow clauses log (length log)))
  pub spent_exact : IfOk r (λ s. IfSpent s (λ log. length log ≡ left))

module _ (part : Part) (q : Query) (k left : ℕ) where
  -- a log that refutes the query's formula
  found_unsat : (log : List Inference) → AllDerive (unrolled part q k) log → EndsEmpty log →
      FreshBelow (unrolled part q k) log (length log - 1) → length log ≤ left + 1 → IsFound part q k left (Unsat log)
  found_unsat log derive ends fresh within =
      let count = all_but_one log (length log - 1) refl ends (λ place lt. (fresh place (omega arith)).1) in
      record {
        right = record { derived = derive; ends = ends; one_empty = count };
        fresh = λ place lt. (fresh place (omega arith)).0;
        within = omega arith;
        spends = tt;
      }

  -- a log that spends all
  found_spent : (log : List Inference) → AllDerive (unrolled part q k) log →
      FreshBelow (unrolled part q k) log (length log) → length log ≡ left → IsFound part q k left (Spent log)
  found_spent log derive fresh exact =
      let count = all_counted log (λ place lt. (fresh place lt).1) in
      record {
        right = record { derived = derive; none_empty = count };
        fresh = λ place lt. (fresh place lt).0;
        within = omega arith;
        spends = omega arith;
      }

  solved_cases : (r : Result Solved AllocError) → Promises (unrolled part q k) left r → IfOk r (IsSolved part q k left)
  solved_cases (Err e) p = tt
  solved_cases (Ok (solved.Sat bits)) p = p.satisfies
  solved_cases (Ok (solved.Unsat log)) p = found_unsat log p.unsat_derives p.unsat_ends p.unsat_fresh p.unsat_within
  solved_cases (Ok (solved.Spent log)) p = found_spent log p.spent_derives p.spent_fresh p.spent_exact

  -- what the solver promises of the query's formula is what is said of the query
  pub solved_is : (clauses : List (List Literal)) (r : Result Solved AllocError) → clauses ≡ unrolled part q k →
      Promises clauses left r → IfOk r (IsSolved part q k left)
  solved_is clauses r is p = solved_cases r (subst (λ (cs : List (List Literal)). Promises cs left r) is p)
