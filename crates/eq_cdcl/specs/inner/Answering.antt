-- Cited by proofs alone; nothing here has to be believed.
-- All that is said of an answer, in one place.
use Rattle.std.specs.Prelude.{◌≡◌, ℕ, ◌+◌, ◌-◌, ◌≤◌, List, length}
use Rattle.eq_proof.specs.Literal.{Literal}
use Rattle.eq_proof.specs.Satisfying.{SatisfiesAll}
use Rattle.eq_proof.specs.Derivation.{AllDerive, EndsEmpty}
use Rattle.eq_cdcl.specs.Halting.{value_in}
use Rattle.eq_cdcl.specs.Logged.{FreshBelow}
use Rattle.eq_cdcl.specs.declared.solver.Solved.{Solved}
use Rattle.eq_cdcl.specs.declared.solver.Solved.TheVariants.{Sat, Unsat, Spent}

abbrev pub IsAnswer : List (List Literal) → ℕ → ℕ → Solved → Type 0
IsAnswer clauses vars budget (Sat bits) = (length bits ≡ vars) × SatisfiesAll (value_in bits) clauses
IsAnswer clauses vars budget (Unsat log) = AllDerive clauses log × EndsEmpty log × FreshBelow clauses log (length log - 1) × (length log ≤ budget + 1)
IsAnswer clauses vars budget (Spent log) = AllDerive clauses log × FreshBelow clauses log (length log) × (length log ≡ budget)

-- a refutation with one step more than a number
abbrev pub IsRefutation : List (List Literal) → ℕ → Solved → Type 0
IsRefutation clauses steps (Sat bits) = ⊥
IsRefutation clauses steps (Unsat log) = AllDerive clauses log × EndsEmpty log × FreshBelow clauses log (length log - 1) × (length log ≡ steps + 1)
IsRefutation clauses steps (Spent log) = ⊥
