-- Laws of derivations and of freshness.
use Rattle.std.specs.Prelude.{ℕ, Bool, List, [], Contains}
use Rattle.eq_proof.specs.Literal.{Literal}
use Rattle.eq_proof.specs.Inference.{Inference}
use Rattle.eq_proof.specs.Satisfying.{Satisfies, SatisfiesAll, Unsatisfiable}
use Rattle.eq_proof.specs.Derivation.{IsDerivation, AllDerive, EndsEmpty}
use Rattle.eq_proof.specs.Fresh.{IsFresh}

-- values that satisfy the clauses before a derivation satisfy its clause
abbrev pub DerivationKeeps : Type 0
DerivationKeeps = (before : List (List Literal)) (step : Inference) (values : ℕ → Bool) → IsDerivation before step → SatisfiesAll values before → Satisfies values step.clause

-- no values satisfy clauses from which the empty clause is derived
abbrev pub EmptyRefutes : Type 0
EmptyRefutes = (clauses : List (List Literal)) (log : List Inference) → AllDerive clauses log → EndsEmpty log → Unsatisfiable clauses

-- the empty clause is never fresh
abbrev pub EmptyIsStale : Type 0
EmptyIsStale = (before : List (List Literal)) → ¬ IsFresh before []

-- a clause isn't fresh where an earlier one has no other literals
abbrev pub SupersetIsStale : Type 0
SupersetIsStale = (before : List (List Literal)) (earlier clause : List Literal) → Contains before earlier → ((l : Literal) → Contains earlier l → Contains clause l) → ¬ IsFresh before clause
