-- Logs of learned clauses.
use Rattle.std.specs.Prelude.{◌≡◌, ◌≢◌, ℕ, ◌<◌, List, [], slice_get, Some}
use Rattle.eq_proof.specs.Literal.{Literal}
use Rattle.eq_proof.specs.Inference.{Inference}
use Rattle.eq_proof.specs.Fresh.{FreshAt}

-- the step at a place has a clause that isn't empty
abbrev pub HasLiteralsAt : List Inference → ℕ → Type 0
HasLiteralsAt log place = (step : Inference) × (slice_get log place ≡ Some step) × (step.clause ≢ [])

-- the steps below a place are fresh, and none is empty
abbrev pub FreshBelow : List (List Literal) → List Inference → ℕ → Type 0
FreshBelow clauses log end = (place : ℕ) → place < end → FreshAt clauses log place × HasLiteralsAt log place
