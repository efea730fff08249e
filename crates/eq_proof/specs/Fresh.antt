-- Freshness: a step whose clause says what unit propagation over the clauses before it doesn't give.
use Rattle.std.specs.Prelude.{◌≡◌, ℕ, ◌<◌, List, length, slice_get, Some, All}
use Rattle.eq_proof.specs.Literal.{Literal}
use Rattle.eq_proof.specs.Inference.{Inference}
use Rattle.eq_proof.specs.Sets.{IsConsistent, IsFalsified, IsUnit}
use Rattle.eq_proof.specs.Derivation.{clauses_before}

-- a consistent set under which no clause is falsified and none is unit
pub record IsSettled (clauses : List (List Literal)) (set : List Literal) : Type 0 where
  pub consistent : IsConsistent set
  pub no_conflict : All (λ clause. ¬ IsFalsified set clause) clauses
  pub no_unit : All (λ clause. (l : Literal) → ¬ IsUnit set clause l) clauses

-- a settled set makes the clause unit, with this literal the one without value
abbrev pub IsOpenFor : List (List Literal) → List Literal → Literal → Type 0
IsOpenFor before clause l = (set : List Literal) × IsSettled before set × IsUnit set clause l

-- some literal of the clause has no value though all others are false, where propagation over the clauses before it has nothing left to do
abbrev pub IsFresh : List (List Literal) → List Literal → Type 0
IsFresh before clause = (l : Literal) × IsOpenFor before clause l

-- the step at a place is fresh
abbrev pub FreshAt : List (List Literal) → List Inference → ℕ → Type 0
FreshAt clauses log place = (step : Inference) × (slice_get log place ≡ Some step) × IsFresh (clauses_before clauses log place) step.clause

-- this step isn't fresh, and all before it are
pub record IsFirstStale (clauses : List (List Literal)) (log : List Inference) (place : ℕ) : Type 0 where
  pub there : place < length log
  pub stale : ¬ FreshAt clauses log place
  pub fresh_before : (k : ℕ) → k < place → FreshAt clauses log k

-- each step is fresh
abbrev pub AllFresh : List (List Literal) → List Inference → Type 0
AllFresh clauses log = (place : ℕ) → place < length log → FreshAt clauses log place
