-- Cited by proofs alone; nothing here has to be believed.
-- What a conflict teaches, and what the trail and the watches are then.
use Rattle.std.specs.Prelude.{◌≡◌, ◌≢◌, ℕ, ◌<◌, ◌≤◌, List, ◌∷◌, [], ◌++◌, Contains, Option, None, Some, length, slice_get, take}
use Rattle.eq_proof.specs.Literal.{Literal, negation}
use Rattle.eq_proof.specs.Assigned.{AllBelow}
use Rattle.eq_proof.specs.Sets.{IsUnit}
use Rattle.eq_proof.specs.Derivation.{IsDerivation}
use Rattle.eq_proof.specs.Fresh.{IsFresh}
use Rattle.eq_cdcl.specs.inner.Assignment.{Assignment, cut_to}
use Rattle.eq_cdcl.specs.inner.Sound.{IsSound}
use Rattle.eq_cdcl.specs.inner.Watched.{IsAttached}
use Rattle.eq_cdcl.specs.declared.learning.Learned.{Learned}
use Rattle.eq_cdcl.specs.declared.trail.Reason.TheVariants.{Decision}
use Rattle.eq_cdcl.specs.declared.watches.Pair.{Pair}
use Rattle.eq_cdcl.specs.declared.watches.Watch.{Watch}

-- no decision is cut off by going back to level 0, or a literal of the clause is false at a place behind which no decision stays
abbrev pub IsSecond : Assignment → ℕ → List Literal → Option Literal → Type 0
IsSecond a cut clause None = (d : ℕ) → d < cut → slice_get a.reasons d ≢ Some Decision
IsSecond a cut clause (Some k) = Contains clause k × (p : ℕ) × (p < cut) × (slice_get a.lits p ≡ Some (negation k)) × ((d : ℕ) → p < d → d < cut → slice_get a.reasons d ≢ Some Decision)

-- a step that may be logged, up to which literal the trail stays, and the two literals that its clause watches then
pub record Teaches (known : List (List Literal)) (a : Assignment) (learned : Learned) : Type 0 where
  pub derived : IsDerivation known learned.step
  pub fresh : IsFresh known learned.step.clause
  pub below : AllBelow a.size learned.step.clause
  pub cut : learned.cut ≤ length a.lits
  pub decision : slice_get a.reasons learned.cut ≡ Some Decision
  pub sound : IsSound (known ++ learned.step.clause ∷ []) (cut_to learned.cut a)
  pub unit : IsUnit (take learned.cut a.lits) learned.step.clause learned.literal
  pub second : IsSecond a learned.cut learned.step.clause learned.second

-- one clause more is watched, or is true for good by its literal
abbrev pub IsTakenUp : List Pair → List (List Watch) → List Pair → List (List Watch) → Literal → Option Literal → Type 0
IsTakenUp pairs lists pairs' lists' l None = (pairs' ≡ pairs ++ (record { first = l; second = l }) ∷ []) × (lists' ≡ lists)
IsTakenUp pairs lists pairs' lists' l (Some k) = IsAttached pairs lists pairs' lists' l k
