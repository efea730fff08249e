-- Cited by proofs alone; nothing here has to be believed.
-- What the kept literals say: which level the learned clause asserts a literal on.
--
-- The unique implication point is the only literal of the last level that is kept, so its negation l is the
-- only literal of the learned clause that isn't false below that level. Let `cut` be where the level above
-- that of the clause's other literals begins. What stands below `cut` was settled when that level's
-- decision was made; it makes the other literals false and leaves l without value. So the clause is fresh.
-- Where a lower level begins, the clause has two literals without value, l and one of a level from there on, so
-- what stands below stays settled once the clause is known.
use Rattle.std.specs.Prelude.{◌≡◌, ◌≢◌, Bool, ℕ, ◌<◌, ◌≤◌, ◌⊎◌, true, List, ◌∷◌, [], ◌++◌, take, slice_get, Some, All}
use Rattle.eq_proof.specs.Literal.{Literal, negation}
use Rattle.eq_proof.specs.Sets.{IsFalse}
use Rattle.eq_cdcl.specs.inner.Resolved.{marked}
use Rattle.eq_cdcl.specs.declared.trail.Reason.{Reason}
use Rattle.eq_cdcl.specs.declared.trail.Reason.TheVariants.{Decision}

-- a literal that is a decision, after which none is
pub record IsLastDecision (reasons : List Reason) (start : ℕ) : Type 0 where
  pub decision : slice_get reasons start ≡ Some Decision
  pub last : (p : ℕ) → start < p → slice_get reasons p ≢ Some Decision

-- all literals are of level 0
abbrev pub HasNoDecision : List Reason → Type 0
HasNoDecision reasons = (p : ℕ) → slice_get reasons p ≢ Some Decision

-- the negation of the literal at a place is kept too
abbrev pub Keeps : List Literal → ℕ → List Literal → List Literal → Type 0
Keeps lits place old new = (x : Literal) × (slice_get lits place ≡ Some x) × (new ≡ old ++ negation x ∷ [])

-- one place on: its literal is kept or not, and marks are new only where the place was marked
pub record Settles (lits : List Literal) (place : ℕ) (old new : List Bool) (kept_old kept_new : List Literal) : Type 0 where
  pub kept : (kept_new ≡ kept_old) ⊎ ((marked old place ≡ true) × Keeps lits place kept_old kept_new)
  pub marks : (q : ℕ) → q < place → marked new q ≡ true → (marked old q ≡ true) ⊎ (marked old place ≡ true)

-- the first kept literal is l; the others are false below `cut`, where a level begins; what is still marked is below it; and for each level that begins lower, down to a place, the first of the others is of that level or a higher one
pub record IsAsserting (lits : List Literal) (reasons : List Reason) (l : Literal) (uip place : ℕ) (marks : List Bool) (kept : List Literal) (cut : ℕ) : Type 0 where
  pub others : List Literal
  pub kept_is : kept ≡ l ∷ others
  pub lower : All (IsFalse (take cut lits)) others
  pub below : (p : ℕ) → p < place → marked marks p ≡ true → p < cut
  pub levels : (p : ℕ) → place ≤ p → p < cut → slice_get reasons p ≡ Some Decision → (k : Literal) × (slice_get others 0 ≡ Some k) × (q : ℕ) × (p ≤ q) × (slice_get lits q ≡ Some (negation k))
  pub decision : slice_get reasons cut ≡ Some Decision
  pub early : cut ≤ uip

-- the same, where l is the negation of the unique implication point
abbrev pub Asserts : List Literal → List Reason → ℕ → ℕ → List Bool → List Literal → ℕ → Type 0
Asserts lits reasons uip place marks kept cut = (x : Literal) × (slice_get lits uip ≡ Some x) × IsAsserting lits reasons (negation x) uip place marks kept cut
