-- Cited by proofs alone; nothing here has to be believed.
-- Conflict analysis: from the end of the trail down, literals are resolved away by their reasons or kept.
use Rattle.std.specs.Prelude.{◌≡◌, ℕ, ◌+◌, ◌<◌, ◌≤◌, ◌⊎◌, suc, zero, Bool, true, false, cond, nat_le, List, length, take, reverse, slice_get, Some, slice_index_or, All, Contains}
use Rattle.eq_proof.specs.Literal.{Literal, negation}
use Rattle.eq_proof.specs.Derivation.{Refutes}

-- whether the place on the trail is marked
abbrev pub marked : List Bool → ℕ → Bool
marked marks place = slice_index_or marks place false

-- how many places from `start` on and below an end are marked
abbrev pub opens : List Bool → ℕ → ℕ → ℕ
opens marks start zero = 0
opens marks start (suc place) = opens marks start place + cond (nat_le start place) (cond (marked marks place) 1 0) 0

-- each place of a literal's variable is marked
abbrev pub IsMarkedAt : List Literal → List Bool → Literal → Type 0
IsMarkedAt lits marks m = (place : ℕ) (l : Literal) → slice_get lits place ≡ Some l → l.var ≡ m.var → marked marks place ≡ true

-- the places of these literals are marked too, and none from an end on
pub record MarksToo (lits few : List Literal) (end : ℕ) (old new : List Bool) : Type 0 where
  pub same : length new ≡ length old
  pub kept : (place : ℕ) → marked old place ≡ true → marked new place ≡ true
  pub above : (place : ℕ) → end ≤ place → marked new place ≡ marked old place
  pub all : All (IsMarkedAt lits new) few

-- true literals that are enough for the antecedents so far: those at the marked places and the negations of the kept literals, and no others but those below the place
pub record IsEnough (lits : List Literal) (place : ℕ) (marks : List Bool) (kept set : List Literal) : Type 0 where
  pub only : (l : Literal) → Contains set l → Contains (take place lits) l ⊎ Contains kept (negation l)
  pub there : (p : ℕ) (l : Literal) → p < place → slice_get lits p ≡ Some l → marked marks p ≡ true → Contains set l
  pub negated : (k : Literal) → Contains kept k → Contains set (negation k)

-- the analysis has come down to a place: the antecedents, the last first, refute what is enough for them
pub record IsResolved (known : List (List Literal)) (lits : List Literal) (place : ℕ) (marks : List Bool) (kept : List Literal) (ants : List ℕ) : Type 0 where
  pub room : length lits ≤ length marks
  pub cleared : (p : ℕ) → place ≤ p → marked marks p ≡ false
  pub above : (k : Literal) → Contains kept k → (p : ℕ) × (place ≤ p) × (slice_get lits p ≡ Some (negation k))
  pub refutes : (set : List Literal) → IsEnough lits place marks kept set → Refutes known set (reverse ants)
  pub from_one : All (λ n. 1 ≤ n) ants
