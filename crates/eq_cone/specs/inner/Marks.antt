-- Mirrors src/paired.rt; nothing here has to be believed.
use Rattle.std.specs.Prelude.{◌≡◌, ℕ, ◌+◌, ◌<◌, ◌⊎◌, List, Option, Some, length, slice_index_or}
use Rattle.eq_blast.specs.Blasted.{own_of}
use Rattle.eq_cone.specs.Paired.{pair_of}

-- the place of the own node of the bit at place i, where the nodes begin at a place
abbrev pub mark_of : ℕ → List ℕ → List ℕ → ℕ → ℕ
mark_of from own bits i = from + own_of own (slice_index_or bits i 0)

-- the marks are places of a table of this size, no two the same
pub record AreMarks (size from : ℕ) (own bits : List ℕ) : Type 0 where
  pub bits_there : (i : ℕ) → i < length bits → slice_index_or bits i 0 < length own
  pub there : (i : ℕ) → i < length bits → mark_of from own bits i < size
  pub once : (i j : ℕ) → i < length bits → j < length bits → mark_of from own bits i ≡ mark_of from own bits j → i ≡ j

-- the first n are marked
pub record Marked (from : ℕ) (own bits : List ℕ) (n : ℕ) (old new : List (Option ℕ)) : Type 0 where
  pub count : length new ≡ length old
  pub is : (i : ℕ) → i < n → pair_of new (mark_of from own bits i) ≡ Some i
  pub kept : (m : ℕ) → ((i : ℕ) → i < n → mark_of from own bits i ≡ m → ⊥) → pair_of new m ≡ pair_of old m
  pub only : (m i : ℕ) → pair_of new m ≡ Some i → ((i < n) × (mark_of from own bits i ≡ m)) ⊎ (pair_of old m ≡ Some i)
