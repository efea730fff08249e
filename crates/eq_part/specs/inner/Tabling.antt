-- Mirrors src/tables.rt; nothing here has to be believed.
-- Tables that are filled one entry after another.
use Rattle.std.specs.Prelude.{◌≡◌, ℕ, ◌<◌, true, List, Option, Some, None, length, slice_index_or}
use Rattle.eq_part.specs.declared.types.Partition.{Partition}
use Rattle.eq_part.specs.Tables.{holds}
use Rattle.eq_reads.specs.Words.{number_at}

-- the entry at a place, none beyond the last
abbrev pub place_at : List (Option ℕ) → ℕ → Option ℕ
place_at table k = slice_index_or table k None

-- the numbers are below this one, no two the same
pub record AreOnceBelow (size : ℕ) (bits : List ℕ) : Type 0 where
  pub there : (i : ℕ) → i < length bits → number_at bits i < size
  pub once : (i j : ℕ) → i < length bits → j < length bits → number_at bits i ≡ number_at bits j → i ≡ j

-- the table has at each of the first n numbers its place, and nothing else
pub record AreWritten (bits : List ℕ) (size n : ℕ) (table : List (Option ℕ)) : Type 0 where
  pub count : length table ≡ size
  pub there : (i : ℕ) → i < n → place_at table (number_at bits i) ≡ Some i
  pub back : (b i : ℕ) → place_at table b ≡ Some i → (i < n) × (number_at bits i ≡ b)

-- the first n outputs have this owner, and the others what they had
pub record AreOwnedBy (q : ℕ) (outputs : List ℕ) (n : ℕ) (old new : List (Option ℕ)) : Type 0 where
  pub count : length new ≡ length old
  pub there : (k : ℕ) → k < n → place_at new (number_at outputs k) ≡ Some q
  pub kept : (i : ℕ) → ((k : ℕ) → k < n → number_at outputs k ≡ i → ⊥) → place_at new i ≡ place_at old i

-- outputs are positions below this number, and none is in two partitions
pub record HoldOnce (size : ℕ) (parts : List Partition) : Type 0 where
  pub inside : (q i : ℕ) → holds parts q i ≡ true → i < size
  pub once : (q r i : ℕ) → holds parts q i ≡ true → holds parts r i ≡ true → q ≡ r

-- the table has at each output of the first n partitions its partition, and nothing else
pub record AreOwned (parts : List Partition) (size n : ℕ) (table : List (Option ℕ)) : Type 0 where
  pub count : length table ≡ size
  pub there : (q i : ℕ) → q < n → holds parts q i ≡ true → place_at table i ≡ Some q
  pub back : (i q : ℕ) → place_at table i ≡ Some q → (q < n) × (holds parts q i ≡ true)
