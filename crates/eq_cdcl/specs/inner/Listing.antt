-- Cited by proofs alone; nothing here has to be believed.
-- Lists of entries, one for each literal: one entry more, and one less.
use Rattle.std.specs.Prelude.{◌≡◌, ◌≢◌, ℕ, ◌+◌, ◌<◌, ◌⊎◌, List, [], length, Contains, slice_get, Some, slice_index_or}
use Rattle.eq_cdcl.specs.declared.watches.Watch.{Watch}

-- the list at a place has one entry more, and the others are as they were
pub record IsAdded (old new : List (List Watch)) (at : ℕ) (w : Watch) : Type 0 where
  pub same : length new ≡ length old
  pub there : Contains (slice_index_or new at []) w
  pub kept : (v : Watch) → Contains (slice_index_or old at []) v → Contains (slice_index_or new at []) v
  pub only : (v : Watch) → Contains (slice_index_or new at []) v → Contains (slice_index_or old at []) v ⊎ (w ≡ v)
  pub others : (k : ℕ) → k ≢ at → slice_index_or new k [] ≡ slice_index_or old k []

-- a list lacks the entry that stood at a place; the ones before it stand where they stood
pub record IsOneLess (old new : List Watch) (i : ℕ) : Type 0 where
  pub shorter : length new + 1 ≡ length old
  pub before : (j : ℕ) → j < i → slice_get new j ≡ slice_get old j
  pub kept : (v : Watch) → Contains old v → Contains new v ⊎ (slice_get old i ≡ Some v)
  pub only : (v : Watch) → Contains new v → Contains old v

-- the same of the list at a place, and the others are as they were
pub record IsTakenOut (old new : List (List Watch)) (at i : ℕ) : Type 0 where
  pub same : length new ≡ length old
  pub less : IsOneLess (slice_index_or old at []) (slice_index_or new at []) i
  pub others : (k : ℕ) → k ≢ at → slice_index_or new k [] ≡ slice_index_or old k []
