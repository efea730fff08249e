-- Mirrors src/starting.rt; nothing here has to be believed.
-- Keys of the groups: of each position the first of its group, and its own where it stands in none.
use Rattle.std.specs.Prelude.{◌≡◌, ℕ, ◌<◌, true, false, List, length, slice_index_or}
use Rattle.eq_match.specs.Divided.{has, list_at}

-- a list's positions have the key, and others what they had
pub record ArePut (before : List ℕ) (list : List ℕ) (key : ℕ) (after : List ℕ) : Type 0 where
  pub count : length after ≡ length before
  pub in_list : (i : ℕ) → has i list ≡ true → slice_index_or after i 0 ≡ key
  pub others : (i : ℕ) → has i list ≡ false → slice_index_or after i 0 ≡ slice_index_or before i 0

-- the keys by the first g groups
pub record AreGroupKeys (groups : List (List ℕ)) (n g : ℕ) (keys : List ℕ) : Type 0 where
  pub count : length keys ≡ n
  pub in_group : (h i : ℕ) → h < g → has i (list_at groups h) ≡ true → slice_index_or keys i 0 ≡ slice_index_or (list_at groups h) 0 0
  pub in_none : (i : ℕ) → i < n → ((h : ℕ) → h < g → has i (list_at groups h) ≡ false) → slice_index_or keys i 0 ≡ i
