-- Mirrors src/classes.rt; nothing here has to be believed.
-- First positions of keys, found one after the other.
use Rattle.std.specs.Prelude.{◌≡◌, ℕ, ◌<◌, ◌≤◌, List, length, Option, Some, None, slice_index_or}
use Rattle.eq_match.specs.Leaders.{leader_at}

-- the position that was first, and this one where there was none
abbrev pub first_or : Option ℕ → ℕ → ℕ
first_or (Some first) i = first
first_or None i = i

abbrev pub first_at : List (Option ℕ) → ℕ → Option ℕ
first_at firsts key = slice_index_or firsts key None

-- the leaders of the first n positions, and of each key the first position among them
pub record AreFirsts (keys : List ℕ) (n : ℕ) (firsts : List (Option ℕ)) (leaders : List ℕ) : Type 0 where
  pub count : length leaders ≡ n
  pub each : (j : ℕ) → j < n → first_at firsts (slice_index_or keys j 0) ≡ Some (leader_at leaders j)
  pub found : (key f : ℕ) → first_at firsts key ≡ Some f → (f < n) × (slice_index_or keys f 0 ≡ key)
  pub before : (j : ℕ) → j < n → leader_at leaders j ≤ j
