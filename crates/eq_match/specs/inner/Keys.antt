-- Mirrors src/regrouping.rt; nothing here has to be believed.
-- Keys, equal where positions are to stand together.
use Rattle.std.specs.Prelude.{◌≡◌, ℕ, ◌+◌, ◌<◌, ◌&&◌, ◌==◌, if◌then◌else◌, Bool, List, length, slice_index_or}
use Rattle.eq_model.specs.Frames.{values}
use Rattle.eq_model.specs.Cut.{any_below}
use Rattle.eq_match.specs.Leaders.{leader_at}

-- a hit position's own, and beyond the n positions the leaders' of others
abbrev pub own_key : ℕ → (ℕ → Bool) → List ℕ → ℕ → ℕ
own_key n hit leaders i = if hit i then i else n + leader_at leaders i

-- one for all positions that are marked, and the leaders' of others
abbrev pub common_key : ℕ → (ℕ → Bool) → List ℕ → ℕ → ℕ
common_key n marked leaders i = if marked i then n else leader_at leaders i

-- the keys of all positions
pub record AreKeys (keys : List ℕ) (n : ℕ) (key : ℕ → ℕ) : Type 0 where
  pub count : length keys ≡ n
  pub each : (i : ℕ) → i < n → slice_index_or keys i 0 ≡ key i

-- the leaders of the positions below i that are held and hit
abbrev pub AreLed : List ℕ → (ℕ → Bool) → ℕ → List Bool → Type 0
AreLed leaders test i marks = (l : ℕ) → l < length leaders →
    values marks l ≡ any_below i (λ j. test j && (l == leader_at leaders j))
