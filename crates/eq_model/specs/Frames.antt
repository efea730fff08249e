-- Runs as lists of frames: one frame a cycle, each a list of the values of all bits in order.
use Rattle.std.specs.Prelude.{◌≡◌, ℕ, ◌<◌, Bool, false, List, [], length, slice_index_or}
use Rattle.eq_model.specs.System.{Values}
use Rattle.eq_model.specs.Run.{Design, Given, Run}

-- the values that a list gives, bit by bit
abbrev pub values : List Bool → Values
values xs b = slice_index_or xs b false

-- the values that a list of frames gives, by cycle and bit
abbrev pub frames : List (List Bool) → ℕ → Values
frames vs c = values (slice_index_or vs c [])

-- n frames of `bits` values each
pub record AreFrames (bits n : ℕ) (vs : List (List Bool)) : Type 0 where
  pub cycles : length vs ≡ n
  pub each : (c : ℕ) → c < n → length (slice_index_or vs c []) ≡ bits

-- exactly one list of frames is a run
pub record HasOneList (d : Design) (given : Given) (n : ℕ) : Type 0 where
  pub some : (vs : List (List Bool)) × AreFrames d.bits n vs × Run d given n (frames vs)
  pub only : (vs ws : List (List Bool)) → AreFrames d.bits n vs → AreFrames d.bits n ws →
      Run d given n (frames vs) → Run d given n (frames ws) → vs ≡ ws
