-- Names of modules, nets, instances and files: what bytes they are made of.
use Rattle.std.specs.Prelude.{◌≢◌, ℕ, ◌<◌, ◌≤◌, List, [], All, slice_index, length}

-- a byte that a name may have: printed ASCII without the space (IEEE 1364-2005, 3.7.1)
abbrev pub IsNameByte : ℕ → Type 0
IsNameByte b = (0x21 ≤ b) × (b ≤ 0x7E)

-- one or more of these bytes
pub record IsName (text : List ℕ) : Type 0 where
  pub some : text ≢ []
  pub bytes : All IsNameByte text

-- the first byte that a name may not have stands at the place `at`
pub record IsFirstBadByte (text : List ℕ) (at : ℕ) : Type 0 where
  pub within : at < length text
  pub bad : ¬ IsNameByte (slice_index text at)
  pub first : (k : ℕ) → k < at → IsNameByte (slice_index text k)
