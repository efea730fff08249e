-- Mirrors src/naming.rt; nothing here has to be believed.
-- Bits by their numbers.
use Rattle.std.specs.Prelude.{◌≡◌, ◌<◌, ℕ, List, length, slice_index_or}
use Rattle.eq_names.specs.declared.BitName.{BitName}
use Rattle.eq_net.specs.declared.types.NetInfo.{NetInfo}
use Rattle.eq_net.specs.Net.{number_of, HasBit}

abbrev pub no_bit : BitName
no_bit = record { net = 0; bit = 0 }

abbrev pub name_at : List BitName → ℕ → BitName
name_at names b = slice_index_or names b no_bit

-- these are the first n bits in their order
pub record AreBits (nets : List NetInfo) (names : List BitName) (n : ℕ) : Type 0 where
  pub size : length names ≡ n
  pub there : (b : ℕ) → b < n → HasBit nets (name_at names b)
  pub numbers : (b : ℕ) → b < n → number_of nets (name_at names b) ≡ b
