-- How a bit is named.
use Rattle.std.specs.Fmt.{decimal}
use Rattle.std.specs.Prelude.{ℕ, ◌+◌, ◌-◌, List, [], ◌∷◌, ◌++◌, nat_le, if◌then◌else◌}
use Rattle.eq_names.specs.declared.BitName.{BitName}
use Rattle.eq_net.specs.declared.types.NetInfo.{NetInfo}
use Rattle.eq_net.specs.Net.{net_at}

-- the index that a position has in the range [left:right] of its net: position 0 has the right index, and the indices
-- go towards the left one (IEEE 1364-2005, 4.3.1)
abbrev pub index_of : NetInfo → ℕ → ℕ
index_of n position = if nat_le n.right n.left then n.right + position else n.right - position

-- the net's full name, followed by `[index]` where the net has a range
abbrev pub bit_name : NetInfo → ℕ → List ℕ
bit_name n position = if n.ranged then n.name ++ 0x5B ∷ (decimal (index_of n position) ++ 0x5D ∷ []) else n.name

abbrev pub name_of_bit : List NetInfo → BitName → List ℕ
name_of_bit nets b = bit_name (net_at nets b.net) b.bit
