-- Mirrors src/looping.rt; nothing here has to be believed.
-- The bits of a loop, and their names.
use Rattle.std.specs.Prelude.{◌≡◌, ℕ, List, All, map, slice_index_or}
use Rattle.eq_names.specs.declared.BitName.{BitName}
use Rattle.eq_net.specs.declared.types.NetInfo.{NetInfo}
use Rattle.eq_net.specs.Net.{number_of, HasBit}
use Rattle.eq_net.specs.Nets.{net_of}
use Rattle.eq_verilog.specs.Trees.{Name}
use Rattle.eq_verilog.specs.Nets.{bit_name}

-- each of the bits has its name here, and the first gives the loop its name
pub record IsNamed (nets : List NetInfo) (bits : List ℕ) (cycle : List BitName) (name : Name) : Type 0 where
  pub there : All (HasBit nets) cycle
  pub numbers : map (number_of nets) cycle ≡ bits
  pub first : name ≡ bit_name (map net_of nets) (slice_index_or bits 0 0)
