-- What three tables of slots say of a whole design: by equations, by always items and by initial values. And which bits are
-- registers.
use Rattle.std.specs.Prelude.{◌≡◌, ◌<◌, ℕ, List, Bool, false, length, map, slice_index_or}
use Rattle.eq_net.specs.declared.types.NetInfo.{NetInfo}
use Rattle.eq_net.specs.Net.{bits_of}
use Rattle.eq_net.specs.Nets.{net_of}
use Rattle.eq_net.specs.Tree.{Tree}
use Rattle.eq_verilog.specs.Designs.{Flat, is_reg_bit, size as size_of}
use Rattle.eq_flatten.specs.Beginning.{AreBegun}
use Rattle.eq_flatten.specs.Equating.{AreDriven}
use Rattle.eq_sequential.specs.Setting.{AreFollowed}
use Rattle.eq_drivers.specs.declared.slots.Slots.{Slots}

-- each bit has a slot in each table, and the slots speak of exactly the design's equations, always items and initial values
pub record Tell (nets : List NetInfo) (words : List Tree) (f : Flat) (s : Slots) : Type 0 where
  pub nets_are : map net_of nets ≡ f.nets
  pub driven_size : length s.driven.items ≡ bits_of nets
  pub followed_size : length s.followed.items ≡ bits_of nets
  pub begun_size : length s.begun.items ≡ bits_of nets
  pub driven : AreDriven nets words f.equations s.driven.items
  pub followed : AreFollowed nets words f.processes s.followed.items
  pub begun : AreBegun s.constants.items f.initials s.begun.items

-- each bit has a flag, which says whether it is one of a reg
pub record AreRegs (f : Flat) (flags : List Bool) : Type 0 where
  pub size : length flags ≡ size_of f
  pub are : (b : ℕ) → b < length flags → slice_index_or flags b false ≡ is_reg_bit f b
