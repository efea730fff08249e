-- When drivers are those of a design.
use Rattle.std.specs.Prelude.{◌≡◌, ◌<◌, ℕ, List, All, length}
use Rattle.eq_model.specs.Agreement.{SameSystem}
use Rattle.eq_net.specs.declared.types.Driver.{Driver}
use Rattle.eq_net.specs.declared.types.NetInfo.{NetInfo}
use Rattle.eq_net.specs.Net.{bits_of, copy_of as copy_by, driver_at, system_of as system_by, NamesWord}
use Rattle.eq_net.specs.Tree.{Tree}
use Rattle.eq_reads.specs.Graph.{bare}
use Rattle.eq_verilog.specs.Designs.{copy_of, system_of, Flat}

-- each bit has the driver of the design, and is a plain copy of what it is there
pub record AreTold (nets : List NetInfo) (words : List Tree) (f : Flat) (drivers : List Driver) : Type 0 where
  pub size : length drivers ≡ bits_of nets
  pub named : All (NamesWord words) drivers
  pub system : SameSystem (system_by (bare nets words drivers)) (system_of f)
  pub copies : (b : ℕ) → b < bits_of nets →
      copy_by nets words (driver_at (bare nets words drivers) b) ≡ copy_of f b
