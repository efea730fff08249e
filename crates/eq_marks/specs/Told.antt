-- When the parts of a netlist have the drivers of a design.
use Rattle.std.specs.Prelude.{◌≡◌, ◌<◌, ℕ, length}
use Rattle.eq_model.specs.Agreement.{SameSystem}
use Rattle.eq_net.specs.Net.{bits_of, design_of, nets_of, system_of as system_by, AreWords, Parts}
use Rattle.eq_verilog.specs.Designs.{copy_of, system_of, Flat}

-- they have its nets, and each bit the driver and the plain copy that the design has
pub record AreOf (n : Parts) (f : Flat) : Type 0 where
  pub words : AreWords n.nets n.words
  pub size : length n.drivers ≡ bits_of n.nets
  pub nets : nets_of n.nets ≡ f.nets
  pub system : SameSystem (system_by n) (system_of f)
  pub copies : (b : ℕ) → b < bits_of n.nets → (design_of n).copy_of b ≡ copy_of f b
