use Rattle.std.proofs.Common.{◌∙◌, ap}
use Rattle.eq_net.specs.Net.{bits_of}
use Rattle.eq_verilog.specs.BitRefusals.{has_two_drivers}
use Rattle.eq_verilog.specs.Firsts.{first_below}
use Rattle.eq_elab.proofs.Checked.{bits_same, found_below}
use Rattle.eq_elab.proofs.checking.doubled_bit.Goals as goal

pub returns : goal.returns
returns c nets words f tell =
    found_below f (bits_of nets) (has_two_drivers f) c.first_doubled.result
    (c.first_doubled.ensures.ok nets words f tell ∙ ap (λ n. first_below n (has_two_drivers f)) (bits_same nets f tell.nets_are))
    (bits_same nets f tell.nets_are)
