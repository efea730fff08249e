use Rattle.std.proofs.Common.{◌∙◌, ◌&&◌, ℕ, Bool, ap}
use Rattle.std.specs.Prelude.{is_none}
use Rattle.eq_net.specs.Net.{bits_of}
use Rattle.eq_verilog.specs.Designs.{is_reg_bit}
use Rattle.eq_verilog.specs.Firsts.{first_below}
use Rattle.eq_verilog.specs.Registers.{begins}
use Rattle.eq_elab.proofs.Checked.{bits_same, found_below}
use Rattle.eq_elab.proofs.checking.unbegun_bit.Goals as goal

pub returns : goal.returns
returns c nets words f tell regs =
    let test : ℕ → Bool = λ b. is_reg_bit f b && is_none (begins f.initials b) in
    found_below f (bits_of nets) test c.first_without_initial.result
    (c.first_without_initial.ensures.ok nets words f tell regs ∙ ap (λ n. first_below n test) (bits_same nets f tell.nets_are))
    (bits_same nets f tell.nets_are)
