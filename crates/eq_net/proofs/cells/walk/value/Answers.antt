use Rattle.std.proofs.Common.{◌≡◌, ◌+◌, ◌-◌, arith, ap, ◌∙◌}
use Rattle.eq_net.proofs.Registers.{if_ok}
use Rattle.eq_net.proofs.cells.walk.value.Goals as goal

pub returns : goal.returns
returns c =
    let e : c.args.number ≡ 2 + (c.args.number - 2) = (let z = c.if-number-eq-ZERO.false in let o = c.if-number-eq-ONE.false in omega arith) in
    if_ok c.value_at.result (λ x f links v h. ap v.cells e ∙ f links v h) c.value_at.ensures
