use Rattle.eq_net.specs.Net.{design_of}
use Rattle.eq_net.specs.Whole.{parts_of}
use Rattle.eq_part.specs.Plans.{plan_of}
use Rattle.eq_compose.proofs.Provings.{all_shown}
use Rattle.eq_compose.proofs.concluding.conclude.Goals as goal

pub returns-clause-equivalent : goal.returns-clause-equivalent
returns-clause-equivalent c passes =
    let gold = parts_of c.args.gold.now in
    let gate = parts_of c.args.gate.now in
    c.all_proved.ensures (design_of gold) (design_of gate) (plan_of gold gate c.args.plan.now)
    (c.net_is_design.ensures gold c.args.gold.now.is_net) (c.net_is_design.ensures gate c.args.gate.now.is_net)
    c.args.gold.now.is_net.loop_free c.args.gate.now.is_net.loop_free c.requires.plan.covers
    (all_shown gold gate c.args.plan.now c.args.rows.now c.requires.rows.count c.requires.right (c.whole.ensures.pass.0 passes))

pub returns-clause-sources : goal.returns-clause-sources
returns-clause-sources c passes d e is_gold is_gate =
    c.agreement.ensures.equivalent (design_of (parts_of c.args.gold.now)) (design_of (parts_of c.args.gate.now)) d e
    is_gold is_gate (returns-clause-equivalent c passes)
