use Rattle.eq_model.specs.Frames.{values}
use Rattle.eq_net.specs.Whole.{parts_of}
use Rattle.eq_net.proofs.Registers.{if_ok}
use Rattle.eq_net.proofs.Swept.{cycle_from}
use Rattle.eq_net.proofs.cycle.solve.Goals as goal

pub returns-clause-cycle : goal.returns-clause-cycle
returns-clause-cycle c =
    if_ok c.finish.result (λ words cycle. cycle_from (parts_of c.args.net.now) c.sweep_all.new.now c.args.now.now (values c.finish.new.now) (λ b lt h. c.in_ok-swept.ensures.held b h) cycle) c.finish.ensures.cycle
