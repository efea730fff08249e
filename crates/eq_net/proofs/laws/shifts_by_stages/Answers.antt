use Rattle.eq_net.proofs.Rippling.{lowered_twice, raised_twice}
use Rattle.eq_net.proofs.Shifted.{down_at_most, up_at_most}
use Rattle.eq_net.proofs.laws.shifts_by_stages.Goals as goal

pub returns-clause-up : goal.returns-clause-up
returns-clause-up c = up_at_most

pub returns-clause-down : goal.returns-clause-down
returns-clause-down c = down_at_most

pub returns-clause-up_twice : goal.returns-clause-up_twice
returns-clause-up_twice c = raised_twice

pub returns-clause-down_twice : goal.returns-clause-down_twice
returns-clause-down_twice c = lowered_twice
