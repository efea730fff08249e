use Rattle.eq_model.proofs.Cycle.{one_cycle}
use Rattle.eq_model.proofs.laws.one_cycle.Goals as goal

pub returns : goal.returns
returns c = λ s sound loop_free given u. one_cycle s given u sound loop_free
