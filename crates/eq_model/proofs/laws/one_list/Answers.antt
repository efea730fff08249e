use Rattle.eq_model.proofs.Trace.{one_run}
use Rattle.eq_model.proofs.Frames.{one_list}
use Rattle.eq_model.proofs.laws.one_list.Goals as goal

pub returns : goal.returns
returns c = λ d sound loop_free given n. one_list d sound given n (one_run d sound loop_free given n)
