use Rattle.eq_model.proofs.GateTrials.{left_out_never, left_out_differs, left_out_covers}
use Rattle.eq_model.proofs.examples.pair_left_out.Goals as goal

pub returns-clause-never : goal.returns-clause-never
returns-clause-never c = left_out_never

pub returns-clause-unequal : goal.returns-clause-unequal
returns-clause-unequal c = left_out_differs

pub returns-clause-uncovered : goal.returns-clause-uncovered
returns-clause-uncovered c = left_out_covers
