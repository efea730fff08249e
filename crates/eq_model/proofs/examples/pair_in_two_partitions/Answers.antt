use Rattle.eq_model.proofs.GateTrials.{doubled_covers}
use Rattle.eq_model.proofs.examples.pair_in_two_partitions.Goals as goal

pub returns : goal.returns
returns c = doubled_covers
