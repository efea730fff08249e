use Rattle.eq_verilog.proofs.Respects.{driver_respects}
use Rattle.eq_verilog.proofs.laws.values_follow_reads.Goals as goal

pub returns : goal.returns
returns c =
    let follow = c.operators_follow_reads.ensures in
    driver_respects follow.operations follow.reductions follow.negatives follow.extensions follow.choices
