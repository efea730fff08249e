use Rattle.std.proofs.Common.{◌++◌}
use Rattle.eq_analysis.specs.Marking.{run}
use Rattle.eq_cost.proofs.SeenLemmas.{seen_run}
use Rattle.eq_cost.proofs.seen.see_run.Goals as goal

pub loop-bit-preserved : goal.loop-bit-preserved
loop-bit-preserved c = λ bits h.
    seen_run c.args.low c.loop-bit.bit c.see_bit.new.seen bits
    (c.in_ok-see_bit.ensures (run c.args.low c.loop-bit.bit ++ bits) (c.loop-bit.invariant bits h))
