use Rattle.eq_analysis.proofs.MarkLemmas.{marked_more}
use Rattle.std.proofs.Common.{refl}
use Rattle.eq_analysis.proofs.marking.mark_run.Goals as goal

pub loop-bit-preserved : goal.loop-bit-preserved
loop-bit-preserved c = λ seen h.
    marked_more c.loop-bit.marks c.mark.new.marks c.args.low c.loop-bit.bit _ seen refl c.in_ok-mark.ensures
    (c.loop-bit.invariant seen h)
