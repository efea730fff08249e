use Rattle.std.proofs.Common.{refl}
use Rattle.eq_analysis.proofs.MarkLemmas.{found_more}
use Rattle.eq_analysis.proofs.marking.is_run_marked.Goals as goal

pub loop-bit-preserved : goal.loop-bit-preserved
loop-bit-preserved c = λ seen h.
    found_more c.args.marks.now c.args.low c.loop-bit.bit _ seen c.loop-bit.found c.is_marked_or-found.result refl
    c.is_marked_or-found.ensures h (c.loop-bit.invariant seen h)
