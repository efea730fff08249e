use Rattle.std.proofs.Common.{sym}
use Rattle.eq_marks.proofs.ClockSteps.{spent_more}
use Rattle.eq_marks.proofs.events.end_from.Goals as goal

pub loop-preserved : goal.loop-preserved
loop-preserved c =
    let copies = c.args.copies.now in
    let inv = c.loop.invariant in
    let next = c.in-Some.next in
    let is = c.in-Some.ensures in
    record {
      there = c.requires.within c.loop.at next inv.there (sym is);
      spent = spent_more copies c.loop.counter c.args.from c.loop.at next c.loop-test.true is inv.spent;
    }
