use Rattle.std.proofs.Common.{sym, ◌∙◌}
use Rattle.eq_marks.proofs.ClockSteps.{leads_same, spent_more}
use Rattle.eq_marks.proofs.clocking.leads_on.Goals as goal

pub loop-preserved : goal.loop-preserved
loop-preserved c =
    let copies = c.args.copies.now in
    let inv = c.loop.invariant in
    let next = c.in-Some-copy_at.next in
    let is = c.in-Some-copy_at.ensures in
    record {
      there = c.requires.within c.loop.at next inv.there (sym is);
      same = leads_same copies c.args.clock c.loop.at next c.requires.within inv.there is ∙ inv.same;
      spent = spent_more copies c.loop.counter c.args.from c.loop.at next c.loop-test.true is inv.spent;
    }
