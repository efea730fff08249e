use Rattle.std.proofs.Common.{sym, ◌∙◌}
use Rattle.eq_marks.proofs.ClockSteps.{known_more, leads_same}
use Rattle.eq_marks.proofs.clocking.keep.Goals as goal

pub loop-preserved : goal.loop-preserved
loop-preserved c =
    let copies = c.args.copies.now in
    let inv = c.loop.invariant in
    let next = c.in-Some.next in
    let is = c.in-Some.ensures in
    let put = c.put_known.ensures in
    record {
      there = c.requires.within c.loop.at next inv.there (sym is);
      same = inv.same ∙ sym (leads_same copies c.args.clock c.loop.at next c.requires.within inv.there is);
      known = known_more copies c.args.clock c.loop.at c.args.leads c.loop.known c.put_known.new.known inv.known
          inv.same put.there put.others put.size;
    }
