use Rattle.std.proofs.Common.{◌+◌, ◌-◌, refl}
use Rattle.eq_marks.proofs.MarkSteps.{mixed_one_more}
use Rattle.eq_marks.proofs.marks.mix_down.Goals as goal

pub loop-turn-preserved : goal.loop-turn-preserved
loop-turn-preserved c =
    let m = c.len.result - c.args.from in
    mixed_one_more c.args.way m c.loop-turn.turn c.args.from (c.args.from + ((m - 1) - c.loop-turn.turn))
    c.loop-turn.all
    c.mark_at.result c.mixed-all.result c.args.stack.now.items c.loop-turn.stack.items c.put_mark.new.stack.items
    c.loop-turn-test.true refl c.mark_at.ensures c.mixed-all.ensures c.put_mark.ensures c.loop-turn.invariant
