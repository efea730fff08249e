use Rattle.std.proofs.Common.{arith}
use Rattle.eq_analysis.proofs.StackLemmas.{all_pushed}
use Rattle.eq_analysis.proofs.visiting.add_instances.Goals as goal

pub returns : goal.returns
returns c =
    let stop = c.loop-place-test.false in
    all_pushed c.args.items.now c.args.left c.args.stack.now.items c.loop-place.place c.loop-place.stack.items
    (omega (arith, stop)) c.loop-place.invariant
