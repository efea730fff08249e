use Rattle.eq_marks.specs.inner.Marks.{mixed, part}
use Rattle.eq_marks.proofs.MarkStacks.{summed}
use Rattle.eq_marks.proofs.marks.sum.Goals as goal

pub returns : goal.returns
returns c =
    let old = c.args.stack.now.items in
    summed c.args.way c.args.left c.args.right old c.combine.new.stack.items c.mix_up.new.stack.items c.requires.order
    (λ i. mixed c.args.way (part old c.args.left i) (part old c.args.right i)) c.combine.ensures c.mix_up.ensures
