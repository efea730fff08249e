use Rattle.eq_net.specs.inner.Stack.{part}
use Rattle.eq_net.proofs.Carries.{less_next}
use Rattle.eq_net.proofs.arithmetic.is_less.Goals as goal

pub loop-j-preserved : goal.loop-j-preserved
loop-j-preserved c =
    less_next c.loop-j.j (part c.args.stack.now.items c.args.left) (part c.args.stack.now.items c.args.right) c.loop-j.less c.bit.result c.bit-in-loop-j.result c.with_digits-less.result
    c.loop-j.invariant c.bit.ensures c.bit-in-loop-j.ensures c.with_digits-less.ensures
