use Rattle.std.proofs.Common.{sym, ◌∙◌}
use Rattle.eq_flatten.proofs.ClashLemmas.{again_here, again_later}
use Rattle.eq_flatten.proofs.clashes.path_clash.Goals as goal

pub returns-then-branch : goal.returns-then-branch
returns-then-branch c =
    again_here c.args.nets.now c.loop-net.net-index c.net-item.result
    c.loop-net.seen c.loop-net-test.true c.net-item.is c.loop-net.invariant
    (sym c.in_ok-meets.ensures.again ∙ c.if-branch.true)

pub loop-net-preserved : goal.loop-net-preserved
loop-net-preserved c =
    again_later c.args.nets.now c.loop-net.net-index c.net-item.result
    c.loop-net.seen c.meets.new.table c.loop-net-test.true c.net-item.is c.loop-net.invariant
    (sym c.in_ok-meets.ensures.again ∙ c.if-branch.false) c.in_ok-meets.ensures.names
