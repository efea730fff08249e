use Rattle.std.proofs.Common.{length}
use Rattle.eq_cone.specs.Paired.{own_in_gate, own_in_gold}
use Rattle.eq_cone.proofs.OneByOne.{roots_on}
use Rattle.eq_cone.proofs.roots.roots.Goals as goal

pub loop-place-preserved : goal.loop-place-preserved
loop-place-preserved c = roots_on (length c.args.graphs.now.gold.now.nodes)
    (own_in_gold c.args.graphs.now.gold.now c.args.graphs.now.plan.now)
    (own_in_gate c.args.graphs.now.gate.now c.args.graphs.now.plan.now) c.args.positions.now c.loop-place.place
    c.loop-place.roots c.begin.new.roots c.loop-place.invariant c.in_ok-begin.ensures
