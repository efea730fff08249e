use Rattle.std.proofs.Common.{length}
use Rattle.eq_cone.specs.Paired.{own_in_gate, own_in_gold}
use Rattle.eq_cone.specs.inner.Parted.{AreRoots}
use Rattle.eq_cone.proofs.roots.roots.Given as goal

abbrev pub invariant-loop-place : goal.invariant-loop-place
invariant-loop-place l = AreRoots (length l.fn.graphs.gold.now.nodes)
    (own_in_gold l.fn.graphs.gold.now l.fn.graphs.plan.now)
    (own_in_gate l.fn.graphs.gate.now l.fn.graphs.plan.now) l.fn.positions l.place l.roots
