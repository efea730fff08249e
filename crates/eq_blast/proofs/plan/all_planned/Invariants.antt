use Rattle.std.proofs.Common.{◌≡◌, map, take}
use Rattle.eq_blast.specs.inner.Planned.{planned}
use Rattle.eq_blast.proofs.plan.all_planned.Given as goal

abbrev pub invariant-loop-node : goal.invariant-loop-node
invariant-loop-node l = l.plan.items ≡ map (planned l.own) (take l.node-index l.nodes)
