use Rattle.eq_part.specs.inner.Walking.{AreLinks}
use Rattle.eq_part.proofs.reached.link_all.Given as goal

abbrev pub invariant-loop-edge : goal.invariant-loop-edge
invariant-loop-edge l = AreLinks l.edges l.edge-index l.nodes l.last.items l.before.items
