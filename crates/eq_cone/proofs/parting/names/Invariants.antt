use Rattle.eq_cone.specs.inner.Outputs.{AreNames}
use Rattle.eq_cone.proofs.parting.names.Given as goal

abbrev pub invariant-loop-place : goal.invariant-loop-place
invariant-loop-place l = AreNames l.fn.net.nets l.fn.graphs l.fn.inputs l.names l.place
