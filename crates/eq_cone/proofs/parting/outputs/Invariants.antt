use Rattle.eq_cone.specs.inner.Copying.{place_of}
use Rattle.eq_cone.specs.inner.Outputs.{AreOutputsOf}
use Rattle.eq_cone.proofs.parting.outputs.Given as goal

abbrev pub invariant-loop-place : goal.invariant-loop-place
invariant-loop-place l = AreOutputsOf l.fn.net.nets l.fn.graphs l.fn.positions (place_of l.fn.places) l.fn.builder
    l.builder l.outputs l.place
