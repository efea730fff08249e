use Rattle.eq_cone.specs.inner.Cones.{AreInputs}
use Rattle.eq_cone.specs.inner.Sides.{cut_of}
use Rattle.eq_cone.proofs.inputs.collect.Given as goal

abbrev pub invariant-loop-place : goal.invariant-loop-place
invariant-loop-place l = AreInputs (cut_of l.fn.sides) l.fn.cone l.inputs l.place
