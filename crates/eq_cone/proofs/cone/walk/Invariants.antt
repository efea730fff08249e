use Rattle.eq_cone.specs.inner.Cones.{IsWalk}
use Rattle.eq_cone.specs.inner.Sides.{cut_of, nodes_of}
use Rattle.eq_cone.proofs.cone.walk.Given as goal

abbrev pub invariant-loop-place : goal.invariant-loop-place
invariant-loop-place l = IsWalk (nodes_of l.fn.sides) (cut_of l.fn.sides) l.fn.cone l.cone l.place
