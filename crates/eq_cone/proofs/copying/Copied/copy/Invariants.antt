use Rattle.eq_cone.specs.inner.Underway.{IsCopying}
use Rattle.eq_cone.proofs.copying.Copied.copy.Given as goal

abbrev pub invariant-loop-place : goal.invariant-loop-place
invariant-loop-place l = IsCopying l.fn.sides l.fn.cone l.fn.inputs l.self l.place
