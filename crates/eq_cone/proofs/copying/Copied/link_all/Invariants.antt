use Rattle.eq_cone.specs.inner.Underway.{IsLinking}
use Rattle.eq_cone.proofs.copying.Copied.link_all.Given as goal

abbrev pub invariant-loop-place : goal.invariant-loop-place
invariant-loop-place l = IsLinking l.fn.sides l.fn.cone l.fn.inputs l.self l.place
