use Rattle.eq_model.specs.Frames.{values}
use Rattle.eq_part.specs.inner.States.{AreForgotten}
use Rattle.eq_part.proofs.uniting.forget.Given as goal

abbrev pub invariant-loop-position : goal.invariant-loop-position
invariant-loop-position l = AreForgotten (values l.marks) l.position l.initial.names l.names
