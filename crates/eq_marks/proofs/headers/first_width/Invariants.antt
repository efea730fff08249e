use Rattle.eq_marks.specs.Answers.{meaning}
use Rattle.eq_marks.specs.inner.Headers.{NonePasses, differs_in_width}
use Rattle.eq_marks.proofs.headers.first_width.Given as goal

abbrev pub invariant-loop-place : goal.invariant-loop-place
invariant-loop-place l = NonePasses (differs_in_width (meaning l.gold) (meaning l.gate)) (meaning l.gold).ports l.place
