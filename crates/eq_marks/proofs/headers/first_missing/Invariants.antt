use Rattle.eq_marks.specs.Answers.{meaning}
use Rattle.eq_marks.specs.inner.Headers.{NonePasses, is_missing}
use Rattle.eq_marks.proofs.headers.first_missing.Given as goal

abbrev pub invariant-loop-place : goal.invariant-loop-place
invariant-loop-place l = NonePasses (is_missing l.others) (meaning l.net).ports l.place
