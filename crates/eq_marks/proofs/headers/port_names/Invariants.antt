use Rattle.std.proofs.Common.{◌≡◌, take}
use Rattle.eq_marks.specs.Answers.{meaning}
use Rattle.eq_marks.proofs.headers.port_names.Given as goal

abbrev pub invariant-loop-place : goal.invariant-loop-place
invariant-loop-place l = l.names ≡ take l.place (meaning l.net).ports
