use Rattle.std.proofs.Common.{◌≡◌, ◌++◌, take}
use Rattle.eq_wit.specs.Line.{lines_text}
use Rattle.eq_wit.specs.Texts.{log_lines}
use Rattle.eq_wit.proofs.log.put_log.Given as goal

abbrev pub invariant-loop-place : goal.invariant-loop-place
invariant-loop-place l = l.out.items ≡ l.fn.out.items ++ lines_text (log_lines l.first (take l.place l.log))
