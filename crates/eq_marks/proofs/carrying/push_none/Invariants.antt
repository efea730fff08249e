use Rattle.std.proofs.Common.{◌≡◌, ◌++◌, None, replicate}
use Rattle.eq_marks.proofs.carrying.push_none.Given as goal

abbrev pub invariant-loop : goal.invariant-loop
invariant-loop l = l.stack.items ≡ l.fn.stack.items ++ replicate l.counter None
