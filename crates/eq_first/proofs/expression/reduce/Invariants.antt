use Rattle.std.proofs.Common.{◌≡◌, length, reverse}
use Rattle.eq_first.specs.Machine.{reduce}
use Rattle.eq_first.proofs.expression.reduce.Given as goal

abbrev pub invariant-loop-top : goal.invariant-loop-top
invariant-loop-top l = reduce l.level l.operand (reverse l.stack) ≡ reduce l.level l.initial.operand (reverse l.initial.stack)

abbrev pub decreases-loop-top : goal.decreases-loop-top
decreases-loop-top l = length l.stack
