use Rattle.std.proofs.Common.{◌≡◌, length}
use Rattle.eq_vparse.specs.Pendings.{reduce}
use Rattle.eq_vparse.proofs.pending.reduce.Given as goal

abbrev pub invariant-loop-top : goal.invariant-loop-top
invariant-loop-top l = reduce l.level l.operand l.stack ≡ reduce l.level l.initial.operand l.initial.stack

abbrev pub decreases-loop-top : goal.decreases-loop-top
decreases-loop-top l = length l.stack
