use Rattle.std.proofs.Common.{◌≡◌, length}
use Rattle.test_netlists.proofs.bits.finds_the_first_difference_of_a_run.Given as goal

abbrev pub invariant-loop-regs : goal.invariant-loop-regs
invariant-loop-regs g l = length l.scratch ≡ 11
