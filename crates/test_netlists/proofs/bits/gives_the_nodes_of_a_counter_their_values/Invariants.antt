use Rattle.std.proofs.Common.{◌≡◌, length}
use Rattle.test_netlists.proofs.bits.gives_the_nodes_of_a_counter_their_values.Given as goal

abbrev pub invariant-loop-regs : goal.invariant-loop-regs
invariant-loop-regs g l = length l.scratch ≡ 11
