use Rattle.std.proofs.Common.{◌≡◌, All, length}
use Rattle.test_loops.specs.Made.{IsDriven}
use Rattle.test_loops.proofs.making.drivers.Given as goal

abbrev pub invariant-loop-bit : goal.invariant-loop-bit
invariant-loop-bit l = (length l.drivers ≡ l.bit) × All (IsDriven (length l.table)) l.drivers
