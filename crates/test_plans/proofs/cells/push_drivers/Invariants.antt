use Rattle.std.proofs.Common.{◌≡◌, ◌++◌}
use Rattle.test_series.specs.Lists.{listed}
use Rattle.test_plans.specs.Cells.{driver_of}
use Rattle.test_plans.proofs.cells.push_drivers.Given as goal

abbrev pub invariant-loop-bit : goal.invariant-loop-bit
invariant-loop-bit l = l.out ≡ l.fn.out ++ listed (driver_of l.cell.dir l.cell.register l.word) l.bit
