use Rattle.std.proofs.Common.{◌≡◌, All, length}
use Rattle.test_loops.specs.Made.{IsNamed}
use Rattle.test_loops.proofs.making.second_names.Given as goal

abbrev pub invariant-loop-source : goal.invariant-loop-source
invariant-loop-source l = (length l.names ≡ l.source-index) × All (IsNamed l.bits) l.names
