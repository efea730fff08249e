use Rattle.std.proofs.Common.{◌≡◌, length}
use Rattle.test_parts.proofs.table.inputs.Given as goal

abbrev pub invariant-loop : goal.invariant-loop
invariant-loop l = length l.inputs ≡ l.counter
