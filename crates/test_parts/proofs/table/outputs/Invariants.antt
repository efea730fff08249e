use Rattle.std.proofs.Common.{◌≡◌, map, take}
use Rattle.test_parts.specs.Table.{sides_of}
use Rattle.test_parts.proofs.table.outputs.Given as goal

abbrev pub invariant-loop-sides : goal.invariant-loop-sides
invariant-loop-sides l = map sides_of l.outputs ≡ take l.sides-index l.rows
