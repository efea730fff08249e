use Rattle.std.proofs.Common.{◌≡◌, map, take}
use Rattle.eq_net.specs.inner.Circuits.{cells_of}
use Rattle.eq_net.proofs.cells.completion.read_rows.Given as goal

abbrev pub invariant-loop-row : goal.invariant-loop-row
invariant-loop-row l = l.all.items ≡ map (map (cells_of l.bits)) (take l.row-index l.rows)
