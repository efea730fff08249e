use Rattle.std.proofs.Common.{◌≡◌, map, take}
use Rattle.eq_net.specs.inner.Circuits.{cells_of}
use Rattle.eq_net.proofs.cells.completion.read_row.Given as goal

abbrev pub invariant-loop-number : goal.invariant-loop-number
invariant-loop-number l = l.read ≡ map (cells_of l.bits) (take l.number-index l.row)
