use Rattle.eq_net.specs.Whole.{parts_of}
use Rattle.eq_net.specs.inner.Circuits.{HasRows}
use Rattle.eq_net.proofs.cells.circuit.all_cells.Given as goal

abbrev pub invariant-loop-number : goal.invariant-loop-number
invariant-loop-number l = HasRows (parts_of l.net) l.words l.whole l.number l.cells.items l.rows.items
