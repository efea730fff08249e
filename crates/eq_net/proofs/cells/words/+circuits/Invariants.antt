use Rattle.std.proofs.Common.{◌-◌, drop, length}
use Rattle.eq_net.specs.Tree.{join_all, trees_of}
use Rattle.eq_net.specs.inner.Circuits.{Puts}
use Rattle.eq_net.proofs.cells.words.+circuits.Given as goal

abbrev pub invariant-push_parts-loop-turn : goal.invariant-push_parts-loop-turn
invariant-push_parts-loop-turn l =
    Puts l.nets l.rows (join_all (drop (length l.parts - l.turn) (trees_of l.parts))) l.fn.cells.items l.cells.items l.fn.stack.items l.stack.items
