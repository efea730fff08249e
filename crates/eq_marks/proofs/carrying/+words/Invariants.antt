use Rattle.std.proofs.Common.{◌-◌, drop, length}
use Rattle.eq_net.specs.Meaning.{width}
use Rattle.eq_net.specs.Net.{number_of}
use Rattle.eq_net.specs.Tree.{join_all, trees_of}
use Rattle.eq_marks.specs.inner.Carrying.{carried, mark_of, rows_mark}
use Rattle.eq_marks.specs.inner.Marks.{GrowsBy}
use Rattle.eq_marks.proofs.carrying.+words.Given as goal

abbrev pub invariant-push_parts-loop-turn : goal.invariant-push_parts-loop-turn
invariant-push_parts-loop-turn l =
    GrowsBy (carried l.way (λ n. mark_of l.marks (number_of l.nets n)) (rows_mark l.rows) (join_all (drop (length
    l.parts - l.turn) (trees_of l.parts))))
    (width (join_all (drop (length l.parts - l.turn) (trees_of l.parts)))) l.fn.stack.items l.stack.items
