use Rattle.std.proofs.Common.{◌-◌, drop, length}
use Rattle.eq_net.specs.Tree.{join_all, trees_of}
use Rattle.eq_reads.specs.inner.Reading.{WordGrew}
use Rattle.eq_reads.proofs.words.+words.Given as goal

abbrev pub invariant-push_parts-loop-turn : goal.invariant-push_parts-loop-turn
invariant-push_parts-loop-turn l = WordGrew l.nets (trees_of l.words) l.places l.fn.nodes l.fn.row.items l.nodes l.row.items
    (join_all (drop (length l.parts - l.turn) (trees_of l.parts)))
