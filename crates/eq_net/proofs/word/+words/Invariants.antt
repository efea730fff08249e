use Rattle.std.proofs.Common.{◌-◌, drop, length}
use Rattle.eq_model.specs.Frames.{frames, values}
use Rattle.eq_net.specs.Meaning.{bit_of, width}
use Rattle.eq_net.specs.Net.{number_of}
use Rattle.eq_net.specs.Tree.{join_all, trees_of}
use Rattle.eq_net.specs.inner.Stack.{Grows}
use Rattle.eq_net.proofs.word.+words.Given as goal

abbrev pub invariant-push_parts-loop-turn : goal.invariant-push_parts-loop-turn
invariant-push_parts-loop-turn l =
    Grows (bit_of (values l.now) (number_of l.nets) (frames l.earlier) (join_all (drop (length l.parts - l.turn) (trees_of l.parts))))
    (width (join_all (drop (length l.parts - l.turn) (trees_of l.parts)))) l.fn.stack.items l.stack.items
