use Rattle.std.proofs.Common.{◌-◌, drop, length}
use Rattle.eq_net.specs.Tree.{join_all, trees_of}
use Rattle.eq_blast.specs.inner.Words.{Puts, Ready}
use Rattle.eq_blast.proofs.words.+words.Given as goal

abbrev pub invariant-push_parts-loop-turn : goal.invariant-push_parts-loop-turn
invariant-push_parts-loop-turn l = record {
  ready : Ready l.nets l.earlier l.builder l.stack.items;
  puts : Puts l.nets l.earlier (join_all (drop (length l.parts - l.turn) (trees_of l.parts))) l.fn.builder l.builder l.fn.stack.items l.stack.items;
}
