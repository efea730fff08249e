use Rattle.std.proofs.Common.{sum_by, take}
use Rattle.eq_net.specs.Meaning.{cost_of}
use Rattle.eq_net.specs.Tree.{trees_of}
use Rattle.eq_blast.specs.inner.Growing.{Grown}
use Rattle.eq_blast.specs.inner.Rows.{HasRows}
use Rattle.eq_blast.proofs.wiring.put_words.Given as goal

abbrev pub invariant-loop-word : goal.invariant-loop-word
invariant-loop-word l = record {
  grown : Grown (sum_by cost_of (take l.word-index (trees_of l.words))) l.fn.builder l.builder;
  rows : HasRows l.nets (trees_of l.words) l.word-index l.builder l.rows.items;
}
