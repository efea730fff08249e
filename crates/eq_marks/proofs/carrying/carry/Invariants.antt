use Rattle.eq_net.specs.Net.{number_of}
use Rattle.eq_net.specs.Tree.{trees_of}
use Rattle.eq_marks.specs.inner.Carrying.{HasRows, mark_of}
use Rattle.eq_marks.proofs.carrying.carry.Given as goal

abbrev pub invariant-loop-word : goal.invariant-loop-word
invariant-loop-word l = HasRows l.way (λ n. mark_of l.marks (number_of l.nets n)) (trees_of l.words) l.word-index
    l.rows.items
