use Rattle.eq_model.specs.Frames.{values}
use Rattle.eq_net.specs.Net.{number_of}
use Rattle.eq_net.specs.Tree.{trees_of}
use Rattle.eq_net.specs.inner.Sized.{HasWords}
use Rattle.eq_net.proofs.word.evaluate_all.Given as goal

abbrev pub invariant-loop-word : goal.invariant-loop-word
invariant-loop-word l = HasWords (values l.now) (number_of l.nets) (trees_of l.words) l.word-index l.all.items
