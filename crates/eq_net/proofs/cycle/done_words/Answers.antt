use Rattle.std.proofs.Common.{ℕ, arith, refl, subst}
use Rattle.eq_net.specs.Net.{number_of}
use Rattle.eq_net.specs.Tree.{trees_of}
use Rattle.eq_net.specs.Whole.{parts_of}
use Rattle.eq_model.specs.Frames.{values}
use Rattle.eq_net.specs.inner.Sized.{HasWords}
use Rattle.eq_net.proofs.Swept.{swept_all, swept_cycle}
use Rattle.eq_net.proofs.Trees.{length-trees_of}
use Rattle.eq_net.proofs.cycle.done_words.Goals as goal

pub returns-clause-cycle : goal.returns-clause-cycle
returns-clause-cycle c =
    let s = c.args.swept in
    swept_cycle (parts_of c.args.net.now) c.args.now.now c.args.now.now s.done.items s.words.items s.whole.items c.requires.swept (λ b lt h. refl) c.requires.bits

pub returns-clause-words : goal.returns-clause-words
returns-clause-words c =
    let s = c.args.swept in
    let net = c.args.net.now in
    let trees = length-trees_of net.words in
    let count = c.requires.count in
    let P : ℕ → Type 0 = λ k. HasWords (values c.args.now.now) (number_of net.nets) (trees_of net.words) k s.words.items in
    subst P trees (swept_all (parts_of net) c.args.now.now c.args.now.now s.done.items s.words.items s.whole.items c.requires.swept (omega arith) (λ w lt. c.requires.words w (omega arith)))
