use Rattle.std.proofs.Common.{List, Bool, false, arith, ap, subst, ◌∙◌}
use Rattle.eq_model.specs.Frames.{frames, values}
use Rattle.eq_net.specs.Meaning.{bit_of, table}
use Rattle.eq_net.specs.Net.{IsWord, number_of, word_at}
use Rattle.eq_net.specs.Tree.{Tree, tree_of, trees_of}
use Rattle.eq_net.specs.inner.Sized.{IsSized}
use Rattle.eq_net.proofs.Follows.{word_same}
use Rattle.eq_net.proofs.Sizes.{sized}
use Rattle.eq_net.proofs.Trees.{tree_at, length-trees_of}
use Rattle.eq_net.proofs.WordBits.{one_more_word}
use Rattle.eq_net.proofs.word.evaluate_all.Goals as goal

pub evaluate-requires-clause-sized : goal.evaluate-requires-clause-sized
evaluate-requires-clause-sized c =
    let k = c.loop-word.word-index in
    let words = trees_of c.args.words.now in
    let size = length-trees_of c.args.words.now in
    let test = c.loop-word-test.true in
    let at = tree_at c.args.words.now k c.word-item.result test c.word-item.is in
    let P : Tree → Type 0 = λ t. IsSized c.args.nets.now t in
    subst P at (sized c.args.nets.now words k (word_at words k) (c.requires.words k (omega arith)))

pub loop-word-preserved : goal.loop-word-preserved
loop-word-preserved c =
    let v = values c.args.now.now in
    let nets = c.args.nets.now in
    let number = number_of nets in
    let k = c.loop-word.word-index in
    let words = trees_of c.args.words.now in
    let size = length-trees_of c.args.words.now in
    let test = c.loop-word-test.true in
    let t = tree_of c.word-item.result in
    let at = tree_at c.args.words.now k c.word-item.result test c.word-item.is in
    let all = c.loop-word.all.items in
    let has = c.loop-word.invariant in
    let P : Tree → Type 0 = λ t. IsWord nets words k t in
    let is = subst P at (c.requires.words k (omega arith)) in
    one_more_word v number words k all c.push.new.self.items c.in_ok-bits.bits t has at c.in_ok-push.ensures.items c.in_ok-bits.ensures.size
    (λ j lt. c.in_ok-bits.ensures.each j lt ∙ ap (λ (xs : List (List Bool)). bit_of v number (frames xs) t j) c.deref.ensures.value
    ∙ word_same v number nets words k (frames all) (table false (bit_of v number) words k) (λ b there. has.each b.word b.bit there.0 there.1) t is j)
