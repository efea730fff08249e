use Rattle.std.proofs.Common.{◌≡◌, ℕ, ◌<◌, List, length, slice_index_or, arith, ap, subst, sym, ◌∙◌}
use Rattle.eq_model.specs.Frames.{frames, values}
use Rattle.eq_net.specs.declared.net.Net.{Net}
use Rattle.eq_net.specs.declared.types.NetInfo.{NetInfo}
use Rattle.eq_net.specs.declared.types.Word.{Word}
use Rattle.eq_net.specs.Meaning.{bit_of, width}
use Rattle.eq_net.specs.Net.{number_of, word_at}
use Rattle.eq_net.specs.Tree.{Tree, tree_of, trees_of}
use Rattle.eq_net.specs.Whole.{parts_of}
use Rattle.eq_net.specs.inner.Marks.{IsReady}
use Rattle.eq_net.specs.inner.Sized.{IsSized}
use Rattle.eq_net.proofs.Marked.{whole_bit}
use Rattle.eq_net.proofs.Sizes.{sized}
use Rattle.eq_net.proofs.Trees.{tree_at, length-trees_of}
use Rattle.eq_net.proofs.sweep.ready_bits.Goals as goal

-- a word of a net has what its evaluation asks
sized_word : (net : Net) (nets : List NetInfo) (k : ℕ) (t : Tree) → k < length net.words → word_at (trees_of net.words) k ≡ t → nets ≡ net.nets → IsSized nets t
sized_word net nets k t lt at same =
    let trees = length-trees_of net.words in
    let P : Tree → Type 0 = λ x. IsSized net.nets x in
    let Q : List NetInfo → Type 0 = λ ns. IsSized ns t in
    subst Q (sym same) (subst P at (sized net.nets (trees_of net.words) k (word_at (trees_of net.words) k) (net.is_net.words_read k (omega arith))))

pub is_ready-requires-clause-sized : goal.is_ready-requires-clause-sized
is_ready-requires-clause-sized c =
    let net = c.args.net.now in
    let k = c.args.word in
    let item = c.index-as_slice-word.result in
    let is : item ≡ slice_index_or net.words k item = c.index-as_slice-word.is ∙ ap (λ (ws : List Word). slice_index_or ws k item) c.as_slice.ensures in
    sized_word net c.as_slice-nets.result.now k (tree_of item) c.requires.word (tree_at net.words k item c.requires.word is) c.as_slice-nets.ensures

pub evaluate-requires-clause-sized : goal.evaluate-requires-clause-sized
evaluate-requires-clause-sized c =
    let net = c.args.net.now in
    let k = c.args.word in
    let item = c.index-as_slice-word.result in
    let is : item ≡ slice_index_or net.words k item = c.index-as_slice-word.is ∙ ap (λ (ws : List Word). slice_index_or ws k item) c.as_slice.ensures in
    sized_word net c.as_slice-nets.result.now k (tree_of item) c.requires.word (tree_at net.words k item c.requires.word is) c.as_slice-nets.ensures

pub returns-clause-each : goal.returns-clause-each
returns-clause-each c =
    let net = c.args.net.now in
    let n = parts_of net in
    let k = c.args.word in
    let item = c.index-as_slice-word.result in
    let is : item ≡ slice_index_or net.words k item = c.index-as_slice-word.is ∙ ap (λ (ws : List Word). slice_index_or ws k item) c.as_slice.ensures in
    let at = tree_at net.words k item c.requires.word is in
    let trees = length-trees_of net.words in
    let lt = c.requires.word in
    let now = values c.args.now.now in
    let e = frames c.args.words.now in
    let P : Tree → Type 0 = λ t. IsReady (number_of net.nets) c.args.done.now c.args.whole.now t in
    let Q : List NetInfo → Type 0 = λ ns. IsReady (number_of ns) c.args.done.now c.args.whole.now (tree_of item) in
    let ready = subst P (sym at) (subst Q c.as_slice-nets.ensures (c.is_ready.ensures c.if-not-is_ready.false)) in
    λ v j marked has below.
    c.in_ok-bits.ensures.each j (let w = ap width at in omega arith)
    ∙ ap (λ (ns : List NetInfo). bit_of now (number_of ns) e (tree_of item) j) c.as_slice-nets.ensures
    ∙ ap (λ (t : Tree). bit_of now (number_of net.nets) e t j) (sym at)
    ∙ whole_bit n v c.args.now.now c.args.done.now c.args.words.now c.args.whole.now k net.is_net.words_read (omega arith) ready marked has j
