use Rattle.std.proofs.Common.{◌≡◌, ℕ, ◌<◌, List, length, slice_index_or, arith, ap, subst, sym, ◌∙◌}
use Rattle.std.proofs.lemmas.Result.{IfOk-weaker}
use Rattle.eq_net.specs.declared.types.NetInfo.{NetInfo}
use Rattle.eq_net.specs.declared.types.Word.{Word}
use Rattle.eq_net.specs.Meaning.{width}
use Rattle.eq_net.specs.Net.{word_at}
use Rattle.eq_net.specs.Tree.{Tree, tree_of, trees_of}
use Rattle.eq_net.specs.Whole.{parts_of}
use Rattle.eq_net.specs.Cycles.{word_values}
use Rattle.eq_net.specs.inner.Cells.{Computes, Spells, Valuation}
use Rattle.eq_net.specs.inner.Circuits.{AreRight, bits_in}
use Rattle.eq_net.specs.inner.Sized.{IsSized}
use Rattle.eq_net.proofs.Circuited.{word_right}
use Rattle.eq_net.proofs.Sizes.{sized}
use Rattle.eq_net.proofs.Trees.{tree_at, length-trees_of}
use Rattle.eq_net.proofs.cells.circuit.put_open.Goals as goal

pub put_word-requires-clause-sized : goal.put_word-requires-clause-sized
put_word-requires-clause-sized c =
    let net = c.args.net.now in
    let k = c.args.number in
    let item = c.index-as_slice-number.result in
    let is : item ≡ slice_index_or net.words k item = c.index-as_slice-number.is ∙ ap (λ (ws : List Word). slice_index_or ws k item) c.as_slice.ensures in
    let at = tree_at net.words k item c.requires.number is in
    let trees = length-trees_of net.words in
    let lt = c.requires.number in
    let P : Tree → Type 0 = λ x. IsSized net.nets x in
    let Q : List NetInfo → Type 0 = λ ns. IsSized ns (tree_of item) in
    subst Q (sym c.as_slice-2.ensures) (subst P at (sized net.nets (trees_of net.words) k (word_at (trees_of net.words) k) (net.is_net.words_read k (omega arith))))

pub returns-clause-size : goal.returns-clause-size
returns-clause-size c =
    let net = c.args.net.now in
    let k = c.args.number in
    let item = c.index-as_slice-number.result in
    let is : item ≡ slice_index_or net.words k item = c.index-as_slice-number.is ∙ ap (λ (ws : List Word). slice_index_or ws k item) c.as_slice.ensures in
    let at = tree_at net.words k item c.requires.number is in
    IfOk-weaker c.put_word.result (λ row. length row ≡ width (tree_of item)) (λ row. length row ≡ width (word_at (trees_of net.words) k)) (λ row e. e ∙ ap width (sym at)) c.put_word.ensures.size

pub returns-clause-each : goal.returns-clause-each
returns-clause-each c =
    let net = c.args.net.now in
    let n = parts_of net in
    let k = c.args.number in
    let rows = c.args.rows.now in
    let cells = c.put_word.new.cells.items in
    let item = c.index-as_slice-number.result in
    let is : item ≡ slice_index_or net.words k item = c.index-as_slice-number.is ∙ ap (λ (ws : List Word). slice_index_or ws k item) c.as_slice.ensures in
    let at = tree_at net.words k item c.requires.number is in
    let trees = length-trees_of net.words in
    let lt = c.requires.number in
    let P : Tree → List ℕ → Type 0 = λ t row. Spells cells row 0 (width t) (bits_in net.nets rows t) in
    let Q : List NetInfo → List ℕ → Type 0 = λ ns row. Spells cells row 0 (width (tree_of item)) (bits_in ns rows (tree_of item)) in
    IfOk-weaker c.put_word.result (Q c.as_slice-2.result.now)
    (λ row. (v : Valuation) → Computes cells v → AreRight n v k rows → (j : ℕ) → j < width (word_at (trees_of net.words) k) → v.cells (slice_index_or row j 0) ≡ word_values n v.bits k j)
    (λ row spells. (
    let R : List NetInfo → Type 0 = λ ns. Q ns row in
    let S : Tree → Type 0 = λ t. P t row in
    word_right n k cells rows row (omega arith) (net.is_net.words_read k (omega arith)) (subst S (sym at) (subst R c.as_slice-2.ensures spells))))
    c.put_word.ensures.spells
