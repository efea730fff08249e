use Rattle.std.proofs.Common.{List, Option, ℕ, None, arith, ap, subst, ◌∙◌}
use Rattle.eq_names.specs.declared.BitName.{BitName}
use Rattle.eq_net.specs.Meaning.{table}
use Rattle.eq_net.specs.Net.{IsWord, number_of, word_at}
use Rattle.eq_net.specs.Tree.{Tree, tree_of, trees_of}
use Rattle.eq_marks.specs.inner.Carrying.{IsFitting, carried, mark_of, rows_mark}
use Rattle.eq_marks.specs.inner.Marks.{Marks}
use Rattle.eq_marks.proofs.MarkRows.{fitting}
use Rattle.eq_marks.proofs.MarkTables.{carried_same, one_more_row}
use Rattle.eq_marks.proofs.WordTrees.{tree_at, length-trees_of}
use Rattle.eq_marks.proofs.carrying.carry.Goals as goal

pub carry_word-requires-clause-fitting : goal.carry_word-requires-clause-fitting
carry_word-requires-clause-fitting c =
    let k = c.loop-word.word-index in
    let words = trees_of c.args.words.now in
    let size = length-trees_of c.args.words.now in
    let test = c.loop-word-test.true in
    let at = tree_at c.args.words.now k c.word-item.result test c.word-item.is in
    let P : Tree → Type 0 = λ t. IsFitting c.args.nets.now t in
    subst P at (fitting c.args.nets.now words k (word_at words k) (c.requires.words k (omega arith)))

pub loop-word-preserved : goal.loop-word-preserved
loop-word-preserved c =
    let way = c.args.way in
    let nets = c.args.nets.now in
    let named : BitName → Option ℕ = λ n. mark_of c.args.marks.now (number_of nets n) in
    let k = c.loop-word.word-index in
    let words = trees_of c.args.words.now in
    let size = length-trees_of c.args.words.now in
    let test = c.loop-word-test.true in
    let t = tree_of c.word-item.result in
    let at = tree_at c.args.words.now k c.word-item.result test c.word-item.is in
    let all = c.loop-word.rows.items in
    let has = c.loop-word.invariant in
    let P : Tree → Type 0 = λ t. IsWord nets words k t in
    let is = subst P at (c.requires.words k (omega arith)) in
    one_more_row way named words k all c.push.new.self.items c.in_ok-row.row t has at c.in_ok-push.ensures.items
    (λ j lt. c.in_ok-row.ensures j lt ∙ ap (λ (xs : List (List (Option ℕ))). carried way named (rows_mark xs) t j)
    c.deref.ensures.value
    ∙ ap (λ (f : Marks). f j) (carried_same way named nets words k (rows_mark all) (table None (carried way named)
    words k)
    (λ b there. has.each b.word b.bit there.0 there.1) t is))
