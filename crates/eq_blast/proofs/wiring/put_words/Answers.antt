use Rattle.std.proofs.Common.{◌≡◌, ℕ, ◌+◌, List, sum_by, take, arith, ap, subst, sym, ◌∙◌}
use Rattle.eq_net.specs.Meaning.{cost_of, width}
use Rattle.eq_net.specs.Net.{IsWord, word_at}
use Rattle.eq_net.specs.Tree.{Tree, tree_of, trees_of}
use Rattle.eq_blast.specs.inner.Growing.{Grown}
use Rattle.eq_blast.specs.inner.Stack.{Spells}
use Rattle.eq_blast.specs.inner.Words.{Fits, asks_in, bits_in}
use Rattle.eq_blast.proofs.Growth.{grown_twice}
use Rattle.eq_blast.proofs.Layers.{fits, length-trees_of, tree_at}
use Rattle.eq_blast.proofs.Rowed.{costs_next, costs_within, one_more_row}
use Rattle.eq_blast.proofs.wiring.put_words.Goals as goal

pub put_word-requires-clause-fits : goal.put_word-requires-clause-fits
put_word-requires-clause-fits c =
    let k = c.loop-word.word-index in
    let words = trees_of c.args.words.now in
    let size = length-trees_of c.args.words.now in
    let test = c.loop-word-test.true in
    let at = tree_at c.args.words.now k c.word-item.result test c.word-item.is in
    let P : Tree → Type 0 = λ t. Fits c.args.nets.now t in
    subst P at (fits c.args.nets.now words k (word_at words k) (c.requires.words k (omega arith)))

pub put_word-requires-clause-room : goal.put_word-requires-clause-room
put_word-requires-clause-room c =
    let k = c.loop-word.word-index in
    let words = trees_of c.args.words.now in
    let size = length-trees_of c.args.words.now in
    let test = c.loop-word-test.true in
    let at = ap cost_of (tree_at c.args.words.now k c.word-item.result test c.word-item.is) in
    let costs = costs_within words k (omega arith) in
    let bound = c.loop-word.invariant.grown.bound in
    let room = c.requires.room in
    omega arith

pub loop-word-preserved : goal.loop-word-preserved
loop-word-preserved c =
    let nets = c.args.nets.now in
    let k = c.loop-word.word-index in
    let words = trees_of c.args.words.now in
    let size = length-trees_of c.args.words.now in
    let test = c.loop-word-test.true in
    let t = tree_of c.word-item.result in
    let at = tree_at c.args.words.now k c.word-item.result test c.word-item.is in
    let b0 = c.args.builder.now in
    let b1 = c.loop-word.builder in
    let b2 = c.put_word.new.builder in
    let rows = c.loop-word.rows.items in
    let inv = c.loop-word.invariant in
    let e = c.in_ok-row.ensures in
    let P : Tree → Type 0 = λ u. IsWord nets words k u in
    let is = subst P at (c.requires.words k (omega arith)) in
    let S : List (List ℕ) → Type 0 = λ rs. Spells b2 c.in_ok-row.row 0 (width t) (bits_in nets rs t) (asks_in nets rs t) in
    let G : ℕ → Type 0 = λ n. Grown n b0 b2 in
    let cost : sum_by cost_of (take k words) + cost_of t ≡ sum_by cost_of (take (k + 1) words) =
    ap (λ u. sum_by cost_of (take k words) + cost_of u) (sym at) ∙ sym (costs_next words k (omega arith)) in
    record {
      grown = subst G cost (grown_twice (sum_by cost_of (take k words)) (cost_of t) b0 b1 b2 inv.grown e.grown);
      rows = one_more_row c.words_follow_their_picks.ensures nets words k (cost_of t) b1 b2 rows c.push.new.self.items c.in_ok-row.row t inv.rows at is
          c.in_ok-push.ensures.items e.size e.grown (subst S c.deref.ensures.value e.spells);
    }
