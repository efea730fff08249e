use Rattle.std.proofs.Common.{◌≡◌, ℕ, ◌+◌, List, length, arith, ap, subst, sym, ◌∙◌}
use Rattle.eq_net.specs.Tree.{Tree, tree_of, trees_of}
use Rattle.eq_net.specs.Net.{IsWord}
use Rattle.eq_reads.specs.Words.{IsReady, number_at}
use Rattle.eq_reads.specs.inner.Reading.{WordGrew}
use Rattle.eq_reads.proofs.Grown.{grew_none, grew_then}
use Rattle.eq_reads.proofs.Layers.{length-trees_of, tree_at}
use Rattle.eq_reads.proofs.Rows.{ready_next}
use Rattle.eq_reads.proofs.words.push_words.Goals as goal

pub loop-w-init : goal.loop-w-init
loop-w-init c = record {
  count = ap length c.requires.none;
  grew = grew_none c.args.nodes.now c.requires.ready.are;
  ready = c.requires.ready;
}

pub push_word-requires-clause-word : goal.push_word-requires-clause-word
push_word-requires-clause-word c =
    let nets = c.args.nets.now in
    let all = c.args.words.now in
    let words = trees_of c.args.words.now in
    let w = c.loop-w.w in
    let test = c.loop-w-test.true in
    let size = length-trees_of all in
    let item = c.index-words-w.result in
    let at = tree_at all w item (omega arith) c.index-words-w.is in
    let count = sym c.loop-w.invariant.count ∙ ap (λ (ps : List ℕ). length ps) (sym c.as_slice.ensures.value) in
    subst (λ (n : ℕ). IsWord nets words n (tree_of item)) count
    (subst (λ (t : Tree). IsWord nets words w t) at (c.requires.words w (omega arith)))

pub push_word-requires-clause-ready : goal.push_word-requires-clause-ready
push_word-requires-clause-ready c =
    subst (λ (ps : List ℕ). IsReady c.args.nets.now (trees_of c.args.words.now) ps c.loop-w.nodes c.loop-w.row.items)
    (sym c.as_slice.ensures.value) c.loop-w.invariant.ready

pub loop-w-preserved : goal.loop-w-preserved
loop-w-preserved c =
    let nets = c.args.nets.now in
    let all = c.args.words.now in
    let words = trees_of c.args.words.now in
    let w = c.loop-w.w in
    let s = c.loop-w.nodes in
    let row = c.loop-w.row.items in
    let places = c.loop-w.places.items in
    let now = c.push_word.new.nodes in
    let after = c.push_word.new.row.items in
    let places_after = c.push.new.row.items in
    let test = c.loop-w-test.true in
    let size = length-trees_of all in
    let item = c.index-words-w.result in
    let at = tree_at all w item (omega arith) c.index-words-w.is in
    let count = c.loop-w.invariant.count in
    let grew = subst (λ (t : Tree). WordGrew nets words places s row now after t) (sym at)
    (subst (λ (ps : List ℕ). WordGrew nets words ps s row now after (tree_of item)) c.as_slice.ensures.value
    c.in_ok-push_word.ensures) in
    let begin = c.len-begin.ensures in
    let count_after : length places_after ≡ w + 1 = (let e = c.in_ok-push.ensures.size in omega arith) in
    let last : number_at places_after w ≡ length row =
    subst (λ (k : ℕ). number_at places_after k ≡ length row) count (let e = c.in_ok-push.ensures.there in omega arith)
    in
    record {
      count = count_after;
      grew = grew_then c.args.nodes.now s now c.loop-w.invariant.grew grew.nodes;
      ready = ready_next nets words places places_after s row now after w count c.loop-w.invariant.ready grew count_after
          (λ v lt. c.in_ok-push.ensures.kept v (omega arith)) last;
    }

pub returns-clause-count : goal.returns-clause-count
returns-clause-count c =
    let test = c.loop-w-test.false in
    let end = c.loop-w.auto.w-end in
    let size = length-trees_of c.args.words.now in
    let count = c.loop-w.invariant.count in
    omega arith

pub returns-clause-grew : goal.returns-clause-grew
returns-clause-grew c = c.loop-w.invariant.grew

pub returns-clause-ready : goal.returns-clause-ready
returns-clause-ready c = c.loop-w.invariant.ready
