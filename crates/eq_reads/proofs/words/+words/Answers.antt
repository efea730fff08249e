use Rattle.std.proofs.Common.{rules, ◌≡◌, ℕ, suc, ◌+◌, ◌-◌, ◌<◌, ◌↔◌, All, List, drop, length, arith, subst, sym, ap, ◌∙◌}
use Rattle.std.proofs.lemmas.Result.{on_ok_weaker}
use Rattle.eq_names.specs.declared.BitName.{BitName}
use Rattle.eq_net.specs.declared.types.WordBit.{WordBit}
use Rattle.eq_net.specs.declared.types.Word.TheViews.{the_lemmas}
use Rattle.eq_net.specs.Meaning.{width}
use Rattle.eq_net.specs.Net.{IsWord}
use Rattle.eq_net.specs.Tree.{Tree, binary, choice, extended, join_all, negated, opposite, reduced, tree_of, trees_of}
use Rattle.eq_reads.specs.declared.operators.Shape.{Shape}
use Rattle.eq_reads.specs.inner.Leading.{Appended, EachLeads, PairLeads, RowGrew, SomeLeads, UpLeads}
use Rattle.eq_reads.specs.Words.{LeadsTo, IsPlaced, number_at}
use Rattle.eq_reads.specs.inner.Reading.{TreeReads, WordGrew, named_at, picked_at}
use Rattle.eq_reads.specs.inner.Shapes.{AllLead, OperandsLead, size_of}
use Rattle.eq_reads.proofs.Layers.{length-trees_of, part_word, tree_at, tree_of-Binary, tree_of-Const, tree_of-Extend, tree_of-Mux, tree_of-Neg, tree_of-Not, tree_of-Pick, tree_of-Read, tree_of-Reduce}
use Rattle.eq_reads.proofs.Rows.{ready_still}
use Rattle.eq_reads.proofs.Worded.{binary_grew, choice_grew, const_grew, cut_row, extended_grew, opposite_grew, part_grew, pick_grew, placed_bits, read_grew, reduced_grew}
use Rattle.eq_reads.proofs.words.+words.Goals as goal

pub push_word-returns-in-Const : goal.push_word-returns-in-Const
push_word-returns-in-Const t c =
    let nets = c.args.nets.now in
    let words = trees_of c.args.words.now in
    let places = c.args.places.now in
    let s = c.args.nodes.now in
    let row = c.args.row.now.items in
    let after = c.fill.new.row.items in
    let bits = c.in-Const.bits in
    let tree = ap tree_of c.in-Const.is ∙ tree_of-Const bits in
    let P : Tree → Type 0 = λ x. WordGrew nets words places s row s after x in
    let Q : ℕ → Type 0 = λ n. Appended row after n (λ j. s.none) in
    let len = c.len.ensures in
    let is : c.len.result ≡ length bits = omega arith in
    on_ok_weaker c.fill.result (λ a. subst P (sym tree) (const_grew nets words places s row c.requires.ready after bits
    (subst Q is a))) c.fill.ensures

pub push_word-returns-in-Read : goal.push_word-returns-in-Read
push_word-returns-in-Read t c =
    let nets = c.args.nets.now in
    let words = trees_of c.args.words.now in
    let places = c.args.places.now in
    let s = c.args.nodes.now in
    let row = c.args.row.now.items in
    let after = c.push_names.new.row.items in
    let names = c.in-Read.names in
    let tree = ap tree_of c.in-Read.is ∙ tree_of-Read names in
    let all = subst (IsWord nets words (length places)) tree c.requires.word in
    let P : Tree → Type 0 = λ x. WordGrew nets words places s row s after x in
    let Q : List BitName → Type 0 = λ ns. Appended row after (length ns) (named_at nets ns) in
    on_ok_weaker c.push_names.result (λ a. subst P (sym tree) (read_grew nets words places s row c.requires.ready after
    names all (subst Q c.as_slice.ensures a)))
    c.push_names.ensures

pub push_word-returns-in-Pick : goal.push_word-returns-in-Pick
push_word-returns-in-Pick t c =
    let nets = c.args.nets.now in
    let words = trees_of c.args.words.now in
    let places = c.args.places.now in
    let s = c.args.nodes.now in
    let row = c.args.row.now.items in
    let after = c.push_picks.new.row.items in
    let bits = c.in-Pick.bits in
    let tree = ap tree_of c.in-Pick.is ∙ tree_of-Pick bits in
    let all = subst (IsWord nets words (length places)) tree c.requires.word in
    let P : Tree → Type 0 = λ x. WordGrew nets words places s row s after x in
    let Q : List WordBit → Type 0 = λ bs. Appended row after (length bs) (picked_at places row bs) in
    on_ok_weaker c.push_picks.result (λ a. subst P (sym tree) (pick_grew nets words places s row c.requires.ready after bits
    all (subst Q c.as_slice-in-Pick.ensures a)))
    c.push_picks.ensures

pub push_word-returns-in-Not : goal.push_word-returns-in-Not
push_word-returns-in-Not t c =
    let nets = c.args.nets.now in
    let words = trees_of c.args.words.now in
    let places = c.args.places.now in
    let s = c.args.nodes.now in
    let row = c.args.row.now.items in
    let tree : tree_of c.args.word.now ≡ negated (tree_of c.get.result.now) =
    ap tree_of c.in-Not.is ∙ tree_of-Not c.in-Not.a ∙ ap (λ x. negated (tree_of x)) (sym c.get.ensures) in
    let P : Tree → Type 0 = λ x. WordGrew nets words places s row c.push_word.new.nodes c.push_word.new.row.items x in
    on_ok_weaker c.push_word.result (λ h. subst P (sym tree) h) c.push_word.ensures

pub push_word-push_picks-requires : goal.push_word-push_picks-requires
push_word-push_picks-requires t c =
    let nets = c.args.nets.now in
    let words = trees_of c.args.words.now in
    let places = c.args.places.now in
    let s = c.args.nodes.now in
    let row = c.args.row.now.items in
    let bits = c.in-Pick.bits in
    let tree = ap tree_of c.in-Pick.is ∙ tree_of-Pick bits in
    let all = subst (IsWord nets words (length places)) tree c.requires.word in
    record {
      bits = subst (All (IsPlaced places row)) (sym c.as_slice-in-Pick.ensures)
          (placed_bits nets words places s row c.requires.ready bits all);
    }

pub push_word-returns-in_ok-push_word-in-Neg : goal.push_word-returns-in_ok-push_word-in-Neg
push_word-returns-in_ok-push_word-in-Neg t c =
    let nets = c.args.nets.now in
    let words = trees_of c.args.words.now in
    let places = c.args.places.now in
    let s = c.args.nodes.now in
    let row = c.args.row.now.items in
    let a = tree_of c.get-in-Neg.result.now in
    let tree : tree_of c.args.word.now ≡ opposite a = ap tree_of c.in-Neg.is ∙ tree_of-Neg c.in-Neg.a ∙ ap
    (λ x. opposite (tree_of x)) (sym c.get-in-Neg.ensures) in
    let mid = c.push_word-in-Neg.new.row.items in
    let mid_nodes = c.push_word-in-Neg.new.nodes in
    let now = c.climb.new.nodes in
    let after = c.climb.new.row.items in
    let len = c.len-from.ensures in
    let is : c.len-from.result ≡ length row = omega arith in
    let P : Tree → Type 0 = λ x. WordGrew nets words places s row now after x in
    let Q : ℕ → Type 0 = λ f. RowGrew mid_nodes mid now after f (length mid - f) (UpLeads mid_nodes mid f s.none) in
    on_ok_weaker c.climb.result
    (λ h. subst P (sym tree) (opposite_grew nets words places s row c.requires.ready mid_nodes mid a
    c.in_ok-push_word-in-Neg.ensures now after (subst Q is h)))
    c.climb.ensures

pub push_word-returns-in_ok-push_word-in-Reduce : goal.push_word-returns-in_ok-push_word-in-Reduce
push_word-returns-in_ok-push_word-in-Reduce t c =
    let nets = c.args.nets.now in
    let words = trees_of c.args.words.now in
    let places = c.args.places.now in
    let s = c.args.nodes.now in
    let row = c.args.row.now.items in
    let o = c.in-Reduce.field-0 in
    let a = tree_of c.get-in-Reduce.result.now in
    let tree : tree_of c.args.word.now ≡ reduced o a = ap tree_of c.in-Reduce.is ∙ tree_of-Reduce o c.in-Reduce.a ∙ ap
    (λ x. reduced o (tree_of x)) (sym c.get-in-Reduce.ensures) in
    let mid = c.push_word-in-Reduce.new.row.items in
    let mid_nodes = c.push_word-in-Reduce.new.nodes in
    let now = c.whole.new.nodes in
    let after = c.whole.new.row.items in
    let len = c.len-from.ensures in
    let is : c.len-from.result ≡ length row = omega arith in
    let P : Tree → Type 0 = λ x. WordGrew nets words places s row now after x in
    let Q : ℕ → Type 0 = λ f. RowGrew mid_nodes mid now after f 1 (AllLead mid_nodes mid f) in
    on_ok_weaker c.whole.result
    (λ h. subst P (sym tree) (reduced_grew nets words places s row c.requires.ready mid_nodes mid a
    c.in_ok-push_word-in-Reduce.ensures now after o (subst Q is h)))
    c.whole.ensures

pub push_word-returns-in_ok-push_word-in-Extend : goal.push_word-returns-in_ok-push_word-in-Extend
push_word-returns-in_ok-push_word-in-Extend t c =
    let nets = c.args.nets.now in
    let words = trees_of c.args.words.now in
    let places = c.args.places.now in
    let s = c.args.nodes.now in
    let row = c.args.row.now.items in
    let n = c.in-Extend.count in
    let a = tree_of c.get-in-Extend.result.now in
    let tree : tree_of c.args.word.now ≡ extended a n = ap tree_of c.in-Extend.is ∙ tree_of-Extend c.in-Extend.a n
    ∙ ap (λ x. extended (tree_of x) n) (sym c.get-in-Extend.ensures) in
    let mid = c.push_word-in-Extend.new.row.items in
    let mid_nodes = c.push_word-in-Extend.new.nodes in
    let after = c.fill-in-Extend.new.row.items in
    let len = c.len-from.ensures in
    let end = c.len-end.ensures in
    let word = subst (IsWord nets words (length places)) tree c.requires.word in
    let P : Tree → Type 0 = λ x. WordGrew nets words places s row mid_nodes after x in
    on_ok_weaker c.fill-in-Extend.result
    (λ h. subst P (sym tree) (extended_grew nets words places s row c.requires.ready mid_nodes mid a
    c.in_ok-push_word-in-Extend.ensures after n
    (n - (c.len-end.result - c.len-from.result)) word.1 h (omega arith)))
    c.fill-in-Extend.ensures

pub push_word-push_word-requires-in-Binary-2 : goal.push_word-push_word-requires-in-Binary-2
push_word-push_word-requires-in-Binary-2 t c =
    let nets = c.args.nets.now in
    let words = trees_of c.args.words.now in
    let places = c.args.places.now in
    let s = c.args.nodes.now in
    let row = c.args.row.now.items in
    let o = c.in-Binary.op in
    let a = tree_of c.get-in-Binary.result.now in
    let b = tree_of c.get-in-Binary-2.result.now in
    let tree : tree_of c.args.word.now ≡ binary o a b = ap tree_of c.in-Binary.is ∙ tree_of-Binary o c.in-Binary.a
    c.in-Binary.b
    ∙ ap (λ x. binary o (tree_of x) (tree_of c.in-Binary.b)) (sym c.get-in-Binary.ensures) ∙ ap
    (λ x. binary o a (tree_of x)) (sym c.get-in-Binary-2.ensures) in
    let word = subst (IsWord nets words (length places)) tree c.requires.word in
    let ready = ready_still nets words places s row c.push_word-in-Binary.new.nodes c.push_word-in-Binary.new.row.items
    (width a) (TreeReads nets words (length places) a)
    c.requires.ready c.in_ok-push_word-in-Binary.ensures in
    (search (rules, the_lemmas), (word.1, (c.requires.starts, (c.requires.few, ready))))

pub push_word-returns-in_ok-push_word-in-Binary-2 : goal.push_word-returns-in_ok-push_word-in-Binary-2
push_word-returns-in_ok-push_word-in-Binary-2 t c =
    let nets = c.args.nets.now in
    let words = trees_of c.args.words.now in
    let places = c.args.places.now in
    let s = c.args.nodes.now in
    let row = c.args.row.now.items in
    let o = c.in-Binary.op in
    let a = tree_of c.get-in-Binary.result.now in
    let b = tree_of c.get-in-Binary-2.result.now in
    let tree : tree_of c.args.word.now ≡ binary o a b = ap tree_of c.in-Binary.is ∙ tree_of-Binary o c.in-Binary.a
    c.in-Binary.b
    ∙ ap (λ x. binary o (tree_of x) (tree_of c.in-Binary.b)) (sym c.get-in-Binary.ensures) ∙ ap
    (λ x. binary o a (tree_of x)) (sym c.get-in-Binary-2.ensures) in
    let word = subst (IsWord nets words (length places)) tree c.requires.word in
    let mid = c.push_word-in-Binary.new.row.items in
    let mid_nodes = c.push_word-in-Binary.new.nodes in
    let low = c.push_word-in-Binary-2.new.row.items in
    let low_nodes = c.push_word-in-Binary-2.new.nodes in
    let now = c.operate.new.nodes in
    let after = c.operate.new.row.items in
    let len = c.len-from.ensures in
    let from_is : c.len-from.result ≡ length row = omega arith in
    let len_right = c.len-right.ensures in
    let right_is : c.len-right.result ≡ length mid = omega arith in
    let P : Tree → Type 0 = λ x. WordGrew nets words places s row now after x in
    let H : Shape → ℕ → ℕ → Type 0 = λ z f r. RowGrew low_nodes low now after f (size_of z (r - f))
    (OperandsLead z low_nodes low f r) in
    on_ok_weaker c.operate.result
    (λ h. subst P (sym tree) (binary_grew nets words places s row c.requires.ready mid_nodes mid a
    c.in_ok-push_word-in-Binary.ensures low_nodes low b
    c.in_ok-push_word-in-Binary-2.ensures now after o word.2
    (subst (λ (z : Shape). H z (length row) (length mid)) c.shape_of.ensures
    (subst (λ (r : ℕ). H c.shape_of.result (length row) r) right_is
    (subst (λ (f : ℕ). H c.shape_of.result f c.len-right.result) from_is h)))))
    c.operate.ensures

pub push_word-push_word-requires-in-Mux-2 : goal.push_word-push_word-requires-in-Mux-2
push_word-push_word-requires-in-Mux-2 t c =
    let nets = c.args.nets.now in
    let words = trees_of c.args.words.now in
    let places = c.args.places.now in
    let s = c.args.nodes.now in
    let row = c.args.row.now.items in
    let k = tree_of c.get-in-Mux.result.now in
    let a = tree_of c.get-in-Mux-2.result.now in
    let tree : tree_of c.args.word.now ≡ choice k a (tree_of c.in-Mux.b) = ap tree_of c.in-Mux.is ∙ tree_of-Mux
    c.in-Mux.c c.in-Mux.a c.in-Mux.b
    ∙ ap (λ x. choice (tree_of x) (tree_of c.in-Mux.a) (tree_of c.in-Mux.b)) (sym c.get-in-Mux.ensures)
    ∙ ap (λ x. choice k (tree_of x) (tree_of c.in-Mux.b)) (sym c.get-in-Mux-2.ensures) in
    let word = subst (IsWord nets words (length places)) tree c.requires.word in
    let t1 = c.push_word-in-Mux.new.nodes in
    let r1 = c.push_word-in-Mux.new.row.items in
    let t2 = c.gather.new.nodes in
    let r2 = c.cut.new.row.items in
    let len = c.len-from.ensures in
    let from_is : c.len-from.result ≡ length row = omega arith in
    let node = c.in_ok-condition-in-Mux.condition in
    let found = c.in_ok-condition-in-Mux.ensures in
    let all = subst (λ (f : ℕ). (x : ℕ) → LeadsTo t2 node x ↔ SomeLeads t1 r1 f (length r1) x) from_is found.ok in
    let size : length r2 ≡ length row = (let e = c.cut.ensures.size in omega arith) in
    let kept : (p : ℕ) → p < length row → number_at r2 p ≡ number_at r1 p = λ p lt. c.cut.ensures.kept p (omega arith)
    in
    let f = cut_row nets words places s row t1 r1 k c.in_ok-push_word-in-Mux.ensures t2 r2 node found.grew found.there all
    size kept in
    let ready = ready_still nets words places s row t2 r2 0 (λ j x. ⊥) c.requires.ready f in
    (search (rules, the_lemmas), (word.1, (c.requires.starts, (c.requires.few, ready))))

pub push_word-push_word-requires-in-Mux-3 : goal.push_word-push_word-requires-in-Mux-3
push_word-push_word-requires-in-Mux-3 t c =
    let nets = c.args.nets.now in
    let words = trees_of c.args.words.now in
    let places = c.args.places.now in
    let s = c.args.nodes.now in
    let row = c.args.row.now.items in
    let k = tree_of c.get-in-Mux.result.now in
    let a = tree_of c.get-in-Mux-2.result.now in
    let b = tree_of c.get-in-Mux-3.result.now in
    let tree : tree_of c.args.word.now ≡ choice k a b = ap tree_of c.in-Mux.is ∙ tree_of-Mux c.in-Mux.c c.in-Mux.a
    c.in-Mux.b
    ∙ ap (λ x. choice (tree_of x) (tree_of c.in-Mux.a) (tree_of c.in-Mux.b)) (sym c.get-in-Mux.ensures)
    ∙ ap (λ x. choice k (tree_of x) (tree_of c.in-Mux.b)) (sym c.get-in-Mux-2.ensures) ∙ ap
    (λ x. choice k a (tree_of x)) (sym c.get-in-Mux-3.ensures) in
    let word = subst (IsWord nets words (length places)) tree c.requires.word in
    let t1 = c.push_word-in-Mux.new.nodes in
    let r1 = c.push_word-in-Mux.new.row.items in
    let t2 = c.gather.new.nodes in
    let r2 = c.cut.new.row.items in
    let len = c.len-from.ensures in
    let from_is : c.len-from.result ≡ length row = omega arith in
    let node = c.in_ok-condition-in-Mux.condition in
    let found = c.in_ok-condition-in-Mux.ensures in
    let all = subst (λ (f : ℕ). (x : ℕ) → LeadsTo t2 node x ↔ SomeLeads t1 r1 f (length r1) x) from_is found.ok in
    let size : length r2 ≡ length row = (let e = c.cut.ensures.size in omega arith) in
    let kept : (p : ℕ) → p < length row → number_at r2 p ≡ number_at r1 p = λ p lt. c.cut.ensures.kept p (omega arith)
    in
    let f = cut_row nets words places s row t1 r1 k c.in_ok-push_word-in-Mux.ensures t2 r2 node found.grew found.there all
    size kept in
    let ready = ready_still nets words places s row t2 r2 0 (λ j x. ⊥) c.requires.ready f in
    let next = ready_still nets words places t2 r2 c.push_word-in-Mux-2.new.nodes c.push_word-in-Mux-2.new.row.items
    (width a) (TreeReads nets words (length places) a) ready
    c.in_ok-push_word-in-Mux-2.ensures in
    (search (rules, the_lemmas), (word.2, (c.requires.starts, (c.requires.few, next))))

pub push_word-returns-in_ok-combine-in-Mux : goal.push_word-returns-in_ok-combine-in-Mux
push_word-returns-in_ok-combine-in-Mux t c =
    let nets = c.args.nets.now in
    let words = trees_of c.args.words.now in
    let places = c.args.places.now in
    let s = c.args.nodes.now in
    let row = c.args.row.now.items in
    let k = tree_of c.get-in-Mux.result.now in
    let a = tree_of c.get-in-Mux-2.result.now in
    let b = tree_of c.get-in-Mux-3.result.now in
    let tree : tree_of c.args.word.now ≡ choice k a b = ap tree_of c.in-Mux.is ∙ tree_of-Mux c.in-Mux.c c.in-Mux.a
    c.in-Mux.b
    ∙ ap (λ x. choice (tree_of x) (tree_of c.in-Mux.a) (tree_of c.in-Mux.b)) (sym c.get-in-Mux.ensures)
    ∙ ap (λ x. choice k (tree_of x) (tree_of c.in-Mux.b)) (sym c.get-in-Mux-2.ensures) ∙ ap
    (λ x. choice k a (tree_of x)) (sym c.get-in-Mux-3.ensures) in
    let word = subst (IsWord nets words (length places)) tree c.requires.word in
    let t1 = c.push_word-in-Mux.new.nodes in
    let r1 = c.push_word-in-Mux.new.row.items in
    let t2 = c.gather.new.nodes in
    let r2 = c.cut.new.row.items in
    let len = c.len-from.ensures in
    let from_is : c.len-from.result ≡ length row = omega arith in
    let node = c.in_ok-condition-in-Mux.condition in
    let found = c.in_ok-condition-in-Mux.ensures in
    let all = subst (λ (f : ℕ). (x : ℕ) → LeadsTo t2 node x ↔ SomeLeads t1 r1 f (length r1) x) from_is found.ok in
    let size : length r2 ≡ length row = (let e = c.cut.ensures.size in omega arith) in
    let kept : (p : ℕ) → p < length row → number_at r2 p ≡ number_at r1 p = λ p lt. c.cut.ensures.kept p (omega arith)
    in
    let t3 = c.push_word-in-Mux-2.new.nodes in
    let r3 = c.push_word-in-Mux-2.new.row.items in
    let t4 = c.push_word-in-Mux-3.new.nodes in
    let r4 = c.push_word-in-Mux-3.new.row.items in
    let t5 = c.combine.new.nodes in
    let r5 = c.combine.new.row.items in
    let t6 = c.mix.new.nodes in
    let r6 = c.mix.new.row.items in
    let len_middle = c.len-middle.ensures in
    let middle_is : c.len-middle.result ≡ length r3 = omega arith in
    let H : ℕ → ℕ → Type 0 = λ f r. RowGrew t4 r4 t5 r5 f (r - f) (PairLeads t4 r4 f r) in
    let pairs = subst (λ (r : ℕ). H (length row) r) middle_is (subst (λ (f : ℕ). H f c.len-middle.result) from_is
    c.in_ok-combine-in-Mux.ensures) in
    let E : ℕ → Type 0 = λ f. RowGrew t5 r5 t6 r6 f (length r5 - f) (EachLeads t5 r5 f node) in
    let P : Tree → Type 0 = λ x. WordGrew nets words places s row t6 r6 x in
    on_ok_weaker c.mix.result
    (λ h. subst P (sym tree) (choice_grew nets words places s row t1 r1 k c.in_ok-push_word-in-Mux.ensures t2 r2 node
    found.grew found.there all size kept
    t3 r3 a c.in_ok-push_word-in-Mux-2.ensures t4 r4 b c.in_ok-push_word-in-Mux-3.ensures word.3 t5 r5 t6 r6 pairs
    (subst E from_is h)))
    c.mix.ensures

pub push_parts-push_word-requires : goal.push_parts-push_word-requires
push_parts-push_word-requires t c =
    let nets = c.args.nets.now in
    let words = trees_of c.args.words.now in
    let places = c.args.places.now in
    let s = c.args.nodes.now in
    let row = c.args.row.now.items in
    let ts = trees_of c.args.parts.now in
    let k = length c.args.parts.now - 1 - c.loop-turn.turn in
    let size = length-trees_of c.args.parts.now in
    let test = c.loop-turn-test.true in
    let at = tree_at c.args.parts.now k c.index-parts-parts.result (omega arith) c.index-parts-parts.is in
    let word = subst (IsWord nets words (length places)) at (part_word nets words (length places)
    ts k (omega arith) c.requires.word) in
    let rest = join_all (drop (length c.args.parts.now - c.loop-turn.turn) ts) in
    let ready = ready_still nets words places s row c.loop-turn.nodes c.loop-turn.row.items (width rest)
    (TreeReads nets words (length places) rest) c.requires.ready c.loop-turn.invariant in
    (search (rules, the_lemmas), (word, (c.requires.starts, (c.requires.few, ready))))

pub push_parts-loop-turn-preserved : goal.push_parts-loop-turn-preserved
push_parts-loop-turn-preserved t c =
    let nets = c.args.nets.now in
    let words = trees_of c.args.words.now in
    let places = c.args.places.now in
    let s = c.args.nodes.now in
    let row = c.args.row.now.items in
    let ts = trees_of c.args.parts.now in
    let n = length c.args.parts.now in
    let k = n - 1 - c.loop-turn.turn in
    let size = length-trees_of c.args.parts.now in
    let test = c.loop-turn-test.true in
    let at = tree_at c.args.parts.now k c.index-parts-parts.result (omega arith) c.index-parts-parts.is in
    let before : n - c.loop-turn.turn ≡ suc k = omega arith in
    let after_is : k ≡ n - (c.loop-turn.turn + 1) = omega arith in
    let mid_nodes = c.loop-turn.nodes in
    let mid = c.loop-turn.row.items in
    let now = c.push_word.new.nodes in
    let after = c.push_word.new.row.items in
    subst (λ (i : ℕ). WordGrew nets words places s row now after (join_all (drop i ts))) after_is
    (part_grew nets words places s row mid_nodes mid now after ts k (omega arith)
    (subst (λ (i : ℕ). WordGrew nets words places s row mid_nodes mid (join_all (drop i ts))) before c.loop-turn.invariant)
    (subst (λ (x : Tree). WordGrew nets words places mid_nodes mid now after x) (sym at) c.in_ok-push_word.ensures))
