use Rattle.std.proofs.Common.{rules, ◌≡◌, ℕ, suc, ◌+◌, ◌-◌, ◌++◌, List, Option, map, length, drop, OnOk, Result, Ok, Err, arith, subst, sym, ap, ◌∙◌}
use Rattle.eq_names.specs.declared.BitName.{BitName}
use Rattle.eq_net.specs.declared.types.WordBit.{WordBit}
use Rattle.eq_net.specs.declared.types.Word.TheViews.{the_lemmas}
use Rattle.eq_net.specs.Meaning.{result_size, width}
use Rattle.eq_net.specs.Net.{number_of}
use Rattle.eq_net.specs.Tree.{Tree, tree_of, trees_of, opposite, binary, reduced, choice, join_all}
use Rattle.eq_marks.specs.inner.Carrying.{IsFitting, carried, mark_of, rows_mark}
use Rattle.eq_marks.specs.inner.Marks.{GrowsBy, Overwrites, mixed, mixed_all, operated, part}
use Rattle.eq_marks.proofs.MarkWords.{all_of_second, combined, dropped, mixed_with, part_before, part_fitting, pushed, reduced_to, summed_up, worked}
use Rattle.eq_marks.proofs.WordTrees.{tree_of-Read, tree_of-Pick, tree_of-Neg, tree_of-Binary, tree_of-Reduce, tree_of-Mux, tree_at, length-trees_of}
use Rattle.eq_marks.proofs.carrying.+words.Goals as goal

on_ok : {T E : Type 0} {P Q : Type 0} (r : Result T E) → (P → Q) → OnOk r P → OnOk r Q
on_ok (Ok x) f h = f h
on_ok (Err e) f h = h

pub push_word-returns-in-Read : goal.push_word-returns-in-Read
push_word-returns-in-Read t c =
    let f : BitName → Option ℕ = λ n. mark_of c.args.marks.now (number_of c.args.nets.now n) in
    let old = c.args.stack.now.items in
    let new = c.push_named.new.stack.items in
    let tree = ap tree_of c.in-Read.is ∙ tree_of-Read c.in-Read.names in
    let P : Tree → Type 0 = λ x. GrowsBy (carried c.args.way f (rows_mark c.args.rows.now) x) (width x) old new in
    let names : new ≡ old ++ map f c.as_slice.result.now → new ≡ old ++ map f c.in-Read.names =
    λ e. e ∙ ap (λ (ns : List BitName). old ++ map f ns) c.as_slice.ensures in
    on_ok c.push_named.result (λ is. subst P (sym tree) (pushed f c.in-Read.names old new (names is)))
    c.push_named.ensures

pub push_word-returns-in-Pick : goal.push_word-returns-in-Pick
push_word-returns-in-Pick t c =
    let e = rows_mark c.args.rows.now in
    let named : BitName → Option ℕ = λ n. mark_of c.args.marks.now (number_of c.args.nets.now n) in
    let f : WordBit → Option ℕ = λ b. e b.word b.bit in
    let old = c.args.stack.now.items in
    let new = c.push_picked.new.stack.items in
    let tree = ap tree_of c.in-Pick.is ∙ tree_of-Pick c.in-Pick.bits in
    let P : Tree → Type 0 = λ x. GrowsBy (carried c.args.way named e x) (width x) old new in
    let bits : new ≡ old ++ map f c.as_slice-in-Pick.result.now → new ≡ old ++ map f c.in-Pick.bits =
    λ e. e ∙ ap (λ (ns : List WordBit). old ++ map f ns) c.as_slice-in-Pick.ensures in
    on_ok c.push_picked.result (λ is. subst P (sym tree) (pushed f c.in-Pick.bits old new (bits is)))
    c.push_picked.ensures

pub push_word-returns-in_ok-push_word-in-Neg : goal.push_word-returns-in_ok-push_word-in-Neg
push_word-returns-in_ok-push_word-in-Neg t c =
    let way = c.args.way in
    let marks = carried way (λ n. mark_of c.args.marks.now (number_of c.args.nets.now n)) (rows_mark c.args.rows.now) in
    let a = tree_of c.get-in-Neg.result.now in
    let s0 = c.args.stack.now.items in
    let s1 = c.push_word-in-Neg.new.stack.items in
    let s2 = c.mix_up.new.stack.items in
    let tree : tree_of c.args.word.now ≡ opposite a = ap tree_of c.in-Neg.is ∙ tree_of-Neg c.in-Neg.a ∙ ap (λ x.
    opposite (tree_of x)) (sym c.get-in-Neg.ensures) in
    let P : Tree → Type 0 = λ x. GrowsBy (marks x) (width x) s0 s2 in
    let start : c.len-from.result ≡ length s0 = (let e = c.len-from.ensures in let ok = c.args.stack.now.ok in omega
    arith) in
    let Q : ℕ → Type 0 = λ n. Overwrites n (λ j. mixed_all way (suc j) (part s1 n)) (length s1 - n) s1 s2 in
    subst P (sym tree) (summed_up way (marks a) (width a) s0 s1 c.in_ok-push_word-in-Neg.ensures s2 (subst Q start
    c.mix_up.ensures))

pub push_word-returns-in_ok-push_word-in-Reduce : goal.push_word-returns-in_ok-push_word-in-Reduce
push_word-returns-in_ok-push_word-in-Reduce t c =
    let way = c.args.way in
    let marks = carried way (λ n. mark_of c.args.marks.now (number_of c.args.nets.now n)) (rows_mark c.args.rows.now) in
    let o = c.in-Reduce.field-0 in
    let a = tree_of c.get-in-Reduce.result.now in
    let s0 = c.args.stack.now.items in
    let s1 = c.push_word-in-Reduce.new.stack.items in
    let s2 = c.leave_one.new.stack.items in
    let tree : tree_of c.args.word.now ≡ reduced o a = ap tree_of c.in-Reduce.is ∙ tree_of-Reduce o c.in-Reduce.a ∙ ap
    (λ x. reduced o (tree_of x)) (sym c.get-in-Reduce.ensures) in
    let P : Tree → Type 0 = λ x. GrowsBy (marks x) (width x) s0 s2 in
    let from = c.len-from.result in
    let start : from ≡ length s0 = (let e = c.len-from.ensures in let ok = c.args.stack.now.ok in omega arith) in
    let n = c.len-in-Reduce.result - from in
    let count : n ≡ length s1 - length s0 = (let e = c.len-in-Reduce.ensures in let ok =
    c.push_word-in-Reduce.new.stack.ok in omega arith) in
    let Q : ℕ → Type 0 = λ k. Overwrites k (λ j. mixed_all way n (part s1 k)) 1 s1 s2 in
    let R : Option ℕ → Type 0 = λ x. Overwrites from (λ j. x) 1 s1 s2 in
    on_ok c.leave_one.result (λ r. subst P (sym tree) (reduced_to way (marks a) (width a) s0 s1
    c.in_ok-push_word-in-Reduce.ensures n s2 count
    (subst Q start (subst R c.mix_all-all.ensures r)))) c.leave_one.ensures

pub push_word-returns-in_ok-push_word-in-Binary-2 : goal.push_word-returns-in_ok-push_word-in-Binary-2
push_word-returns-in_ok-push_word-in-Binary-2 t c =
    let way = c.args.way in
    let marks = carried way (λ n. mark_of c.args.marks.now (number_of c.args.nets.now n)) (rows_mark c.args.rows.now) in
    let o = c.in-Binary.op in
    let a = tree_of c.get-in-Binary.result.now in
    let b = tree_of c.get-in-Binary-2.result.now in
    let s0 = c.args.stack.now.items in
    let s1 = c.push_word-in-Binary.new.stack.items in
    let s2 = c.push_word-in-Binary-2.new.stack.items in
    let s3 = c.operate.new.stack.items in
    let tree : tree_of c.args.word.now ≡ binary o a b = ap tree_of c.in-Binary.is ∙ tree_of-Binary o c.in-Binary.a
    c.in-Binary.b
    ∙ ap (λ x. binary o (tree_of x) (tree_of c.in-Binary.b)) (sym c.get-in-Binary.ensures) ∙ ap (λ x. binary o a
    (tree_of x)) (sym c.get-in-Binary-2.ensures) in
    let P : Tree → Type 0 = λ x. GrowsBy (marks x) (width x) s0 s3 in
    let S : Tree → Type 0 = λ x. IsFitting c.args.nets.now x in
    let fitting = subst S tree c.requires.fitting in
    let start : c.len-from.result ≡ length s0 = (let e = c.len-from.ensures in let ok = c.args.stack.now.ok in omega
    arith) in
    let middle : c.len-right.result ≡ length s1 = (let e = c.len-right.ensures in let ok =
    c.push_word-in-Binary.new.stack.ok in omega arith) in
    let Q : ℕ → Type 0 = λ n. Overwrites n (operated way o (c.len-right.result - n) (length s2 - c.len-right.result)
    (part s2 n) (part s2 c.len-right.result)) (result_size o (c.len-right.result - n)) s2 s3 in
    let R : ℕ → Type 0 = λ n. Overwrites (length s0) (operated way o (n - length s0) (length s2 - n) (part s2 (length
    s0)) (part s2 n)) (result_size o (n - length s0)) s2 s3 in
    on_ok c.operate.result (λ r. subst P (sym tree) (worked way (marks a) (marks b) (width a) (width b) s0 s1 s2
    c.in_ok-push_word-in-Binary.ensures c.in_ok-push_word-in-Binary-2.ensures
    o s3 fitting.2 (subst R middle (subst Q start r)))) c.operate.ensures

pub push_word-returns-in_ok-push_word-in-Mux-3 : goal.push_word-returns-in_ok-push_word-in-Mux-3
push_word-returns-in_ok-push_word-in-Mux-3 t c =
    let way = c.args.way in
    let marks = carried way (λ n. mark_of c.args.marks.now (number_of c.args.nets.now n)) (rows_mark c.args.rows.now) in
    let a = tree_of c.get-in-Mux.result.now in
    let b = tree_of c.get-in-Mux-2.result.now in
    let k = tree_of c.get-in-Mux-3.result.now in
    let s0 = c.args.stack.now.items in
    let s1 = c.push_word-in-Mux.new.stack.items in
    let s2 = c.push_word-in-Mux-2.new.stack.items in
    let s3 = c.combine.new.stack.items in
    let s4 = c.push_word-in-Mux-3.new.stack.items in
    let s5 = c.drop_from.new.stack.items in
    let s6 = c.mix_in-in-Mux.new.stack.items in
    let from = c.len-from.result in
    let r = c.len-right-in-Mux.result in
    let tree : tree_of c.args.word.now ≡ choice k a b = ap tree_of c.in-Mux.is ∙ tree_of-Mux c.in-Mux.c c.in-Mux.a
    c.in-Mux.b
    ∙ ap (λ x. choice (tree_of x) (tree_of c.in-Mux.a) (tree_of c.in-Mux.b)) (sym c.get-in-Mux-3.ensures) ∙ ap (λ x.
    choice k (tree_of x) (tree_of c.in-Mux.b)) (sym c.get-in-Mux.ensures)
    ∙ ap (λ x. choice k a (tree_of x)) (sym c.get-in-Mux-2.ensures) in
    let P : Tree → Type 0 = λ x. GrowsBy (marks x) (width x) s0 s6 in
    let S : Tree → Type 0 = λ x. IsFitting c.args.nets.now x in
    let fitting = subst S tree c.requires.fitting in
    let start : from ≡ length s0 = (let e = c.len-from.ensures in let ok = c.args.stack.now.ok in omega arith) in
    let middle : r ≡ length s1 = (let e = c.len-right-in-Mux.ensures in let ok = c.push_word-in-Mux.new.stack.ok in
    omega arith) in
    let Q : ℕ → Type 0 = λ n. Overwrites n (λ j. mixed way (part s2 n j) (part s2 r j)) (r - n) s2 s3 in
    let R : ℕ → Type 0 = λ n. Overwrites (length s0) (λ j. mixed way (part s2 (length s0) j) (part s2 n j)) (n - length
    s0) s2 s3 in
    let both = combined way (marks a) (marks b) (width a) (width b) s0 s1 s2 c.in_ok-push_word-in-Mux.ensures
    c.in_ok-push_word-in-Mux-2.ensures
    s3 fitting.3 (subst R middle (subst Q start c.combine.ensures)) in
    let mixes : ℕ → Option ℕ = λ j. mixed way (marks a j) (marks b j) in
    let third = c.in_ok-push_word-in-Mux-3.ensures in
    let top : length s3 ≡ r = (let e = both.size in let g = (c.in_ok-push_word-in-Mux.ensures).size in omega arith) in
    let n = c.len-in-Mux.result - r in
    let count : n ≡ length s4 - length s3 = (let e = c.len-in-Mux.ensures in let ok = c.push_word-in-Mux-3.new.stack.ok
    in omega arith) in
    let at : r ≡ length s3 = omega arith in
    let condition : c.mix_all-condition.result ≡ mixed_all way (width k) (marks k) =
    c.mix_all-condition.ensures ∙ ap (λ (p : ℕ). mixed_all way n (part s4 p)) at
    ∙ all_of_second way mixes (marks k) (width a) (width k) s0 s3 s4 both third n count in
    let d = c.drop_from.ensures in
    let low = dropped mixes (width a) s0 s3 s4 s5 both (let e = d.size in omega arith) third.kept (λ i lt. d.kept i
    (omega arith)) in
    let T : ℕ → Type 0 = λ p. Overwrites p (λ j. mixed way (part s5 p j) c.mix_all-condition.result) (length s5 - p) s5
    s6 in
    subst P (sym tree) (mixed_with way mixes (width a) s0 s5 low c.mix_all-condition.result (mixed_all way (width k)
    (marks k)) s6 condition
    (subst T start c.mix_in-in-Mux.ensures))

pub push_parts-push_word-requires : goal.push_parts-push_word-requires
push_parts-push_word-requires t c =
    let k = length c.args.parts.now - 1 - c.loop-turn.turn in
    let size = length-trees_of c.args.parts.now in
    let test = c.loop-turn-test.true in
    let at = tree_at c.args.parts.now k c.index-parts-parts.result (omega arith) c.index-parts-parts.is in
    let P : Tree → Type 0 = λ x. IsFitting c.args.nets.now x in (
      search (rules, the_lemmas),
      (
        subst P at (part_fitting c.args.nets.now (trees_of c.args.parts.now) k (omega arith)
            c.requires.fitting),
        (c.requires.starts, c.requires.bits),
      ),
    )

pub push_parts-loop-turn-preserved : goal.push_parts-loop-turn-preserved
push_parts-loop-turn-preserved t c =
    let way = c.args.way in
    let named : BitName → Option ℕ = λ n. mark_of c.args.marks.now (number_of c.args.nets.now n) in
    let e = rows_mark c.args.rows.now in
    let ts = trees_of c.args.parts.now in
    let n = length c.args.parts.now in
    let k = n - 1 - c.loop-turn.turn in
    let size = length-trees_of c.args.parts.now in
    let test = c.loop-turn-test.true in
    let at = tree_at c.args.parts.now k c.index-parts-parts.result (omega arith) c.index-parts-parts.is in
    let s0 = c.args.stack.now.items in
    let s1 = c.loop-turn.stack.items in
    let s2 = c.push_word.new.stack.items in
    let before : n - c.loop-turn.turn ≡ suc k = omega arith in
    let after : k ≡ n - (c.loop-turn.turn + 1) = omega arith in
    let P : ℕ → Type 0 = λ i. GrowsBy (carried way named e (join_all (drop i ts))) (width (join_all (drop i ts))) s0 s1
    in
    let Q : ℕ → Type 0 = λ i. GrowsBy (carried way named e (join_all (drop i ts))) (width (join_all (drop i ts))) s0 s2
    in
    let R : Tree → Type 0 = λ x. GrowsBy (carried way named e x) (width x) s1 s2 in
    subst Q after (part_before way named e ts k s0 s1 s2 (omega arith) (subst P before c.loop-turn.invariant) (subst R
    (sym at) c.in_ok-push_word.ensures))
