use Rattle.std.proofs.Common.{rules, ◌≡◌, ℕ, suc, ◌+◌, ◌-◌, ◌++◌, List, Bool, map, length, drop, OnOk, Result, Ok, Err, arith, subst, sym, ap, ◌∙◌}
use Rattle.eq_model.specs.Frames.{frames, values}
use Rattle.eq_names.specs.declared.BitName.{BitName}
use Rattle.eq_net.specs.declared.types.WordBit.{WordBit}
use Rattle.eq_net.specs.declared.types.Word.TheViews.{the_lemmas}
use Rattle.eq_net.specs.Tree.{Tree, tree_of, trees_of, opposite, binary, reduced, choice, join_all}
use Rattle.eq_net.specs.Operators.{apply, choose, negative, one_bit, reduce}
use Rattle.eq_net.specs.Meaning.{bit_of, result_size, width}
use Rattle.eq_net.specs.Net.{number_of}
use Rattle.eq_net.specs.inner.Sized.{IsSized}
use Rattle.eq_net.specs.inner.Stack.{Grows, Replaces, part}
use Rattle.eq_net.proofs.Stacked.{chosen, operated, opposed, reduced_to}
use Rattle.eq_net.proofs.Pushed.{part_before, part_sized, pushed}
use Rattle.eq_net.proofs.Trees.{tree_of-Read, tree_of-Pick, tree_of-Neg, tree_of-Binary, tree_of-Reduce, tree_of-Mux, tree_at, length-trees_of}
use Rattle.eq_net.proofs.word.+words.Goals as goal

on_ok : {T E : Type 0} {P Q : Type 0} (r : Result T E) → (P → Q) → OnOk r P → OnOk r Q
on_ok (Ok x) f h = f h
on_ok (Err e) f h = h

pub push_word-returns-in-Read : goal.push_word-returns-in-Read
push_word-returns-in-Read t c =
    let v = values c.args.now.now in
    let number = number_of c.args.nets.now in
    let f : BitName → Bool = λ n. v (number n) in
    let old = c.args.stack.now.items in
    let new = c.push_named.new.stack.items in
    let tree = ap tree_of c.in-Read.is ∙ tree_of-Read c.in-Read.names in
    let P : Tree → Type 0 = λ x. Grows (bit_of v number (frames c.args.earlier.now) x) (width x) old new in
    let names : new ≡ old ++ map f c.as_slice-in-Read.result.now → new ≡ old ++ map f c.in-Read.names =
    λ e. e ∙ ap (λ (ns : List BitName). old ++ map f ns) c.as_slice-in-Read.ensures in
    on_ok c.push_named.result (λ is. subst P (sym tree) (pushed f c.in-Read.names old new (names is))) c.push_named.ensures

pub push_word-returns-in-Pick : goal.push_word-returns-in-Pick
push_word-returns-in-Pick t c =
    let e = frames c.args.earlier.now in
    let f : WordBit → Bool = λ b. e b.word b.bit in
    let old = c.args.stack.now.items in
    let new = c.push_picked.new.stack.items in
    let tree = ap tree_of c.in-Pick.is ∙ tree_of-Pick c.in-Pick.bits in
    let P : Tree → Type 0 = λ x. Grows (bit_of (values c.args.now.now) (number_of c.args.nets.now) e x) (width x) old new in
    let bits : new ≡ old ++ map f c.as_slice-in-Pick.result.now → new ≡ old ++ map f c.in-Pick.bits =
    λ e. e ∙ ap (λ (ns : List WordBit). old ++ map f ns) c.as_slice-in-Pick.ensures in
    on_ok c.push_picked.result (λ is. subst P (sym tree) (pushed f c.in-Pick.bits old new (bits is))) c.push_picked.ensures

pub push_word-returns-in_ok-push_word-in-Neg : goal.push_word-returns-in_ok-push_word-in-Neg
push_word-returns-in_ok-push_word-in-Neg t c =
    let bits = bit_of (values c.args.now.now) (number_of c.args.nets.now) (frames c.args.earlier.now) in
    let a = tree_of c.get-in-Neg.result.now in
    let s0 = c.args.stack.now.items in
    let s1 = c.push_word-in-Neg.new.stack.items in
    let s2 = c.oppose.new.stack.items in
    let tree : tree_of c.args.word.now ≡ opposite a = ap tree_of c.in-Neg.is ∙ tree_of-Neg c.in-Neg.a ∙ ap (λ x. opposite (tree_of x)) (sym c.get-in-Neg.ensures) in
    let P : Tree → Type 0 = λ x. Grows (bits x) (width x) s0 s2 in
    let start : c.len-from.result ≡ length s0 = (let e = c.len-from.ensures in let ok = c.args.stack.now.ok in omega arith) in
    let Q : ℕ → Type 0 = λ n. Replaces n (negative (length s1 - n) (part s1 n)) (length s1 - n) s1 s2 in
    subst P (sym tree) (opposed (bits a) (width a) s0 s1 c.in_ok-push_word-in-Neg.ensures s2 (subst Q start c.oppose.ensures))

pub push_word-returns-in_ok-push_word-in-Reduce : goal.push_word-returns-in_ok-push_word-in-Reduce
push_word-returns-in_ok-push_word-in-Reduce t c =
    let bits = bit_of (values c.args.now.now) (number_of c.args.nets.now) (frames c.args.earlier.now) in
    let o = c.in-Reduce.op in
    let a = tree_of c.get-in-Reduce.result.now in
    let s0 = c.args.stack.now.items in
    let s1 = c.push_word-in-Reduce.new.stack.items in
    let s2 = c.reduce_to_one.new.stack.items in
    let tree : tree_of c.args.word.now ≡ reduced o a = ap tree_of c.in-Reduce.is ∙ tree_of-Reduce o c.in-Reduce.a ∙ ap (λ x. reduced o (tree_of x)) (sym c.get-in-Reduce.ensures) in
    let P : Tree → Type 0 = λ x. Grows (bits x) (width x) s0 s2 in
    let start : c.len-from.result ≡ length s0 = (let e = c.len-from.ensures in let ok = c.args.stack.now.ok in omega arith) in
    let Q : ℕ → Type 0 = λ n. Replaces n (one_bit (reduce o (length s1 - n) (part s1 n))) 1 s1 s2 in
    on_ok c.reduce_to_one.result (λ r. subst P (sym tree) (reduced_to (bits a) (width a) s0 s1 c.in_ok-push_word-in-Reduce.ensures o s2 (subst Q start r))) c.reduce_to_one.ensures

pub push_word-returns-in_ok-push_word-in-Binary-2 : goal.push_word-returns-in_ok-push_word-in-Binary-2
push_word-returns-in_ok-push_word-in-Binary-2 t c =
    let bits = bit_of (values c.args.now.now) (number_of c.args.nets.now) (frames c.args.earlier.now) in
    let o = c.in-Binary.op in
    let a = tree_of c.get-in-Binary.result.now in
    let b = tree_of c.get-in-Binary-2.result.now in
    let s0 = c.args.stack.now.items in
    let s1 = c.push_word-in-Binary.new.stack.items in
    let s2 = c.push_word-in-Binary-2.new.stack.items in
    let s3 = c.operate.new.stack.items in
    let tree : tree_of c.args.word.now ≡ binary o a b = ap tree_of c.in-Binary.is ∙ tree_of-Binary o c.in-Binary.a c.in-Binary.b
    ∙ ap (λ x. binary o (tree_of x) (tree_of c.in-Binary.b)) (sym c.get-in-Binary.ensures) ∙ ap (λ x. binary o a (tree_of x)) (sym c.get-in-Binary-2.ensures) in
    let P : Tree → Type 0 = λ x. Grows (bits x) (width x) s0 s3 in
    let S : Tree → Type 0 = λ x. IsSized c.args.nets.now x in
    let sized = subst S tree c.requires.sized in
    let start : c.len-from.result ≡ length s0 = (let e = c.len-from.ensures in let ok = c.args.stack.now.ok in omega arith) in
    let Q : ℕ → Type 0 = λ n. Replaces n (apply o (c.len-right.result - n) (length s2 - c.len-right.result) (part s2 n) (part s2 c.len-right.result)) (result_size o (c.len-right.result - n)) s2 s3 in
    let middle : c.len-right.result ≡ length s1 = (let e = c.len-right.ensures in let ok = c.push_word-in-Binary.new.stack.ok in omega arith) in
    let R : ℕ → Type 0 = λ n. Replaces (length s0) (apply o (n - length s0) (length s2 - n) (part s2 (length s0)) (part s2 n)) (result_size o (n - length s0)) s2 s3 in
    on_ok c.operate.result (λ r. subst P (sym tree) (operated (bits a) (bits b) (width a) (width b) s0 s1 s2 c.in_ok-push_word-in-Binary.ensures c.in_ok-push_word-in-Binary-2.ensures
    o s3 sized.2 (subst R middle (subst Q start r)))) c.operate.ensures

pub push_word-returns-in_ok-push_word-in-Mux-3 : goal.push_word-returns-in_ok-push_word-in-Mux-3
push_word-returns-in_ok-push_word-in-Mux-3 t c =
    let bits = bit_of (values c.args.now.now) (number_of c.args.nets.now) (frames c.args.earlier.now) in
    let k = tree_of c.get-in-Mux.result.now in
    let a = tree_of c.get-in-Mux-2.result.now in
    let b = tree_of c.get-in-Mux-3.result.now in
    let s0 = c.args.stack.now.items in
    let s1 = c.push_word-in-Mux.new.stack.items in
    let s2 = c.push_word-in-Mux-2.new.stack.items in
    let s3 = c.push_word-in-Mux-3.new.stack.items in
    let s4 = c.choose_one.new.stack.items in
    let l = c.len-left.result in
    let r = c.len-right-in-Mux.result in
    let tree : tree_of c.args.word.now ≡ choice k a b = ap tree_of c.in-Mux.is ∙ tree_of-Mux c.in-Mux.c c.in-Mux.a c.in-Mux.b
    ∙ ap (λ x. choice (tree_of x) (tree_of c.in-Mux.a) (tree_of c.in-Mux.b)) (sym c.get-in-Mux.ensures) ∙ ap (λ x. choice k (tree_of x) (tree_of c.in-Mux.b)) (sym c.get-in-Mux-2.ensures)
    ∙ ap (λ x. choice k a (tree_of x)) (sym c.get-in-Mux-3.ensures) in
    let P : Tree → Type 0 = λ x. Grows (bits x) (width x) s0 s4 in
    let S : Tree → Type 0 = λ x. IsSized c.args.nets.now x in
    let sized = subst S tree c.requires.sized in
    let start : c.len-from.result ≡ length s0 = (let e = c.len-from.ensures in let ok = c.args.stack.now.ok in omega arith) in
    let Q : ℕ → Type 0 = λ n. Replaces n (choose (l - n) (part s3 n) (part s3 l) (part s3 r)) (r - l) s3 s4 in
    let middle : l ≡ length s1 = (let e = c.len-left.ensures in let ok = c.push_word-in-Mux.new.stack.ok in omega arith) in
    let last : r ≡ length s2 = (let e = c.len-right-in-Mux.ensures in let ok = c.push_word-in-Mux-2.new.stack.ok in omega arith) in
    let R : ℕ → Type 0 = λ n. Replaces (length s0) (choose (n - length s0) (part s3 (length s0)) (part s3 n) (part s3 r)) (r - n) s3 s4 in
    let T : ℕ → Type 0 = λ n. Replaces (length s0) (choose (length s1 - length s0) (part s3 (length s0)) (part s3 (length s1)) (part s3 n)) (n - length s1) s3 s4 in
    let W : ℕ → Type 0 = λ n. Grows (bits b) n s2 s3 in
    subst P (sym tree) (chosen (bits k) (bits a) (bits b) (width k) (width a) s0 s1 s2 s3 c.in_ok-push_word-in-Mux.ensures c.in_ok-push_word-in-Mux-2.ensures
    (subst W (sym sized.3) c.in_ok-push_word-in-Mux-3.ensures) s4
    (subst T last (subst R middle (subst Q start c.choose_one.ensures))))

pub push_parts-push_word-requires : goal.push_parts-push_word-requires
push_parts-push_word-requires t c =
    let k = length c.args.parts.now - 1 - c.loop-turn.turn in
    let size = length-trees_of c.args.parts.now in
    let test = c.loop-turn-test.true in
    let at = tree_at c.args.parts.now k c.index-parts-parts.result (omega arith) c.index-parts-parts.is in
    let P : Tree → Type 0 = λ x. IsSized c.args.nets.now x in
    (search (rules, the_lemmas), (subst P at (part_sized c.args.nets.now (trees_of c.args.parts.now) k (omega arith) c.requires.sized), (c.requires.starts, c.requires.bits)))

pub push_parts-loop-turn-preserved : goal.push_parts-loop-turn-preserved
push_parts-loop-turn-preserved t c =
    let v = values c.args.now.now in
    let number = number_of c.args.nets.now in
    let e = frames c.args.earlier.now in
    let ts = trees_of c.args.parts.now in
    let n = length c.args.parts.now in
    let k = n - 1 - c.loop-turn.turn in
    let size = length-trees_of c.args.parts.now in
    let test = c.loop-turn-test.true in
    let at = tree_at c.args.parts.now k c.index-parts-parts.result (omega arith) c.index-parts-parts.is in
    let s0 = c.args.stack.now.items in
    let s1 = c.loop-turn.stack.items in
    let s2 = c.push_word.new.stack.items in
    let before : n - c.loop-turn.turn ≡ suc k = omega arith in
    let after : k ≡ n - (c.loop-turn.turn + 1) = omega arith in
    let P : ℕ → Type 0 = λ i. Grows (bit_of v number e (join_all (drop i ts))) (width (join_all (drop i ts))) s0 s1 in
    let Q : ℕ → Type 0 = λ i. Grows (bit_of v number e (join_all (drop i ts))) (width (join_all (drop i ts))) s0 s2 in
    let R : Tree → Type 0 = λ x. Grows (bit_of v number e x) (width x) s1 s2 in
    subst Q after (part_before v number e ts k s0 s1 s2 (omega arith) (subst P before c.loop-turn.invariant) (subst R (sym at) c.in_ok-push_word.ensures))
