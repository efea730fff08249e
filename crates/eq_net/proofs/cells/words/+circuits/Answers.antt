use Rattle.std.proofs.Common.{rules, ◌≡◌, ℕ, suc, ◌+◌, ◌-◌, List, drop, length, arith, subst, sym, ap, ◌∙◌}
use Rattle.std.proofs.lemmas.Result.{on_ok_weaker}
use Rattle.eq_names.specs.declared.BitName.{BitName}
use Rattle.eq_net.specs.declared.types.WordBit.{WordBit}
use Rattle.eq_net.specs.declared.types.Word.TheViews.{the_lemmas}
use Rattle.eq_net.specs.Tree.{Tree, tree_of, trees_of, read, pick, negated, opposite, binary, reduced, choice, join_all}
use Rattle.eq_net.specs.Meaning.{width}
use Rattle.eq_net.specs.inner.Cells.{Performs}
use Rattle.eq_net.specs.inner.Circuits.{Puts, bits_in, row}
use Rattle.eq_net.specs.inner.Sized.{IsSized}
use Rattle.eq_net.proofs.Cellular.{ok_both}
use Rattle.eq_net.proofs.CellWords.{chosen_word, negated_word, operated_word, opposed_word, part_before, pointed, reduced_word}
use Rattle.eq_net.proofs.Pushed.{part_sized}
use Rattle.eq_net.proofs.Trees.{length-trees_of, tree_at, tree_of-Binary, tree_of-Mux, tree_of-Neg, tree_of-Not, tree_of-Pick, tree_of-Read, tree_of-Reduce}
use Rattle.eq_net.proofs.cells.words.+circuits.Goals as goal

pub push_cells-returns-in-Read : goal.push_cells-returns-in-Read
push_cells-returns-in-Read t c =
    let nets = c.args.nets.now in
    let rows = c.args.rows.now in
    let s0 = c.args.stack.now.items in
    let c0 = c.args.cells.now.items in
    let s1 = c.push_named.new.stack.items in
    let c1 = c.push_named.new.cells.items in
    let e = c.as_slice-in-Read.ensures in
    let tree : tree_of c.args.word.now ≡ read c.in-Read.names = ap tree_of c.in-Read.is ∙ tree_of-Read c.in-Read.names in
    let P : Tree → Type 0 = λ x. Puts nets rows x c0 c1 s0 s1 in
    let Q : List BitName → Type 0 = λ xs. Puts nets rows (read xs) c0 c1 s0 s1 in
    on_ok_weaker c.push_named.result (λ p. subst P (sym tree) (subst Q e p)) c.push_named.ensures

pub push_cells-returns-in-Pick : goal.push_cells-returns-in-Pick
push_cells-returns-in-Pick t c =
    let nets = c.args.nets.now in
    let rows = c.args.rows.now in
    let s0 = c.args.stack.now.items in
    let c0 = c.args.cells.now.items in
    let s1 = c.push_picked.new.stack.items in
    let ns = c.as_slice-in-Pick.result.now in
    let e : ns ≡ c.in-Pick.bits = c.as_slice-in-Pick.ensures in
    let tree : tree_of c.args.word.now ≡ pick c.in-Pick.bits = ap tree_of c.in-Pick.is ∙ tree_of-Pick c.in-Pick.bits in
    let P : Tree → Type 0 = λ x. Puts nets rows x c0 c0 s0 s1 in
    let Q : List WordBit → Type 0 = λ xs. Puts nets rows (pick xs) c0 c0 s0 s1 in
    ok_both c.push_picked.result
    (λ written put. subst P (sym tree) (subst Q e (pointed ns (λ (b : WordBit). row rows b.word b.bit) c0 s0 s1 written put)))
    c.push_picked.ensures.written c.push_picked.ensures.put

pub push_cells-returns-in_ok-push_cells-in-Not : goal.push_cells-returns-in_ok-push_cells-in-Not
push_cells-returns-in_ok-push_cells-in-Not t c =
    let nets = c.args.nets.now in
    let rows = c.args.rows.now in
    let s0 = c.args.stack.now.items in
    let c0 = c.args.cells.now.items in
    let a = tree_of c.get.result.now in
    let s1 = c.push_cells.new.stack.items in
    let c1 = c.push_cells.new.cells.items in
    let s2 = c.negate.new.stack.items in
    let c2 = c.negate.new.cells.items in
    let tree : tree_of c.args.word.now ≡ negated a = ap tree_of c.in-Not.is ∙ tree_of-Not c.in-Not.a ∙ ap (λ x. negated (tree_of x)) (sym c.get.ensures) in
    let start : c.len-from.result ≡ length s0 = (let e = c.len-from.ensures in let ok = c.args.stack.now.ok in omega arith) in
    let P : Tree → Type 0 = λ x. Puts nets rows x c0 c2 s0 s2 in
    on_ok_weaker c.negate.result
    (λ q. subst P (sym tree) (negated_word (width a) (bits_in nets rows a) c0 c1 s0 s1 c.in_ok-push_cells-in-Not.ensures c.len-from.result c2 s2 start q))
    c.negate.ensures

pub push_cells-returns-in_ok-push_cells-in-Neg : goal.push_cells-returns-in_ok-push_cells-in-Neg
push_cells-returns-in_ok-push_cells-in-Neg t c =
    let nets = c.args.nets.now in
    let rows = c.args.rows.now in
    let s0 = c.args.stack.now.items in
    let c0 = c.args.cells.now.items in
    let a = tree_of c.get-in-Neg.result.now in
    let s1 = c.push_cells-in-Neg.new.stack.items in
    let c1 = c.push_cells-in-Neg.new.cells.items in
    let s2 = c.oppose.new.stack.items in
    let c2 = c.oppose.new.cells.items in
    let tree : tree_of c.args.word.now ≡ opposite a = ap tree_of c.in-Neg.is ∙ tree_of-Neg c.in-Neg.a ∙ ap (λ x. opposite (tree_of x)) (sym c.get-in-Neg.ensures) in
    let start : c.len-from.result ≡ length s0 = (let e = c.len-from.ensures in let ok = c.args.stack.now.ok in omega arith) in
    let P : Tree → Type 0 = λ x. Puts nets rows x c0 c2 s0 s2 in
    on_ok_weaker c.oppose.result
    (λ q. subst P (sym tree) (opposed_word (width a) (bits_in nets rows a) c0 c1 s0 s1 c.in_ok-push_cells-in-Neg.ensures c.len-from.result c2 s2 start q))
    c.oppose.ensures

pub push_cells-returns-in_ok-push_cells-in-Reduce : goal.push_cells-returns-in_ok-push_cells-in-Reduce
push_cells-returns-in_ok-push_cells-in-Reduce t c =
    let nets = c.args.nets.now in
    let rows = c.args.rows.now in
    let s0 = c.args.stack.now.items in
    let c0 = c.args.cells.now.items in
    let a = tree_of c.get-in-Reduce.result.now in
    let s1 = c.push_cells-in-Reduce.new.stack.items in
    let c1 = c.push_cells-in-Reduce.new.cells.items in
    let s2 = c.reduce_to_one.new.stack.items in
    let c2 = c.reduce_to_one.new.cells.items in
    let tree : tree_of c.args.word.now ≡ reduced c.in-Reduce.op a = ap tree_of c.in-Reduce.is ∙ tree_of-Reduce c.in-Reduce.op c.in-Reduce.a ∙ ap (λ x. reduced c.in-Reduce.op (tree_of x)) (sym c.get-in-Reduce.ensures) in
    let start : c.len-from.result ≡ length s0 = (let e = c.len-from.ensures in let ok = c.args.stack.now.ok in omega arith) in
    let P : Tree → Type 0 = λ x. Puts nets rows x c0 c2 s0 s2 in
    on_ok_weaker c.reduce_to_one.result
    (λ q. subst P (sym tree) (reduced_word (width a) (bits_in nets rows a) c0 c1 s0 s1 c.in_ok-push_cells-in-Reduce.ensures c.in-Reduce.op c.len-from.result c2 s2 start q))
    c.reduce_to_one.ensures

pub push_cells-returns-in_ok-push_cells-in-Binary-2 : goal.push_cells-returns-in_ok-push_cells-in-Binary-2
push_cells-returns-in_ok-push_cells-in-Binary-2 t c =
    let nets = c.args.nets.now in
    let rows = c.args.rows.now in
    let s0 = c.args.stack.now.items in
    let c0 = c.args.cells.now.items in
    let o = c.in-Binary.op in
    let a = tree_of c.get-in-Binary.result.now in
    let b = tree_of c.get-in-Binary-2.result.now in
    let s1 = c.push_cells-in-Binary.new.stack.items in
    let c1 = c.push_cells-in-Binary.new.cells.items in
    let s2 = c.push_cells-in-Binary-2.new.stack.items in
    let c2 = c.push_cells-in-Binary-2.new.cells.items in
    let s3 = c.operate.new.stack.items in
    let c3 = c.operate.new.cells.items in
    let tree : tree_of c.args.word.now ≡ binary o a b = ap tree_of c.in-Binary.is ∙ tree_of-Binary o c.in-Binary.a c.in-Binary.b
    ∙ ap (λ x. binary o (tree_of x) (tree_of c.in-Binary.b)) (sym c.get-in-Binary.ensures) ∙ ap (λ x. binary o a (tree_of x)) (sym c.get-in-Binary-2.ensures) in
    let S : Tree → Type 0 = λ x. IsSized nets x in
    let sized = subst S tree c.requires.sized in
    let start : c.len-from.result ≡ length s0 = (let e = c.len-from.ensures in let ok = c.args.stack.now.ok in omega arith) in
    let middle : c.len-right.result ≡ length s1 = (let e = c.len-right.ensures in let ok = c.push_cells-in-Binary.new.stack.ok in omega arith) in
    let P : Tree → Type 0 = λ x. Puts nets rows x c0 c3 s0 s3 in
    on_ok_weaker c.operate.result
    (λ r. subst P (sym tree) (operated_word (width a) (width b) (bits_in nets rows a) (bits_in nets rows b)
    c0 c1 c2 s0 s1 s2 c.in_ok-push_cells-in-Binary.ensures c.in_ok-push_cells-in-Binary-2.ensures o c.len-from.result c.len-right.result c3 s3 sized.2 start middle r))
    c.operate.ensures

pub push_cells-returns-in_ok-push_cells-in-Mux-3 : goal.push_cells-returns-in_ok-push_cells-in-Mux-3
push_cells-returns-in_ok-push_cells-in-Mux-3 t c =
    let nets = c.args.nets.now in
    let rows = c.args.rows.now in
    let s0 = c.args.stack.now.items in
    let c0 = c.args.cells.now.items in
    let k = tree_of c.get-in-Mux.result.now in
    let a = tree_of c.get-in-Mux-2.result.now in
    let b = tree_of c.get-in-Mux-3.result.now in
    let s1 = c.push_cells-in-Mux.new.stack.items in
    let c1 = c.push_cells-in-Mux.new.cells.items in
    let s2 = c.push_cells-in-Mux-2.new.stack.items in
    let c2 = c.push_cells-in-Mux-2.new.cells.items in
    let s3 = c.push_cells-in-Mux-3.new.stack.items in
    let c3 = c.push_cells-in-Mux-3.new.cells.items in
    let s4 = c.choose_one.new.stack.items in
    let c4 = c.choose_one.new.cells.items in
    let tree : tree_of c.args.word.now ≡ choice k a b = ap tree_of c.in-Mux.is ∙ tree_of-Mux c.in-Mux.c c.in-Mux.a c.in-Mux.b
    ∙ ap (λ x. choice (tree_of x) (tree_of c.in-Mux.a) (tree_of c.in-Mux.b)) (sym c.get-in-Mux.ensures) ∙ ap (λ x. choice k (tree_of x) (tree_of c.in-Mux.b)) (sym c.get-in-Mux-2.ensures)
    ∙ ap (λ x. choice k a (tree_of x)) (sym c.get-in-Mux-3.ensures) in
    let S : Tree → Type 0 = λ x. IsSized nets x in
    let sized = subst S tree c.requires.sized in
    let start : c.len-from.result ≡ length s0 = (let e = c.len-from.ensures in let ok = c.args.stack.now.ok in omega arith) in
    let middle : c.len-left.result ≡ length s1 = (let e = c.len-left.ensures in let ok = c.push_cells-in-Mux.new.stack.ok in omega arith) in
    let last : c.len-right-in-Mux.result ≡ length s2 = (let e = c.len-right-in-Mux.ensures in let ok = c.push_cells-in-Mux-2.new.stack.ok in omega arith) in
    let P : Tree → Type 0 = λ x. Puts nets rows x c0 c4 s0 s4 in
    let W : ℕ → Type 0 = λ n. Performs n (length s2) (bits_in nets rows b) c2 c3 s2 s3 in
    on_ok_weaker c.choose_one.result
    (λ o. subst P (sym tree) (chosen_word (width k) (width a) (bits_in nets rows k) (bits_in nets rows a) (bits_in nets rows b) c0 c1 c2 c3 s0 s1 s2 s3
    c.in_ok-push_cells-in-Mux.ensures c.in_ok-push_cells-in-Mux-2.ensures (subst W (sym sized.3) c.in_ok-push_cells-in-Mux-3.ensures)
    c.len-from.result c.len-left.result c.len-right-in-Mux.result c4 s4 start middle last o))
    c.choose_one.ensures

pub push_parts-push_cells-requires : goal.push_parts-push_cells-requires
push_parts-push_cells-requires t c =
    let k = length c.args.parts.now - 1 - c.loop-turn.turn in
    let size = length-trees_of c.args.parts.now in
    let test = c.loop-turn-test.true in
    let at = tree_at c.args.parts.now k c.index-parts-parts.result (omega arith) c.index-parts-parts.is in
    let P : Tree → Type 0 = λ x. IsSized c.args.nets.now x in
    (search (rules, the_lemmas), (subst P at (part_sized c.args.nets.now (trees_of c.args.parts.now) k (omega arith) c.requires.sized), (c.requires.starts, c.requires.few)))

pub push_parts-loop-turn-preserved : goal.push_parts-loop-turn-preserved
push_parts-loop-turn-preserved t c =
    let nets = c.args.nets.now in
    let rows = c.args.rows.now in
    let ts = trees_of c.args.parts.now in
    let n = length c.args.parts.now in
    let k = n - 1 - c.loop-turn.turn in
    let size = length-trees_of c.args.parts.now in
    let test = c.loop-turn-test.true in
    let at = tree_at c.args.parts.now k c.index-parts-parts.result (omega arith) c.index-parts-parts.is in
    let s0 = c.args.stack.now.items in
    let c0 = c.args.cells.now.items in
    let s1 = c.loop-turn.stack.items in
    let c1 = c.loop-turn.cells.items in
    let s2 = c.push_cells.new.stack.items in
    let c2 = c.push_cells.new.cells.items in
    let before : n - c.loop-turn.turn ≡ suc k = omega arith in
    let after : k ≡ n - (c.loop-turn.turn + 1) = omega arith in
    let P : ℕ → Type 0 = λ i. Puts nets rows (join_all (drop i ts)) c0 c1 s0 s1 in
    let Q : ℕ → Type 0 = λ i. Puts nets rows (join_all (drop i ts)) c0 c2 s0 s2 in
    let R : Tree → Type 0 = λ x. Puts nets rows x c1 c2 s1 s2 in
    subst Q after (part_before nets rows ts k c0 c1 c2 s0 s1 s2 (omega arith) (subst P before c.loop-turn.invariant) (subst R (sym at) c.in_ok-push_cells.ensures))
