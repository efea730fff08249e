use Rattle.std.proofs.Common.{rules, ◌≡◌, ℕ, suc, ◌+◌, ◌-◌, ◌<◌, ◌≤◌, ◌^◌, List, All, drop, length, arith, subst, sym, ap, ◌∙◌}
use Rattle.std.proofs.lemmas.Result.{on_ok_weaker}
use Rattle.eq_names.specs.declared.BitName.{BitName}
use Rattle.eq_net.specs.declared.types.WordBit.{WordBit}
use Rattle.eq_net.specs.declared.types.Word.TheViews.{the_lemmas}
use Rattle.eq_net.specs.Tree.{Tree, tree_of, trees_of, read, pick, negated, opposite, binary, reduced, choice, join_all}
use Rattle.eq_net.specs.Meaning.{cost_of, width}
use Rattle.eq_net.specs.Net.{HasBit, number_of}
use Rattle.eq_blast.specs.inner.Stack.{Performs}
use Rattle.eq_blast.specs.inner.Wiring.{node_of}
use Rattle.eq_blast.specs.inner.Words.{Fits, Puts, asks_in, bits_in, row}
use Rattle.eq_blast.proofs.Chosen.{chosen_word}
use Rattle.eq_blast.proofs.Layers.{length-trees_of, part_costs, part_fits, tree_at, tree_of-Binary, tree_of-Mux, tree_of-Neg, tree_of-Not, tree_of-Pick, tree_of-Read, tree_of-Reduce}
use Rattle.eq_blast.proofs.Tested.{ok_both}
use Rattle.eq_blast.proofs.Worded.{if_all, if_any, negated_word, operated_word, opposed_word, part_before, pointed, ready_after, reduced_word, row_there}
use Rattle.eq_blast.proofs.words.+words.Goals as goal

pub push_word-negate-requires-clause-there : goal.push_word-negate-requires-clause-there
push_word-negate-requires-clause-there t c =
    let nets = c.args.nets.now in
    let earlier = c.args.earlier.now in
    let s0 = c.args.stack.now.items in
    let b0 = c.args.builder.now in
    let a = tree_of c.get.result.now in
    (ready_after nets earlier (cost_of a) (width a) (bits_in nets earlier a) (asks_in nets earlier a) b0 c.push_word.new.builder s0 c.push_word.new.stack.items c.requires.ready c.in_ok-push_word-in-Not.ensures).there

pub push_word-oppose-requires-clause-there : goal.push_word-oppose-requires-clause-there
push_word-oppose-requires-clause-there t c =
    let nets = c.args.nets.now in
    let earlier = c.args.earlier.now in
    let s0 = c.args.stack.now.items in
    let b0 = c.args.builder.now in
    let a = tree_of c.get-in-Neg.result.now in
    (ready_after nets earlier (cost_of a) (width a) (bits_in nets earlier a) (asks_in nets earlier a) b0 c.push_word-in-Neg.new.builder s0 c.push_word-in-Neg.new.stack.items c.requires.ready c.in_ok-push_word-in-Neg.ensures).there

pub push_word-reduce_to_one-requires-clause-there : goal.push_word-reduce_to_one-requires-clause-there
push_word-reduce_to_one-requires-clause-there t c =
    let nets = c.args.nets.now in
    let earlier = c.args.earlier.now in
    let s0 = c.args.stack.now.items in
    let b0 = c.args.builder.now in
    let a = tree_of c.get-in-Reduce.result.now in
    (ready_after nets earlier (cost_of a) (width a) (bits_in nets earlier a) (asks_in nets earlier a) b0 c.push_word-in-Reduce.new.builder s0 c.push_word-in-Reduce.new.stack.items c.requires.ready c.in_ok-push_word-in-Reduce.ensures).there

pub push_word-push_word-requires-in-Binary-2 : goal.push_word-push_word-requires-in-Binary-2
push_word-push_word-requires-in-Binary-2 t c =
    let nets = c.args.nets.now in
    let earlier = c.args.earlier.now in
    let s0 = c.args.stack.now.items in
    let b0 = c.args.builder.now in
    let o = c.in-Binary.op in
    let a = tree_of c.get-in-Binary.result.now in
    let b = tree_of c.get-in-Binary-2.result.now in
    let s1 = c.push_word-in-Binary.new.stack.items in
    let b1 = c.push_word-in-Binary.new.builder in
    let tree : tree_of c.args.word.now ≡ binary o a b = ap tree_of c.in-Binary.is ∙ tree_of-Binary o c.in-Binary.a c.in-Binary.b
    ∙ ap (λ x. binary o (tree_of x) (tree_of c.in-Binary.b)) (sym c.get-in-Binary.ensures) ∙ ap (λ x. binary o a (tree_of x)) (sym c.get-in-Binary-2.ensures) in
    let F : Tree → Type 0 = λ x. Fits nets x in
    let fits = subst F tree c.requires.fits in
    let R : Tree → Type 0 = λ x. length b0 + cost_of x ≤ 2 ^ 21 in
    let room = subst R tree c.requires.room in
    let p = c.in_ok-push_word-in-Binary.ensures in
    let first = ready_after nets earlier (cost_of a) (width a) (bits_in nets earlier a) (asks_in nets earlier a) b0 b1 s0 s1 c.requires.ready p in
    let bound = p.grown.bound in
    (search (rules, the_lemmas), (fits.1, (c.requires.starts, (first, omega arith))))

pub push_word-operate-requires-clause-there : goal.push_word-operate-requires-clause-there
push_word-operate-requires-clause-there t c =
    let nets = c.args.nets.now in
    let earlier = c.args.earlier.now in
    let s0 = c.args.stack.now.items in
    let b0 = c.args.builder.now in
    let o = c.in-Binary.op in
    let a = tree_of c.get-in-Binary.result.now in
    let b = tree_of c.get-in-Binary-2.result.now in
    let s1 = c.push_word-in-Binary.new.stack.items in
    let b1 = c.push_word-in-Binary.new.builder in
    let tree : tree_of c.args.word.now ≡ binary o a b = ap tree_of c.in-Binary.is ∙ tree_of-Binary o c.in-Binary.a c.in-Binary.b
    ∙ ap (λ x. binary o (tree_of x) (tree_of c.in-Binary.b)) (sym c.get-in-Binary.ensures) ∙ ap (λ x. binary o a (tree_of x)) (sym c.get-in-Binary-2.ensures) in
    let F : Tree → Type 0 = λ x. Fits nets x in
    let fits = subst F tree c.requires.fits in
    let R : Tree → Type 0 = λ x. length b0 + cost_of x ≤ 2 ^ 21 in
    let room = subst R tree c.requires.room in
    let p = c.in_ok-push_word-in-Binary.ensures in
    let first = ready_after nets earlier (cost_of a) (width a) (bits_in nets earlier a) (asks_in nets earlier a) b0 b1 s0 s1 c.requires.ready p in
    let s2 = c.push_word-in-Binary-2.new.stack.items in
    let b2 = c.push_word-in-Binary-2.new.builder in
    let q = c.in_ok-push_word-in-Binary-2.ensures in
    (ready_after nets earlier (cost_of b) (width b) (bits_in nets earlier b) (asks_in nets earlier b) b1 b2 s1 s2 first q).there

pub push_word-returns-in_ok-push_word-in-Binary-2 : goal.push_word-returns-in_ok-push_word-in-Binary-2
push_word-returns-in_ok-push_word-in-Binary-2 t c =
    let nets = c.args.nets.now in
    let earlier = c.args.earlier.now in
    let s0 = c.args.stack.now.items in
    let b0 = c.args.builder.now in
    let o = c.in-Binary.op in
    let a = tree_of c.get-in-Binary.result.now in
    let b = tree_of c.get-in-Binary-2.result.now in
    let s1 = c.push_word-in-Binary.new.stack.items in
    let b1 = c.push_word-in-Binary.new.builder in
    let tree : tree_of c.args.word.now ≡ binary o a b = ap tree_of c.in-Binary.is ∙ tree_of-Binary o c.in-Binary.a c.in-Binary.b
    ∙ ap (λ x. binary o (tree_of x) (tree_of c.in-Binary.b)) (sym c.get-in-Binary.ensures) ∙ ap (λ x. binary o a (tree_of x)) (sym c.get-in-Binary-2.ensures) in
    let F : Tree → Type 0 = λ x. Fits nets x in
    let fits = subst F tree c.requires.fits in
    let R : Tree → Type 0 = λ x. length b0 + cost_of x ≤ 2 ^ 21 in
    let room = subst R tree c.requires.room in
    let p = c.in_ok-push_word-in-Binary.ensures in
    let first = ready_after nets earlier (cost_of a) (width a) (bits_in nets earlier a) (asks_in nets earlier a) b0 b1 s0 s1 c.requires.ready p in
    let s2 = c.push_word-in-Binary-2.new.stack.items in
    let b2 = c.push_word-in-Binary-2.new.builder in
    let q = c.in_ok-push_word-in-Binary-2.ensures in
    let start : c.len-from.result ≡ length s0 = (let e = c.len-from.ensures in let ok = c.args.stack.now.ok in omega arith) in
    let middle : c.len-right.result ≡ length s1 = (let e = c.len-right.ensures in let ok = c.push_word-in-Binary.new.stack.ok in omega arith) in
    let b3 = c.operate.new.builder in
    let s3 = c.operate.new.stack.items in
    let P : Tree → Type 0 = λ x. Puts nets earlier x b0 b3 s0 s3 in
    on_ok_weaker c.operate.result
    (λ r. subst P (sym tree) (operated_word (width a) (width b) (cost_of a) (cost_of b) (bits_in nets earlier a) (asks_in nets earlier a) (bits_in nets earlier b) (asks_in nets earlier b)
    b0 b1 b2 s0 s1 s2 p q c.operations_see_their_bits.ensures.binary o c.len-from.result c.len-right.result b3 s3 fits.2 start middle r))
    c.operate.ensures

pub push_word-returns-in_ok-push_word-in-Not : goal.push_word-returns-in_ok-push_word-in-Not
push_word-returns-in_ok-push_word-in-Not t c =
    let nets = c.args.nets.now in
    let earlier = c.args.earlier.now in
    let s0 = c.args.stack.now.items in
    let b0 = c.args.builder.now in
    let a = tree_of c.get.result.now in
    let s1 = c.push_word.new.stack.items in
    let b1 = c.push_word.new.builder in
    let s2 = c.negate.new.stack.items in
    let b2 = c.negate.new.builder in
    let tree : tree_of c.args.word.now ≡ negated a = ap tree_of c.in-Not.is ∙ tree_of-Not c.in-Not.a ∙ ap (λ x. negated (tree_of x)) (sym c.get.ensures) in
    let start : c.len-from.result ≡ length s0 = (let e = c.len-from.ensures in let ok = c.args.stack.now.ok in omega arith) in
    let P : Tree → Type 0 = λ x. Puts nets earlier x b0 b2 s0 s2 in
    on_ok_weaker c.negate.result
    (λ q. subst P (sym tree) (negated_word (width a) (cost_of a) (bits_in nets earlier a) (asks_in nets earlier a) b0 b1 s0 s1 c.in_ok-push_word-in-Not.ensures c.len-from.result b2 s2 start q))
    c.negate.ensures

pub push_word-returns-in_ok-push_word-in-Neg : goal.push_word-returns-in_ok-push_word-in-Neg
push_word-returns-in_ok-push_word-in-Neg t c =
    let nets = c.args.nets.now in
    let earlier = c.args.earlier.now in
    let s0 = c.args.stack.now.items in
    let b0 = c.args.builder.now in
    let a = tree_of c.get-in-Neg.result.now in
    let s1 = c.push_word-in-Neg.new.stack.items in
    let b1 = c.push_word-in-Neg.new.builder in
    let s2 = c.oppose.new.stack.items in
    let b2 = c.oppose.new.builder in
    let tree : tree_of c.args.word.now ≡ opposite a = ap tree_of c.in-Neg.is ∙ tree_of-Neg c.in-Neg.a ∙ ap (λ x. opposite (tree_of x)) (sym c.get-in-Neg.ensures) in
    let start : c.len-from.result ≡ length s0 = (let e = c.len-from.ensures in let ok = c.args.stack.now.ok in omega arith) in
    let P : Tree → Type 0 = λ x. Puts nets earlier x b0 b2 s0 s2 in
    on_ok_weaker c.oppose.result
    (λ q. subst P (sym tree) (opposed_word (width a) (cost_of a) (bits_in nets earlier a) (asks_in nets earlier a) b0 b1 s0 s1 c.in_ok-push_word-in-Neg.ensures c.operations_see_their_bits.ensures.negative c.len-from.result b2 s2 start q))
    c.oppose.ensures

pub push_word-returns-in_ok-push_word-in-Reduce : goal.push_word-returns-in_ok-push_word-in-Reduce
push_word-returns-in_ok-push_word-in-Reduce t c =
    let nets = c.args.nets.now in
    let earlier = c.args.earlier.now in
    let s0 = c.args.stack.now.items in
    let b0 = c.args.builder.now in
    let a = tree_of c.get-in-Reduce.result.now in
    let s1 = c.push_word-in-Reduce.new.stack.items in
    let b1 = c.push_word-in-Reduce.new.builder in
    let s2 = c.reduce_to_one.new.stack.items in
    let b2 = c.reduce_to_one.new.builder in
    let tree : tree_of c.args.word.now ≡ reduced c.in-Reduce.op a = ap tree_of c.in-Reduce.is ∙ tree_of-Reduce c.in-Reduce.op c.in-Reduce.a ∙ ap (λ x. reduced c.in-Reduce.op (tree_of x)) (sym c.get-in-Reduce.ensures) in
    let start : c.len-from.result ≡ length s0 = (let e = c.len-from.ensures in let ok = c.args.stack.now.ok in omega arith) in
    let P : Tree → Type 0 = λ x. Puts nets earlier x b0 b2 s0 s2 in
    on_ok_weaker c.reduce_to_one.result
    (λ q. subst P (sym tree) (reduced_word (width a) (cost_of a) (bits_in nets earlier a) (asks_in nets earlier a) b0 b1 s0 s1 c.in_ok-push_word-in-Reduce.ensures c.operations_see_their_bits.ensures.reduce c.in-Reduce.op c.len-from.result b2 s2 start q))
    c.reduce_to_one.ensures

pub push_word-push_word-requires-in-Mux-2 : goal.push_word-push_word-requires-in-Mux-2
push_word-push_word-requires-in-Mux-2 t c =
    let nets = c.args.nets.now in
    let earlier = c.args.earlier.now in
    let s0 = c.args.stack.now.items in
    let b0 = c.args.builder.now in
    let k = tree_of c.get-in-Mux.result.now in
    let a = tree_of c.get-in-Mux-2.result.now in
    let s1 = c.push_word-in-Mux.new.stack.items in
    let b1 = c.push_word-in-Mux.new.builder in
    let p = c.in_ok-push_word-in-Mux.ensures in
    let first = ready_after nets earlier (cost_of k) (width k) (bits_in nets earlier k) (asks_in nets earlier k) b0 b1 s0 s1 c.requires.ready p in
    let b = tree_of c.in-Mux.b in
    let tree : tree_of c.args.word.now ≡ choice k a b = ap tree_of c.in-Mux.is ∙ tree_of-Mux c.in-Mux.c c.in-Mux.a c.in-Mux.b
    ∙ ap (λ x. choice (tree_of x) (tree_of c.in-Mux.a) (tree_of c.in-Mux.b)) (sym c.get-in-Mux.ensures) ∙ ap (λ x. choice k (tree_of x) (tree_of c.in-Mux.b)) (sym c.get-in-Mux-2.ensures) in
    let F : Tree → Type 0 = λ x. Fits nets x in
    let fits = subst F tree c.requires.fits in
    let R : Tree → Type 0 = λ x. length b0 + cost_of x ≤ 2 ^ 21 in
    let room = subst R tree c.requires.room in
    let bound = p.grown.bound in
    (search (rules, the_lemmas), (fits.1, (c.requires.starts, (first, omega arith))))

pub push_word-push_word-requires-in-Mux-3 : goal.push_word-push_word-requires-in-Mux-3
push_word-push_word-requires-in-Mux-3 t c =
    let nets = c.args.nets.now in
    let earlier = c.args.earlier.now in
    let s0 = c.args.stack.now.items in
    let b0 = c.args.builder.now in
    let k = tree_of c.get-in-Mux.result.now in
    let a = tree_of c.get-in-Mux-2.result.now in
    let s1 = c.push_word-in-Mux.new.stack.items in
    let b1 = c.push_word-in-Mux.new.builder in
    let p = c.in_ok-push_word-in-Mux.ensures in
    let first = ready_after nets earlier (cost_of k) (width k) (bits_in nets earlier k) (asks_in nets earlier k) b0 b1 s0 s1 c.requires.ready p in
    let b = tree_of c.get-in-Mux-3.result.now in
    let tree : tree_of c.args.word.now ≡ choice k a b = ap tree_of c.in-Mux.is ∙ tree_of-Mux c.in-Mux.c c.in-Mux.a c.in-Mux.b
    ∙ ap (λ x. choice (tree_of x) (tree_of c.in-Mux.a) (tree_of c.in-Mux.b)) (sym c.get-in-Mux.ensures) ∙ ap (λ x. choice k (tree_of x) (tree_of c.in-Mux.b)) (sym c.get-in-Mux-2.ensures)
    ∙ ap (λ x. choice k a (tree_of x)) (sym c.get-in-Mux-3.ensures) in
    let F : Tree → Type 0 = λ x. Fits nets x in
    let fits = subst F tree c.requires.fits in
    let R : Tree → Type 0 = λ x. length b0 + cost_of x ≤ 2 ^ 21 in
    let room = subst R tree c.requires.room in
    let s2 = c.push_word-in-Mux-2.new.stack.items in
    let b2 = c.push_word-in-Mux-2.new.builder in
    let q = c.in_ok-push_word-in-Mux-2.ensures in
    let second = ready_after nets earlier (cost_of a) (width a) (bits_in nets earlier a) (asks_in nets earlier a) b1 b2 s1 s2 first q in
    let bound = p.grown.bound in
    let more = q.grown.bound in
    (search (rules, the_lemmas), (fits.2, (c.requires.starts, (second, omega arith))))

pub push_word-choose_one-requires-clause-there : goal.push_word-choose_one-requires-clause-there
push_word-choose_one-requires-clause-there t c =
    let nets = c.args.nets.now in
    let earlier = c.args.earlier.now in
    let s0 = c.args.stack.now.items in
    let b0 = c.args.builder.now in
    let k = tree_of c.get-in-Mux.result.now in
    let a = tree_of c.get-in-Mux-2.result.now in
    let s1 = c.push_word-in-Mux.new.stack.items in
    let b1 = c.push_word-in-Mux.new.builder in
    let p = c.in_ok-push_word-in-Mux.ensures in
    let first = ready_after nets earlier (cost_of k) (width k) (bits_in nets earlier k) (asks_in nets earlier k) b0 b1 s0 s1 c.requires.ready p in
    let b = tree_of c.get-in-Mux-3.result.now in
    let s2 = c.push_word-in-Mux-2.new.stack.items in
    let b2 = c.push_word-in-Mux-2.new.builder in
    let q = c.in_ok-push_word-in-Mux-2.ensures in
    let second = ready_after nets earlier (cost_of a) (width a) (bits_in nets earlier a) (asks_in nets earlier a) b1 b2 s1 s2 first q in
    let s3 = c.push_word-in-Mux-3.new.stack.items in
    let b3 = c.push_word-in-Mux-3.new.builder in
    let r = c.in_ok-push_word-in-Mux-3.ensures in
    (ready_after nets earlier (cost_of b) (width b) (bits_in nets earlier b) (asks_in nets earlier b) b2 b3 s2 s3 second r).there

pub push_word-returns-in_ok-push_word-in-Mux-3 : goal.push_word-returns-in_ok-push_word-in-Mux-3
push_word-returns-in_ok-push_word-in-Mux-3 t c =
    let nets = c.args.nets.now in
    let earlier = c.args.earlier.now in
    let s0 = c.args.stack.now.items in
    let b0 = c.args.builder.now in
    let k = tree_of c.get-in-Mux.result.now in
    let a = tree_of c.get-in-Mux-2.result.now in
    let s1 = c.push_word-in-Mux.new.stack.items in
    let b1 = c.push_word-in-Mux.new.builder in
    let p = c.in_ok-push_word-in-Mux.ensures in
    let first = ready_after nets earlier (cost_of k) (width k) (bits_in nets earlier k) (asks_in nets earlier k) b0 b1 s0 s1 c.requires.ready p in
    let b = tree_of c.get-in-Mux-3.result.now in
    let tree : tree_of c.args.word.now ≡ choice k a b = ap tree_of c.in-Mux.is ∙ tree_of-Mux c.in-Mux.c c.in-Mux.a c.in-Mux.b
    ∙ ap (λ x. choice (tree_of x) (tree_of c.in-Mux.a) (tree_of c.in-Mux.b)) (sym c.get-in-Mux.ensures) ∙ ap (λ x. choice k (tree_of x) (tree_of c.in-Mux.b)) (sym c.get-in-Mux-2.ensures)
    ∙ ap (λ x. choice k a (tree_of x)) (sym c.get-in-Mux-3.ensures) in
    let F : Tree → Type 0 = λ x. Fits nets x in
    let fits = subst F tree c.requires.fits in
    let R : Tree → Type 0 = λ x. length b0 + cost_of x ≤ 2 ^ 21 in
    let room = subst R tree c.requires.room in
    let s2 = c.push_word-in-Mux-2.new.stack.items in
    let b2 = c.push_word-in-Mux-2.new.builder in
    let q = c.in_ok-push_word-in-Mux-2.ensures in
    let second = ready_after nets earlier (cost_of a) (width a) (bits_in nets earlier a) (asks_in nets earlier a) b1 b2 s1 s2 first q in
    let s3 = c.push_word-in-Mux-3.new.stack.items in
    let b3 = c.push_word-in-Mux-3.new.builder in
    let r = c.in_ok-push_word-in-Mux-3.ensures in
    let start : c.len-from.result ≡ length s0 = (let e = c.len-from.ensures in let ok = c.args.stack.now.ok in omega arith) in
    let b4 = c.choose_one.new.builder in
    let s4 = c.choose_one.new.stack.items in
    let middle : c.len-left.result ≡ length s1 = (let e = c.len-left.ensures in let ok = c.push_word-in-Mux.new.stack.ok in omega arith) in
    let last : c.len-right-in-Mux.result ≡ length s2 = (let e = c.len-right-in-Mux.ensures in let ok = c.push_word-in-Mux-2.new.stack.ok in omega arith) in
    let P : Tree → Type 0 = λ x. Puts nets earlier x b0 b4 s0 s4 in
    let W : ℕ → Type 0 = λ n. Performs (cost_of b) n (length s2) (bits_in nets earlier b) (asks_in nets earlier b) b2 b3 s2 s3 in
    on_ok_weaker c.choose_one.result
    (λ o. subst P (sym tree) (chosen_word (width k) (width a) (cost_of k) (cost_of a) (cost_of b) (bits_in nets earlier k) (asks_in nets earlier k) (bits_in nets earlier a) (asks_in nets earlier a)
    (bits_in nets earlier b) (asks_in nets earlier b) b0 b1 b2 b3 s0 s1 s2 s3 p q (subst W (sym fits.3) r) c.operations_see_their_bits.ensures.choose
    c.len-from.result c.len-left.result c.len-right-in-Mux.result b4 s4 start middle last o))
    c.choose_one.ensures

pub push_word-returns-in-Read : goal.push_word-returns-in-Read
push_word-returns-in-Read t c =
    let nets = c.args.nets.now in
    let earlier = c.args.earlier.now in
    let s0 = c.args.stack.now.items in
    let b0 = c.args.builder.now in
    let s1 = c.push_named.new.stack.items in
    let ns = c.as_slice-in-Read.result.now in
    let e : ns ≡ c.in-Read.names = c.as_slice-in-Read.ensures in
    let tree : tree_of c.args.word.now ≡ read c.in-Read.names = ap tree_of c.in-Read.is ∙ tree_of-Read c.in-Read.names in
    let A : List BitName → Type 0 = λ xs. All (HasBit nets) xs in
    let F : Tree → Type 0 = λ x. Fits nets x in
    let P : Tree → Type 0 = λ x. Puts nets earlier x b0 b0 s0 s1 in
    let Q : List BitName → Type 0 = λ xs. Puts nets earlier (read xs) b0 b0 s0 s1 in
    ok_both c.push_named.result
    (λ written put. subst P (sym tree) (subst Q e (pointed ns (λ (n : BitName). node_of (number_of nets n)) b0 s0 s1 written put
    (if_all (HasBit nets) (λ n. node_of (number_of nets n) < length b0)
    (λ n has. (let there = c.bits_stand_by_nets.ensures.there nets n.net n.bit has.0 has.1 in let bits = c.requires.ready.bits in omega arith)) ns (subst A (sym e) (subst F tree c.requires.fits))))))
    c.push_named.ensures.written c.push_named.ensures.put

pub push_word-returns-in-Pick : goal.push_word-returns-in-Pick
push_word-returns-in-Pick t c =
    let nets = c.args.nets.now in
    let earlier = c.args.earlier.now in
    let s0 = c.args.stack.now.items in
    let b0 = c.args.builder.now in
    let s1 = c.push_picked.new.stack.items in
    let ns = c.as_slice-in-Pick.result.now in
    let e : ns ≡ c.in-Pick.bits = c.as_slice-in-Pick.ensures in
    let tree : tree_of c.args.word.now ≡ pick c.in-Pick.bits = ap tree_of c.in-Pick.is ∙ tree_of-Pick c.in-Pick.bits in
    let P : Tree → Type 0 = λ x. Puts nets earlier x b0 b0 s0 s1 in
    let Q : List WordBit → Type 0 = λ xs. Puts nets earlier (pick xs) b0 b0 s0 s1 in
    ok_both c.push_picked.result
    (λ written put. subst P (sym tree) (subst Q e (pointed ns (λ (b : WordBit). row earlier b.word b.bit) b0 s0 s1 written put
    (if_any (λ (b : WordBit). row earlier b.word b.bit < length b0) (λ b. row_there b0 earlier (let room = c.requires.ready.constants.room in omega arith) c.requires.ready.rows b.word b.bit) ns))))
    c.push_picked.ensures.written c.push_picked.ensures.put

pub push_parts-push_word-requires : goal.push_parts-push_word-requires
push_parts-push_word-requires t c =
    let nets = c.args.nets.now in
    let earlier = c.args.earlier.now in
    let s0 = c.args.stack.now.items in
    let b0 = c.args.builder.now in
    let ts = trees_of c.args.parts.now in
    let n = length c.args.parts.now in
    let k = n - 1 - c.loop-turn.turn in
    let size = length-trees_of c.args.parts.now in
    let test = c.loop-turn-test.true in
    let at = tree_at c.args.parts.now k c.index-parts-parts.result (omega arith) c.index-parts-parts.is in
    let b1 = c.loop-turn.builder in
    let s1 = c.loop-turn.stack.items in
    let before : n - c.loop-turn.turn ≡ suc k = omega arith in
    let P : ℕ → Type 0 = λ i. Puts nets earlier (join_all (drop i ts)) b0 b1 s0 s1 in
    let p = subst P before c.loop-turn.invariant.puts in
    let F : Tree → Type 0 = λ x. Fits nets x in
    let costs = part_costs ts k (omega arith) in
    let cost = ap cost_of at in
    let bound = p.grown.bound in
    let room = c.requires.room in
    (search (rules, the_lemmas), (subst F at (part_fits nets ts k (omega arith) c.requires.fits), (c.requires.starts, (c.loop-turn.invariant.ready, omega arith))))

pub push_parts-loop-turn-preserved : goal.push_parts-loop-turn-preserved
push_parts-loop-turn-preserved t c =
    let nets = c.args.nets.now in
    let earlier = c.args.earlier.now in
    let s0 = c.args.stack.now.items in
    let b0 = c.args.builder.now in
    let ts = trees_of c.args.parts.now in
    let n = length c.args.parts.now in
    let k = n - 1 - c.loop-turn.turn in
    let size = length-trees_of c.args.parts.now in
    let test = c.loop-turn-test.true in
    let at = tree_at c.args.parts.now k c.index-parts-parts.result (omega arith) c.index-parts-parts.is in
    let b1 = c.loop-turn.builder in
    let s1 = c.loop-turn.stack.items in
    let before : n - c.loop-turn.turn ≡ suc k = omega arith in
    let P : ℕ → Type 0 = λ i. Puts nets earlier (join_all (drop i ts)) b0 b1 s0 s1 in
    let p = subst P before c.loop-turn.invariant.puts in
    let b2 = c.push_word.new.builder in
    let s2 = c.push_word.new.stack.items in
    let a = tree_of c.index-parts-parts.result in
    let after : k ≡ n - (c.loop-turn.turn + 1) = omega arith in
    let Q : ℕ → Type 0 = λ i. Puts nets earlier (join_all (drop i ts)) b0 b2 s0 s2 in
    let R : Tree → Type 0 = λ x. Puts nets earlier x b1 b2 s1 s2 in
    record {
      ready = ready_after nets earlier (cost_of a) (width a) (bits_in nets earlier a) (asks_in nets earlier a) b1 b2 s1 s2 c.loop-turn.invariant.ready c.in_ok-push_word.ensures;
      puts = subst Q after (part_before nets earlier ts k b0 b1 b2 s0 s1 s2 (omega arith) p (subst R (sym at) c.in_ok-push_word.ensures));
    }
