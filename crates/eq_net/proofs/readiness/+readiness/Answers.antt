use Rattle.std.proofs.Common.{rules, ℕ, List, drop, arith, subst, sym, add-one}
use Rattle.eq_net.specs.declared.types.Word.TheViews.{the_lemmas}
use Rattle.eq_net.specs.Net.{number_of}
use Rattle.eq_net.specs.Tree.{Tree, join_all, trees_of}
use Rattle.eq_net.specs.inner.Marks.{IsReady}
use Rattle.eq_net.specs.inner.Sized.{IsSized}
use Rattle.eq_net.proofs.Pushed.{part_sized}
use Rattle.eq_net.proofs.Trees.{tree_at, length-trees_of, rest_from}
use Rattle.eq_net.proofs.readiness.+readiness.Goals as goal

pub are_ready-is_ready-requires : goal.are_ready-is_ready-requires
are_ready-is_ready-requires t c =
    let k = c.loop-part.part-index in
    let size = length-trees_of c.args.parts.now in
    let test = c.loop-part-test.true in
    let at = tree_at c.args.parts.now k c.part-item.result test c.part-item.is in
    let P : Tree → Type 0 = λ x. IsSized c.args.nets.now x in
    (search (rules, the_lemmas), (subst P at (part_sized c.args.nets.now (trees_of c.args.parts.now) k (omega arith) c.requires.sized), (c.requires.starts, c.requires.bits)))

pub are_ready-loop-part-preserved : goal.are_ready-loop-part-preserved
are_ready-loop-part-preserved t c =
    let k = c.loop-part.part-index in
    let ts = trees_of c.args.parts.now in
    let size = length-trees_of c.args.parts.now in
    let test = c.loop-part-test.true in
    let at = tree_at c.args.parts.now k c.part-item.result test c.part-item.is in
    let P : Tree → Type 0 = λ x. IsReady (number_of c.args.nets.now) c.args.done.now c.args.whole.now x in
    let Q : List Tree → Type 0 = λ xs. P (join_all xs) in
    let R : ℕ → Type 0 = λ n. P (join_all (drop n ts)) in
    λ rest. c.loop-part.invariant (subst Q (sym (rest_from ts k (omega arith))) (subst P (sym at) (c.is_ready.ensures c.if-not-is_ready.false), subst R (add-one k) rest))
