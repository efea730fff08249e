use Rattle.std.proofs.Common.{rules, map, arith}
use Rattle.eq_vparse.specs.declared.tree.Expr.TheViews.{the_lemmas}
use Rattle.eq_verilog.specs.Trees.{expr_tree}
use Rattle.eq_analysis.specs.Finding.{scope_of}
use Rattle.eq_analysis.proofs.Measured.{small_join, small_part, rest_own}
use Rattle.eq_analysis.proofs.sizes.+sizes.Goals as goal

pub own_of_all-own-total-requires : goal.own_of_all-own-total-requires
own_of_all-own-total-requires t c = (
  search (rules, the_lemmas),
  (
    c.requires.room,
    small_part (scope_of c.args.nets.now c.args.names.now c.args.from) c.args.parts.now c.loop-part.part-index
        c.part-item.result c.loop-part-test.true c.part-item.is c.requires.small,
  ),
)

pub own_of_all-overflow_add-total : goal.own_of_all-overflow_add-total
own_of_all-overflow_add-total t c =
    let s = scope_of c.args.nets.now c.args.names.now c.args.from in
    let next = rest_own s c.args.parts.now c.loop-part.part-index c.part-item.result c.loop-part-test.true
    c.part-item.is in
    let bound = small_join s (map expr_tree c.args.parts.now) c.requires.small in
    let sum = c.loop-part.invariant in
    let size = c.own-total.ensures in
    omega arith

pub own_of_all-loop-part-preserved : goal.own_of_all-loop-part-preserved
own_of_all-loop-part-preserved t c =
    let s = scope_of c.args.nets.now c.args.names.now c.args.from in
    let next = rest_own s c.args.parts.now c.loop-part.part-index c.part-item.result c.loop-part-test.true
    c.part-item.is in
    let sum = c.loop-part.invariant in
    let size = c.own-total.ensures in
    omega arith
