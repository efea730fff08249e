use Rattle.std.proofs.Common.{rules, ◌≡◌, ◌<◌, ◌-◌, suc, drop, length, map, arith, sym, subst}
use Rattle.eq_vparse.specs.declared.tree.Expr.TheViews.{the_lemmas}
use Rattle.eq_verilog.specs.Trees.{ExprTree, join_all, expr_tree}
use Rattle.eq_analysis.specs.Finding.{scope_of}
use Rattle.eq_flatten.specs.Meant.{AddsMeant}
use Rattle.eq_flatten.proofs.MeantParts.{adds_joined, fit_each, rest_parts, slim_each}
use Rattle.eq_flatten.proofs.target_bits.+output_bits.Goals as goal

pub add_outputs-add_output-requires : goal.add_outputs-add_output-requires
add_outputs-add_output-requires t c =
    let nets = c.args.nets.now in
    let names = c.args.names.now in
    let k = c.loop-place.place - 1 in
    let part = c.index-parts-place.result in
    let some = c.loop-place-test.true in
    let most = c.loop-place.invariant.within in
    let inside : k < length c.args.parts.now = omega (arith, some, most) in (
      search (rules, the_lemmas),
      (
        c.requires.room,
        (
          fit_each expr_tree nets names c.args.from c.args.parts.now k part inside c.index-parts-place.is
              c.requires.fit,
          slim_each expr_tree (scope_of nets names c.args.from) c.args.parts.now k part inside c.index-parts-place.is
              c.requires.slim,
        ),
      ),
    )

pub add_outputs-loop-place-preserved : goal.add_outputs-loop-place-preserved
add_outputs-loop-place-preserved t c =
    let nets = c.args.nets.now in
    let s = scope_of nets c.args.names.now c.args.from in
    let m = c.loop-place.place in
    let k = m - 1 in
    let part = c.index-parts-place.result in
    let some = c.loop-place-test.true in
    let most = c.loop-place.invariant.within in
    let inside : k < length c.args.parts.now = omega (arith, some, most) in
    let next : m ≡ suc k = omega (arith, some) in
    record {
      within = omega (arith, most);
      adds = subst (λ (e : ExprTree). AddsMeant nets s e c.args.bits.now c.add_output.new.bits)
          (sym (rest_parts expr_tree c.args.parts.now k m part next inside c.index-parts-place.is))
          (adds_joined nets s (expr_tree part) (join_all (map expr_tree (drop m c.args.parts.now))) c.args.bits.now
          c.loop-place.bits c.add_output.new.bits c.loop-place.invariant.adds c.in_ok-add_output.ensures);
    }
