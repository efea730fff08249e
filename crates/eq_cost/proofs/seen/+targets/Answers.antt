use Rattle.std.proofs.Common.{◌≡◌, ◌<◌, ◌-◌, ◌++◌, suc, List, drop, length, map, arith, sym, subst}
use Rattle.eq_verilog.specs.Trees.{ExprTree, join_all, target_tree}
use Rattle.eq_verilog.specs.Nets.{module_scope}
use Rattle.eq_verilog.specs.Costs.{bits_in}
use Rattle.eq_analysis.specs.Tabling.{tree_at}
use Rattle.eq_cost.specs.inner.Seeing.{IsCounted}
use Rattle.eq_cost.proofs.SeenLemmas.{part_in_front, rest_at}
use Rattle.eq_cost.proofs.seen.+targets.Goals as goal

pub see_targets-loop-place-preserved : goal.see_targets-loop-place-preserved
see_targets-loop-place-preserved t c =
    let s = module_scope (tree_at c.args.table.now) in
    let m = c.loop-place.place in
    let k = m - 1 in
    let part = c.index-parts-place.result in
    let some = c.loop-place-test.true in
    let most = c.loop-place.invariant.within in
    let inside : k < length c.args.parts.now = omega (arith, some, most) in
    let next : m ≡ suc k = omega (arith, some) in
    record {
      within = omega (arith, most);
      counted = λ bits h.
          subst (λ (es : List ExprTree). IsCounted c.see_target.new.seen (bits_in s (join_all es) ++ bits))
          (sym (rest_at target_tree c.args.parts.now k m part next inside c.index-parts-place.is))
          (part_in_front s c.see_target.new.seen bits (target_tree part) (map target_tree (drop m c.args.parts.now))
          (c.in_ok-see_target.ensures (bits_in s (join_all (map target_tree (drop m c.args.parts.now))) ++ bits)
          (c.loop-place.invariant.counted bits h)));
    }
