use Rattle.std.proofs.Common.{◌≤◌, length, arith, refl, ap, ◌∙◌}
use Rattle.eq_verilog.specs.Trees.{target_tree}
use Rattle.eq_verilog.specs.Sizes.{own}
use Rattle.eq_verilog.specs.Nets.{module_scope}
use Rattle.eq_analysis.specs.Tabling.{tree_at}
use Rattle.eq_cost.specs.Counts.{told}
use Rattle.eq_cost.proofs.Numbers.{summed}
use Rattle.eq_cost.proofs.PartLemmas.{size_of_all}
use Rattle.eq_cost.proofs.Running.{running_all, running_next}
use Rattle.eq_cost.proofs.target_sizes.+targets.Goals as goal

pub targets_size-loop-part-preserved : goal.targets_size-loop-part-preserved
targets_size-loop-part-preserved t c =
    let s = module_scope (tree_at c.args.table.now) in
    let x = c.part-item.result in
    let total = c.loop-part.total in
    running_next (λ y. own s (target_tree y)) c.args.parts.now c.loop-part.part-index x total c.sum-total.result
    c.loop-part-test.true c.part-item.is c.loop-part.invariant
    (summed total total c.target_size.result (own s (target_tree x)) c.sum-total.result c.sum-total.ensures refl
    c.target_size.ensures)

pub targets_size-returns : goal.targets_size-returns
targets_size-returns t c =
    let s = module_scope (tree_at c.args.table.now) in
    let last = c.loop-part-test.false in
    let end : length c.args.parts.now ≤ c.loop-part.part-index = omega arith in
    running_all (λ y. own s (target_tree y)) c.args.parts.now c.loop-part.part-index c.loop-part.total end
    c.loop-part.invariant
    ∙ ap (λ n. told n) (size_of_all s target_tree c.args.parts.now)
