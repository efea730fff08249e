use Rattle.std.proofs.Common.{◌≤◌, length, arith, refl, ap, ◌∙◌}
use Rattle.eq_verilog.specs.Trees.{item_tree}
use Rattle.eq_verilog.specs.Nets.{module_scope}
use Rattle.eq_verilog.specs.Costs.{item_cost}
use Rattle.eq_analysis.specs.Tabling.{tree_at, trees_at}
use Rattle.eq_cost.specs.Counts.{told}
use Rattle.eq_cost.proofs.Numbers.{summed}
use Rattle.eq_cost.proofs.PartLemmas.{sum_mapped}
use Rattle.eq_cost.proofs.Running.{running_all, running_next}
use Rattle.eq_cost.proofs.items.items_cost.Goals as goal

pub loop-item-preserved : goal.loop-item-preserved
loop-item-preserved c =
    let all = trees_at c.args.tables.now in
    let s = module_scope (tree_at c.args.table.now) in
    let i = c.item-item.result in
    let total = c.loop-item.total in
    running_next (λ x. item_cost all s (item_tree x)) c.args.items.now c.loop-item.item-index i total
    c.sum-total.result c.loop-item-test.true c.item-item.is c.loop-item.invariant
    (summed total total c.in_ok-cost.cost (item_cost all s (item_tree i)) c.sum-total.result c.sum-total.ensures refl
    c.in_ok-cost.ensures)

pub returns : goal.returns
returns c =
    let all = trees_at c.args.tables.now in
    let s = module_scope (tree_at c.args.table.now) in
    let last = c.loop-item-test.false in
    let end : length c.args.items.now ≤ c.loop-item.item-index = omega arith in
    running_all (λ x. item_cost all s (item_tree x)) c.args.items.now c.loop-item.item-index c.loop-item.total end
    c.loop-item.invariant
    ∙ ap (λ n. told n) (sum_mapped (λ x. item_cost all s x) item_tree c.args.items.now)
