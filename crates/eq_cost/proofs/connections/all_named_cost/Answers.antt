use Rattle.std.proofs.Common.{◌≤◌, length, arith, refl, ap, ◌∙◌}
use Rattle.eq_verilog.specs.Trees.{named_tree}
use Rattle.eq_verilog.specs.Nets.{module_scope}
use Rattle.eq_analysis.specs.Tabling.{tree_at}
use Rattle.eq_cost.specs.Counts.{told}
use Rattle.eq_cost.specs.inner.Connecting.{named_cost}
use Rattle.eq_cost.proofs.Numbers.{summed}
use Rattle.eq_cost.proofs.PartLemmas.{sum_mapped}
use Rattle.eq_cost.proofs.Running.{running_all, running_next}
use Rattle.eq_cost.proofs.connections.all_named_cost.Goals as goal

pub loop-named-preserved : goal.loop-named-preserved
loop-named-preserved c =
    let s = module_scope (tree_at c.args.table.now) in
    let i = tree_at c.args.inside.now in
    let n = c.named-item.result in
    let total = c.loop-named.total in
    running_next (λ x. named_cost s i (named_tree x)) c.args.all.now c.loop-named.named-index n total
    c.sum-total.result c.loop-named-test.true c.named-item.is c.loop-named.invariant
    (summed total total c.named_cost.result (named_cost s i (named_tree n)) c.sum-total.result c.sum-total.ensures refl
    c.named_cost.ensures)

pub returns : goal.returns
returns c =
    let s = module_scope (tree_at c.args.table.now) in
    let i = tree_at c.args.inside.now in
    let last = c.loop-named-test.false in
    let end : length c.args.all.now ≤ c.loop-named.named-index = omega arith in
    running_all (λ x. named_cost s i (named_tree x)) c.args.all.now c.loop-named.named-index c.loop-named.total end
    c.loop-named.invariant
    ∙ ap (λ k. told k) (sum_mapped (λ x. named_cost s i x) named_tree c.args.all.now)
