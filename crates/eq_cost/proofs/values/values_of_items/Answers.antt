use Rattle.std.proofs.Common.{◌≤◌, length, map, arith, refl, sym, ap, ◌∙◌}
use Rattle.eq_net.specs.Meaning.{if_there}
use Rattle.eq_verilog.specs.Trees.{item_tree}
use Rattle.eq_verilog.specs.Hierarchy.{instance_in}
use Rattle.eq_analysis.specs.Tabling.{trees_at}
use Rattle.eq_cost.specs.Counts.{told}
use Rattle.eq_cost.specs.inner.Valuing.{inside_cost}
use Rattle.eq_cost.proofs.ConnectionLemmas.{sum_there}
use Rattle.eq_cost.proofs.Numbers.{summed}
use Rattle.eq_cost.proofs.PartLemmas.{sum_mapped}
use Rattle.eq_cost.proofs.Running.{running_all, running_next}
use Rattle.eq_cost.proofs.ValueLemmas.{item_value}
use Rattle.eq_cost.proofs.values.values_of_items.Goals as goal

pub loop-item-preserved : goal.loop-item-preserved
loop-item-preserved c = λ k j are most.
    let all = trees_at c.args.tables.now in
    let i = c.item-item.result in
    let total = c.loop-item.total in
    let value = c.in-Some.value in
    running_next (λ x. if_there 0 (inside_cost all j) (instance_in (item_tree x))) c.args.items.now
    c.loop-item.item-index i total c.sum-total.result c.loop-item-test.true c.item-item.is
    (c.loop-item.invariant k j are most)
    (summed total total value (if_there 0 (inside_cost all j) (instance_in (item_tree i))) c.sum-total.result
    c.sum-total.ensures refl
    (sym (item_value all c.args.values.now (item_tree i) c.value_of_item.result value c.in-Some.is
    c.value_of_item.ensures k j are most)))

pub returns : goal.returns
returns c = λ k j are most.
    let all = trees_at c.args.tables.now in
    let last = c.loop-item-test.false in
    let end : length c.args.items.now ≤ c.loop-item.item-index = omega arith in
    sym (running_all (λ x. if_there 0 (inside_cost all j) (instance_in (item_tree x))) c.args.items.now
    c.loop-item.item-index c.loop-item.total end (c.loop-item.invariant k j are most)
    ∙ ap (λ n. told n) (sum_mapped (λ x. if_there 0 (inside_cost all j) (instance_in x)) item_tree c.args.items.now
    ∙ sum_there (inside_cost all j) instance_in (map item_tree c.args.items.now)))
