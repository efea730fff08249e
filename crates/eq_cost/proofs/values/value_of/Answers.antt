use Rattle.std.proofs.Common.{List, map, ap}
use Rattle.eq_vparse.specs.declared.tree.Item.{Item}
use Rattle.eq_verilog.specs.Trees.{item_tree}
use Rattle.eq_analysis.specs.Tabling.{tree_at, trees_at}
use Rattle.eq_cost.proofs.ValueLemmas.{all_items}
use Rattle.eq_cost.proofs.values.value_of.Goals as goal

pub returns-in_ok-value-in-Some : goal.returns-in_ok-value-in-Some
returns-in_ok-value-in-Some c = λ k j are most.
    let all = trees_at c.args.tables.now in
    c.in_ok-value-in-Some.ensures k j
    (λ i low. all_items all c.args.values.now (tree_at c.args.table.now) c.as_slice.result.now
    (ap (λ (is : List Item). map item_tree is) c.as_slice.ensures) c.values_of_items.result c.in-Some.inside
    c.in-Some.is c.values_of_items.ensures k i are low) most
