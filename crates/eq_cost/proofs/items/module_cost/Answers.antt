use Rattle.std.proofs.Common.{List, map, ap, ◌∙◌}
use Rattle.std.specs.Prelude.{sum_by}
use Rattle.eq_vparse.specs.declared.tree.Item.{Item}
use Rattle.eq_verilog.specs.Trees.{item_tree}
use Rattle.eq_verilog.specs.Scopes.{width}
use Rattle.eq_verilog.specs.Declarations.{nets_in}
use Rattle.eq_verilog.specs.Nets.{module_scope}
use Rattle.eq_verilog.specs.Costs.{item_cost}
use Rattle.eq_analysis.specs.Tabling.{tree_at, trees_at}
use Rattle.eq_cost.specs.Counts.{told}
use Rattle.eq_cost.proofs.ItemLemmas.{all_bits}
use Rattle.eq_cost.proofs.Numbers.{summed}
use Rattle.eq_cost.proofs.items.module_cost.Goals as goal

pub returns : goal.returns
returns c =
    let all = trees_at c.args.tables.now in
    let m = tree_at c.args.table.now in
    let s = module_scope m in
    let bits = ap (λ n. told n) (all_bits m c.in_ok-places.places c.in_ok-places.ensures) in
    let items = c.in_ok-inside.ensures
    ∙ ap (λ (is : List Item). told (sum_by (item_cost all s) (map item_tree is))) c.as_slice-items.ensures in
    summed c.in_ok-places.places.starts.total (sum_by (width s) (nets_in m)) c.in_ok-inside.inside
    (sum_by (item_cost all s) m.items) c.sum.result c.sum.ensures bits items
