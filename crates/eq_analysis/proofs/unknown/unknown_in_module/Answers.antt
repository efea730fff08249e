use Rattle.std.proofs.Common.{List, map, sym, ap, ◌∙◌}
use Rattle.std.specs.Prelude.{is_some}
use Rattle.eq_vparse.specs.declared.tree.Item.{Item}
use Rattle.eq_verilog.specs.Trees.{module_tree, item_tree}
use Rattle.eq_verilog.specs.Hierarchy.{Instance, module_named}
use Rattle.eq_verilog.specs.Firsts.{first_found, unless}
use Rattle.eq_analysis.specs.inner.Unknowing.{unknown_item}
use Rattle.eq_analysis.proofs.FirstLemmas.{found_by_items}
use Rattle.eq_analysis.proofs.unknown.unknown_in_module.Goals as goal

pub returns : goal.returns
returns c =
    c.unknown_in_items.ensures
    ∙ ap (λ (is : List Item).
    first_found (λ i. unknown_item (map
    (λ m. module_tree m.now) c.args.modules.now) (item_tree i)) is) c.as_slice.ensures
    ∙ sym (found_by_items (λ (x : Instance).
    unless (is_some (module_named (map (λ m. module_tree m.now) c.args.modules.now) x.module_name)) x.module_name)
    c.args.within.now.items)
