use Rattle.std.proofs.Common.{Option, Bor, sym, ap, ◌∙◌}
use Rattle.std.specs.Prelude.{option_copied}
use Rattle.eq_names.specs.declared.name.Name.{Name as TheName}
use Rattle.eq_verilog.specs.Trees.{item_tree}
use Rattle.eq_verilog.specs.Hierarchy.{instance_in}
use Rattle.eq_analysis.specs.Tabling.{trees_at}
use Rattle.eq_cost.proofs.ValueLemmas.{named_instance}
use Rattle.eq_cost.proofs.values.value_of_item.Goals as goal

pub returns-in-Some : goal.returns-in-Some
returns-in-Some c =
    named_instance (trees_at c.args.tables.now) c.args.values.now c.in-Some.name.now
    (instance_in (item_tree c.args.item.now)) c.value_named.result
    (sym c.instantiated.ensures ∙ ap (λ (o : Option (Bor TheName)). option_copied o) c.in-Some.is)
    c.value_named.ensures
