use Rattle.std.proofs.Common.{Option, Bor, refl, sym, ap, ◌∙◌}
use Rattle.std.specs.Prelude.{option_copied}
use Rattle.eq_names.specs.declared.name.Name.{Name as TheName}
use Rattle.eq_verilog.specs.Trees.{item_tree}
use Rattle.eq_analysis.proofs.StackLemmas.{pushed}
use Rattle.eq_analysis.proofs.visiting.add_instance.Goals as goal

pub returns-in_ok-push-in-Some : goal.returns-in_ok-push-in-Some
returns-in_ok-push-in-Some c =
    λ all seen. pushed all c.args.left seen (item_tree c.args.item.now)
    (record { name = c.in-Some.name; left = c.args.left }) c.args.stack.now.items c.push.new.self.items refl
    (ap (λ (o : Option (Bor TheName)). option_copied o) (sym c.in-Some.is) ∙ c.instantiated.ensures)
    c.in_ok-push-in-Some.ensures.items
