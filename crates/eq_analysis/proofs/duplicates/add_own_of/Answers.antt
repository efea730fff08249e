use Rattle.std.proofs.Common.{Option, Bor, sym, ap, ◌∙◌}
use Rattle.std.specs.Prelude.{option_copied}
use Rattle.eq_names.specs.declared.name.Name.{Name as TheName}
use Rattle.eq_verilog.specs.Trees.{item_tree}
use Rattle.eq_verilog.specs.ModuleRefusals as spec
use Rattle.eq_analysis.proofs.DuplicateLemmas.{adds_item}
use Rattle.eq_analysis.proofs.duplicates.add_own_of.Goals as goal

pub returns-in-Some : goal.returns-in-Some
returns-in-Some c =
    adds_item c.add_own.result c.args.once.now c.args.twice.now c.add_own.new.once c.add_own.new.twice
    (spec.own_name (item_tree c.args.item.now)) c.in-Some.name.now
    (sym c.own_name.ensures ∙ ap (λ (o : Option (Bor TheName)). option_copied o) c.in-Some.is)
    c.add_own.ensures.once c.add_own.ensures.twice
