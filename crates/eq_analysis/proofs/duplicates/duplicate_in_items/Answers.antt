use Rattle.std.proofs.Common.{Option, Bor, sym, ap, ◌∙◌}
use Rattle.std.specs.Prelude.{option_copied}
use Rattle.eq_names.specs.declared.name.Name.{Name as TheName}
use Rattle.eq_verilog.specs.Trees.{module_tree}
use Rattle.eq_analysis.proofs.DuplicateLemmas.{duplicate_here, duplicate_later}
use Rattle.eq_analysis.proofs.duplicates.duplicate_in_items.Goals as goal

pub returns-in-Some : goal.returns-in-Some
returns-in-Some c =
    duplicate_here (module_tree c.args.table.now.within.now) c.args.items.now c.loop-item.item-index c.item-item.result
    c.item-item.result c.loop-item.directions c.loop-item.others c.loop-item-test.true (sym c.item-item.is)
    c.loop-item.invariant c.in-Some.name.now
    (λ before s. sym (ap (λ (o : Option (Bor TheName)). option_copied o) c.in-Some.is)
    ∙ c.in_ok-name.ensures.found before s)

pub loop-item-preserved : goal.loop-item-preserved
loop-item-preserved c =
    duplicate_later (module_tree c.args.table.now.within.now) c.args.items.now c.loop-item.item-index c.item-item.result
    c.item-item.result c.loop-item.directions c.loop-item.others c.loop-item-test.true (sym c.item-item.is)
    c.loop-item.invariant c.duplicate_at.new.directions c.duplicate_at.new.others
    (λ before s. sym (ap (λ (o : Option (Bor TheName)). option_copied o) c.in_default.is)
    ∙ c.in_ok-name.ensures.found before s)
    c.in_ok-name.ensures.seen
