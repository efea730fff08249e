use Rattle.std.proofs.Common.{rules, ◌≡◌, ◌≢◌, sym, ◌∙◌}
use Rattle.eq_vparse.specs.Limits.{limits}
use Rattle.eq_vparse.specs.Tests.{is_end}
use Rattle.eq_vparse.specs.declared.stop.Stop.TheVariants as stop
use Rattle.eq_vparse.specs.Reading.{stopped}
use Rattle.eq_vparse.specs.SourceReading.{designs_at, more_designs_at}
use Rattle.eq_vparse.proofs.Turns.{until_stops, until_ends, until_goes, until_less}
use Rattle.eq_vparse.proofs.Sources.{design_progress}
use Rattle.eq_vparse.proofs.cursor.Cursor.designs.Goals as goal

pub loop-alloc-smaller : goal.loop-alloc-smaller
loop-alloc-smaller c = until_less (more_designs_at limits) is_end (design_progress limits) c.loop-alloc.modules c.loop-alloc.self _ _ (sym c.loop-alloc-test.ensures) c.in_ok-more_designs.ensures

pub loop-alloc-preserved : goal.loop-alloc-preserved
loop-alloc-preserved c = sym (until_goes (more_designs_at limits) is_end (design_progress limits) c.loop-alloc.modules c.loop-alloc.self _ _ (sym c.loop-alloc-test.ensures) c.in_ok-more_designs.ensures) ∙ c.loop-alloc.invariant

pub returns-in_err-more_designs : goal.returns-in_err-more_designs
unfolding designs_at
returns-in_err-more_designs c =
    let stops : c.in_err-more_designs.field-0.0 ≢ stop.Memory → designs_at limits c.args.modules.now c.args.self.now ≡ stopped c.in_err-more_designs.field-0.0 =
    λ e. sym c.loop-alloc.invariant ∙ until_stops (more_designs_at limits) is_end (design_progress limits) c.loop-alloc.modules c.loop-alloc.self _ (sym c.loop-alloc-test.ensures) (c.in_err-more_designs.ensures e) in
    search (rules, stops)

pub returns : goal.returns
unfolding designs_at
returns c = sym c.loop-alloc.invariant ∙ until_ends (more_designs_at limits) is_end (design_progress limits) c.loop-alloc.modules c.loop-alloc.self (sym c.loop-alloc-test.ensures)
