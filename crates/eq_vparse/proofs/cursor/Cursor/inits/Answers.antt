use Rattle.std.proofs.Common.{rules, ◌≡◌, ◌≢◌, sym, ◌∙◌}
use Rattle.eq_vparse.specs.Limits.{limits}
use Rattle.eq_vlex.specs.declared.key.Key.TheVariants as word
use Rattle.eq_vparse.specs.Tests.{is_key}
use Rattle.eq_vparse.specs.declared.stop.Stop.TheVariants as stop
use Rattle.eq_vparse.specs.Reading.{stopped}
use Rattle.eq_vparse.specs.ItemReading.{inits_at, init_at}
use Rattle.eq_vparse.proofs.Turns.{until_stops, until_ends, until_goes, until_less}
use Rattle.eq_vparse.proofs.Items.{init_progress}
use Rattle.eq_vparse.proofs.cursor.Cursor.inits.Goals as goal

pub loop-alloc-smaller : goal.loop-alloc-smaller
loop-alloc-smaller c = until_less (init_at limits) (is_key word.End) (init_progress limits) c.loop-alloc.items c.loop-alloc.self _ _ (sym c.loop-alloc-test.ensures) c.in_ok-init.ensures

pub loop-alloc-preserved : goal.loop-alloc-preserved
loop-alloc-preserved c = sym (until_goes (init_at limits) (is_key word.End) (init_progress limits) c.loop-alloc.items c.loop-alloc.self _ _ (sym c.loop-alloc-test.ensures) c.in_ok-init.ensures) ∙ c.loop-alloc.invariant

pub returns-in_err-init : goal.returns-in_err-init
unfolding inits_at
returns-in_err-init c =
    let stops : c.in_err-init.field-0.0 ≢ stop.Memory → inits_at limits c.args.items.now c.args.self.now ≡ stopped c.in_err-init.field-0.0 =
    λ e. sym c.loop-alloc.invariant ∙ until_stops (init_at limits) (is_key word.End) (init_progress limits) c.loop-alloc.items c.loop-alloc.self _ (sym c.loop-alloc-test.ensures) (c.in_err-init.ensures e) in
    search (rules, stops)

pub returns : goal.returns
unfolding inits_at
returns c = sym c.loop-alloc.invariant ∙ until_ends (init_at limits) (is_key word.End) (init_progress limits) c.loop-alloc.items c.loop-alloc.self (sym c.loop-alloc-test.ensures)
