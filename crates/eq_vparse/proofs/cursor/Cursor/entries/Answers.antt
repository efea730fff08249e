use Rattle.std.proofs.Common.{rules, ◌≡◌, ◌≢◌, sym, ◌∙◌}
use Rattle.eq_vparse.specs.Limits.{limits}
use Rattle.eq_vparse.specs.declared.stop.Stop.TheVariants as stop
use Rattle.eq_vparse.specs.Reading.{stopped}
use Rattle.eq_vparse.specs.ItemReading.{entries_at, entry_at}
use Rattle.eq_vparse.proofs.Turns.{comma_stops, comma_ends, comma_goes, comma_less}
use Rattle.eq_vparse.proofs.Listed.{entry_progress}
use Rattle.eq_vparse.proofs.cursor.Cursor.entries.Goals as goal

pub returns-in_err-entry : goal.returns-in_err-entry
unfolding entries_at
returns-in_err-entry c =
    let stops : c.in_err-entry.field-0.0 ≢ stop.Memory → entries_at limits c.args.head.now c.args.items.now c.args.self.now ≡ stopped c.in_err-entry.field-0.0 =
    λ e. sym c.loop-self.invariant ∙ comma_stops (entry_at limits c.args.head.now) (entry_progress limits c.args.head.now) c.loop-self.items c.loop-self.self _ (c.in_err-entry.ensures e) in
    search (rules, stops)

pub returns-then-not-takes : goal.returns-then-not-takes
unfolding entries_at
returns-then-not-takes c = sym c.loop-self.invariant ∙ comma_ends (entry_at limits c.args.head.now) (entry_progress limits c.args.head.now) c.loop-self.items c.loop-self.self _ _ _ c.in_ok-entry.ensures c.if-not-takes.ensures

pub loop-self-smaller : goal.loop-self-smaller
loop-self-smaller c = comma_less (entry_at limits c.args.head.now) (entry_progress limits c.args.head.now) c.loop-self.items c.loop-self.self _ _ _ c.in_ok-entry.ensures c.if-not-takes.ensures

pub loop-self-preserved : goal.loop-self-preserved
loop-self-preserved c = sym (comma_goes (entry_at limits c.args.head.now) (entry_progress limits c.args.head.now) c.loop-self.items c.loop-self.self _ _ _ c.in_ok-entry.ensures c.if-not-takes.ensures) ∙ c.loop-self.invariant
