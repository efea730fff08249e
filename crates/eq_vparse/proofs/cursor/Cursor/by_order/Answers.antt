use Rattle.std.proofs.Common.{rules, ◌≡◌, ◌≢◌, sym, ◌∙◌}
use Rattle.eq_vparse.specs.Limits.{limits}
use Rattle.eq_vparse.specs.declared.stop.Stop.TheVariants as stop
use Rattle.eq_vparse.specs.Reading.{stopped}
use Rattle.eq_vparse.specs.ConnectionReading.{by_order_at, ordered_at}
use Rattle.eq_vparse.proofs.Turns.{comma_stops, comma_ends, comma_goes, comma_less}
use Rattle.eq_vparse.proofs.Connections.{ordered_progress}
use Rattle.eq_vparse.proofs.cursor.Cursor.by_order.Goals as goal

pub returns-in_err-ordered : goal.returns-in_err-ordered
unfolding by_order_at
returns-in_err-ordered c =
    let stops : c.in_err-ordered.field-0.0 ≢ stop.Memory → by_order_at limits c.args.self.now ≡ stopped c.in_err-ordered.field-0.0 =
    λ e. sym c.loop-conns.invariant ∙ comma_stops (ordered_at limits) (ordered_progress limits) c.loop-conns.conns c.loop-conns.self _ (c.in_err-ordered.ensures e) in
    search (rules, stops)

pub returns-then-not-takes : goal.returns-then-not-takes
unfolding by_order_at
returns-then-not-takes c = sym c.loop-conns.invariant ∙ comma_ends (ordered_at limits) (ordered_progress limits) c.loop-conns.conns c.loop-conns.self _ _ _ c.in_ok-ordered.ensures c.if-not-takes.ensures

pub loop-conns-smaller : goal.loop-conns-smaller
loop-conns-smaller c = comma_less (ordered_at limits) (ordered_progress limits) c.loop-conns.conns c.loop-conns.self _ _ _ c.in_ok-ordered.ensures c.if-not-takes.ensures

pub loop-conns-preserved : goal.loop-conns-preserved
loop-conns-preserved c = sym (comma_goes (ordered_at limits) (ordered_progress limits) c.loop-conns.conns c.loop-conns.self _ _ _ c.in_ok-ordered.ensures c.if-not-takes.ensures) ∙ c.loop-conns.invariant
