use Rattle.std.proofs.Common.{rules, ◌≡◌, ◌≢◌, sym, ◌∙◌}
use Rattle.eq_vparse.specs.declared.stop.Stop.TheVariants as stop
use Rattle.eq_vparse.specs.Reading.{stopped}
use Rattle.eq_vparse.specs.HeaderReading.{port_names_at, port_name_at}
use Rattle.eq_vparse.proofs.Turns.{comma_stops, comma_ends, comma_goes, comma_less}
use Rattle.eq_vparse.proofs.Headers.{port_name_progress}
use Rattle.eq_vparse.proofs.cursor.Cursor.port_names.Goals as goal

pub returns-in_err-port_name : goal.returns-in_err-port_name
unfolding port_names_at
returns-in_err-port_name c =
    let stops : c.in_err-port_name.field-0.0 ≢ stop.Memory → port_names_at c.args.self.now ≡ stopped c.in_err-port_name.field-0.0 =
    λ e. sym c.loop-names.invariant ∙ comma_stops port_name_at port_name_progress c.loop-names.names c.loop-names.self _ (c.in_err-port_name.ensures e) in
    search (rules, stops)

pub returns-then-not-takes : goal.returns-then-not-takes
unfolding port_names_at
returns-then-not-takes c = sym c.loop-names.invariant ∙ comma_ends port_name_at port_name_progress c.loop-names.names c.loop-names.self _ _ _ c.in_ok-port_name.ensures c.if-not-takes.ensures

pub loop-names-smaller : goal.loop-names-smaller
loop-names-smaller c = comma_less port_name_at port_name_progress c.loop-names.names c.loop-names.self _ _ _ c.in_ok-port_name.ensures c.if-not-takes.ensures

pub loop-names-preserved : goal.loop-names-preserved
loop-names-preserved c = sym (comma_goes port_name_at port_name_progress c.loop-names.names c.loop-names.self _ _ _ c.in_ok-port_name.ensures c.if-not-takes.ensures) ∙ c.loop-names.invariant
