use Rattle.std.proofs.Common.{rules, ◌≡◌, ◌≢◌, sym, ap, ◌∙◌}
use Rattle.std.specs.Prelude.{not}
use Rattle.eq_vparse.specs.HeaderReading.{ends_ports}
use Rattle.eq_vparse.specs.declared.stop.Stop.TheVariants as stop
use Rattle.eq_vparse.specs.Reading.{stopped}
use Rattle.eq_vparse.specs.HeaderReading.{all_ports_at, more_ports_at}
use Rattle.eq_vparse.proofs.Turns.{until_stops, until_ends, until_goes, until_less}
use Rattle.eq_vparse.proofs.Headers.{more_ports_progress}
use Rattle.eq_vparse.proofs.cursor.Cursor.all_ports.Goals as goal

pub loop-alloc-smaller : goal.loop-alloc-smaller
loop-alloc-smaller c = until_less more_ports_at ends_ports more_ports_progress c.loop-alloc.ports c.loop-alloc.self _ _ (ap not (sym c.loop-alloc-test.ensures)) c.in_ok-more_ports.ensures

pub loop-alloc-preserved : goal.loop-alloc-preserved
loop-alloc-preserved c = sym (until_goes more_ports_at ends_ports more_ports_progress c.loop-alloc.ports c.loop-alloc.self _ _ (ap not (sym c.loop-alloc-test.ensures)) c.in_ok-more_ports.ensures) ∙ c.loop-alloc.invariant

pub returns-in_err-more_ports : goal.returns-in_err-more_ports
unfolding all_ports_at
returns-in_err-more_ports c =
    let stops : c.in_err-more_ports.field-0.0 ≢ stop.Memory → all_ports_at c.args.ports c.args.self.now ≡ stopped c.in_err-more_ports.field-0.0 =
    λ e. sym c.loop-alloc.invariant ∙ until_stops more_ports_at ends_ports more_ports_progress c.loop-alloc.ports c.loop-alloc.self _ (ap not (sym c.loop-alloc-test.ensures)) (c.in_err-more_ports.ensures e) in
    search (rules, stops)

pub returns : goal.returns
unfolding all_ports_at
returns c = sym c.loop-alloc.invariant ∙ until_ends more_ports_at ends_ports more_ports_progress c.loop-alloc.ports c.loop-alloc.self (ap not (sym c.loop-alloc-test.ensures))
