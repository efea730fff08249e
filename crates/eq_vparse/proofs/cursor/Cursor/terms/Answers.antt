use Rattle.std.proofs.Common.{rules, ◌≡◌, ◌≢◌, sym, ◌∙◌}
use Rattle.eq_vparse.specs.Limits.{limits}
use Rattle.eq_vparse.specs.declared.stop.Stop.TheVariants as stop
use Rattle.eq_vparse.specs.Reading.{stopped}
use Rattle.eq_vparse.specs.ConnectionReading.{terms_at, term_at}
use Rattle.eq_vparse.proofs.Turns.{comma_stops, comma_ends, comma_goes, comma_less}
use Rattle.eq_vparse.proofs.Connections.{term_progress}
use Rattle.eq_vparse.proofs.cursor.Cursor.terms.Goals as goal

pub returns-in_err-term : goal.returns-in_err-term
unfolding terms_at
returns-in_err-term c =
    let stops : c.in_err-term.field-0.0 ≢ stop.Memory → terms_at limits c.args.self.now ≡ stopped c.in_err-term.field-0.0 =
    λ e. sym c.loop-terms.invariant ∙ comma_stops (term_at limits) (term_progress limits) c.loop-terms.terms c.loop-terms.self _ (c.in_err-term.ensures e) in
    search (rules, stops)

pub returns-then-not-takes : goal.returns-then-not-takes
unfolding terms_at
returns-then-not-takes c = sym c.loop-terms.invariant ∙ comma_ends (term_at limits) (term_progress limits) c.loop-terms.terms c.loop-terms.self _ _ _ c.in_ok-term.ensures c.if-not-takes.ensures

pub loop-terms-smaller : goal.loop-terms-smaller
loop-terms-smaller c = comma_less (term_at limits) (term_progress limits) c.loop-terms.terms c.loop-terms.self _ _ _ c.in_ok-term.ensures c.if-not-takes.ensures

pub loop-terms-preserved : goal.loop-terms-preserved
loop-terms-preserved c = sym (comma_goes (term_at limits) (term_progress limits) c.loop-terms.terms c.loop-terms.self _ _ _ c.in_ok-term.ensures c.if-not-takes.ensures) ∙ c.loop-terms.invariant
