use Rattle.std.proofs.Common.{rules, ◌≡◌, ◌≢◌}
use Rattle.eq_vparse.specs.declared.stop.Stop.{Stop}
use Rattle.eq_vparse.specs.declared.stop.Stop.TheVariants as stop
use Rattle.eq_vparse.specs.Reading.{stopped}
use Rattle.eq_vparse.specs.TargetReading.{target_at, braced}
use Rattle.eq_vparse.proofs.TargetTurns.{wanted_progress, turn_on, turn_off}
use Rattle.eq_vparse.proofs.cursor.Cursor.target.Goals as goal

pub returns-in_err-target : goal.returns-in_err-target
returns-in_err-target c =
    let e : Stop = c.in_err-target.field-0.0 in
    let at : e ≢ stop.Memory → target_at 1000 c.args.self.now ≡ stopped e = λ free. turn_off (braced c.loop-braces.braces) c.loop-braces.self _ _ (c.in_err-target.ensures free) c.loop-braces.invariant in
    search rules

pub returns-in-Some : goal.returns-in-Some
returns-in-Some c = turn_off (braced c.loop-braces.braces) c.loop-braces.self _ _ (rw c.in-Some.is at c.in_ok-target.ensures) c.loop-braces.invariant

pub loop-braces-smaller : goal.loop-braces-smaller
loop-braces-smaller c = wanted_progress (braced c.loop-braces.braces) c.loop-braces.self _ _ (rw c.in_default.is at c.in_ok-target.ensures)

pub loop-braces-preserved : goal.loop-braces-preserved
loop-braces-preserved c = turn_on (braced c.loop-braces.braces) _ c.loop-braces.self _ _ (rw c.in_default.is at c.in_ok-target.ensures) c.loop-braces.invariant
