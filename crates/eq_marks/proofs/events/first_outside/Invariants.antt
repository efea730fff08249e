use Rattle.std.proofs.Common.{◌≡◌, drop}
use Rattle.eq_marks.specs.inner.Events.{first_unmarked}
use Rattle.eq_marks.proofs.events.first_outside.Given as goal

abbrev pub invariant-loop-event : goal.invariant-loop-event
invariant-loop-event l = first_unmarked l.class l.events ≡ first_unmarked l.class (drop l.event-index l.events)
