use Rattle.std.proofs.Common.{◌≡◌, length, rules}
use Rattle.eq_cdcl.proofs.Slotted.{trail_extended, trail_fits}
use Rattle.eq_cdcl.proofs.trail.Trail.assign.Goals as goal

pub invariant_of-self-in-Ok : goal.invariant_of-self-in-Ok
invariant_of-self-in-Ok c =
    let within = rw (← c.self.view_is) at c.requires.within in
    let none = rw (← c.self.view_is) at c.requires.no_value in
    let place : c.in_ok-place.place ≡ length c.self.inside.lits.items = search rules in
    rw (c.in-Ok.ensures.items, c.in_ok-push.ensures.items, place, c.var.ensures.value, c.positive.ensures)
    (trail_extended c.self.inside.slots.items c.self.inside.lits.items c.self.inside.reasons.items c.args.l c.args.reason c.self.invariant within none)

pub returns-in-Ok-clause-room : goal.returns-in-Ok-clause-room
returns-in-Ok-clause-room c = trail_fits _ _ _ (invariant_of-self-in-Ok c)
