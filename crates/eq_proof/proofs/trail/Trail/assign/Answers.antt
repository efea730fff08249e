use Rattle.eq_proof.proofs.Trails.{trail_assigned, trail_room}
use Rattle.eq_proof.proofs.trail.Trail.assign.Goals as goal

pub invariant_of-self-2 : goal.invariant_of-self-2
invariant_of-self-2 c =
    let within = rw (← c.self.view_is) at c.requires.within in
    let none = rw (← c.self.view_is) at c.requires.no_value in
    rw (c.in_ok-push.ensures.items, c.var.ensures.value, c.mark_by.ensures, c.positive.ensures) (trail_assigned c.self.inside.marks.items c.self.inside.lits.items c.args.l c.self.invariant within none)

pub returns-clause-room : goal.returns-clause-room
returns-clause-room c = trail_room _ _ (invariant_of-self-2 c)
