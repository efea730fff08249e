use Rattle.std.proofs.lemmas.List.{get_or_read}
use Rattle.eq_proof.specs.declared.trail.Mark.TheVariants.{Open}
use Rattle.eq_proof.proofs.Trails.{trail_value, trail_consistent}
use Rattle.eq_proof.proofs.trail.Trail.value.Goals as goal

pub returns-clause-value : goal.returns-clause-value
returns-clause-value c =
    let within = rw (← c.self.view_is) at c.requires in
    let read = rw c.var.ensures.value at c.index.ensures in
    let mark = get_or_read c.self.inside.marks.items c.args.l.var c.index.result.now within read Open in
    rw (c.value_by.ensures, mark, c.positive.ensures, ← c.self.view_is) (trail_value c.self.inside.marks.items c.self.inside.lits.items c.args.l c.self.invariant within)

pub returns-clause-consistent : goal.returns-clause-consistent
returns-clause-consistent c = rw (← c.self.view_is) (trail_consistent c.self.inside.marks.items c.self.inside.lits.items c.self.invariant)
