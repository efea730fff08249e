use Rattle.std.proofs.lemmas.List.{get_or_read}
use Rattle.eq_cdcl.specs.declared.trail.Slot.TheVariants.{Open}
use Rattle.eq_cdcl.proofs.Slotted.{slot_value}
use Rattle.eq_cdcl.proofs.trail.Trail.value.Goals as goal

pub returns-clause-value : goal.returns-clause-value
returns-clause-value c =
    let within = rw (← c.self.view_is) at c.requires in
    let read = rw c.var.ensures.value at c.index.ensures in
    let slot = get_or_read c.self.inside.slots.items c.args.l.var c.index.result.now within read Open in
    rw (c.value_by.ensures, slot, c.positive.ensures, ← c.self.view_is) (slot_value c.self.inside.slots.items c.self.inside.lits.items c.self.inside.reasons.items c.args.l c.self.invariant)
