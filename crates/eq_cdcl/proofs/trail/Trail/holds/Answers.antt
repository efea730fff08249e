use Rattle.std.proofs.lemmas.List.{get_or_read}
use Rattle.eq_cdcl.specs.declared.trail.Slot.TheVariants.{Open}
use Rattle.eq_cdcl.proofs.Slotted.{slot_holds}
use Rattle.eq_cdcl.proofs.trail.Trail.holds.Goals as goal

pub returns : goal.returns
returns c =
    let within = rw (← c.self.view_is) at c.requires in
    let slot = get_or_read c.self.inside.slots.items c.args.var c.index.result.now within c.index.ensures Open in
    rw (c.holds_by.ensures, slot, ← c.self.view_is) (slot_holds c.self.inside.slots.items c.self.inside.lits.items c.self.inside.reasons.items c.args.var c.self.invariant)
