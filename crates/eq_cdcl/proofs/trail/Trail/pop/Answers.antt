use Rattle.std.proofs.Common.{◌≡◌, length, ap, List, subst, arith}
use Rattle.std.proofs.lemmas.List.{length-take, length_push}
use Rattle.eq_proof.specs.Literal.{Literal}
use Rattle.eq_cdcl.specs.inner.Slots.{IsTrail}
use Rattle.eq_cdcl.specs.declared.trail.Reason.{Reason}
use Rattle.eq_cdcl.proofs.Slotted.{trail_shortened}
use Rattle.eq_cdcl.proofs.trail.Trail.pop.Goals as goal

pub invariant_of-self : goal.invariant_of-self
invariant_of-self c =
    let P : List Literal → Type 0 = λ lits. IsTrail c.self.inside.slots.items lits c.self.inside.reasons.items in
    let items = c.in-Some.ensures.items in
    let rest = ap length c.pop.ensures.rest in
    let count = c.self.inside.reasons.ok.1 in
    let last = ap length items in
    let same : length c.pop.new.self.items ≡ length c.pop-2.new.self.items = omega (arith, rest, last, count, c.self.invariant.same, length_push c.pop-2.new.self.items c.in-Some.l, length-take {A = Reason}) in
    rw c.var.ensures.value (trail_shortened c.self.inside.slots.items c.pop-2.new.self.items c.self.inside.reasons.items c.pop.new.self.items c.in-Some.l (subst P items c.self.invariant) same)
