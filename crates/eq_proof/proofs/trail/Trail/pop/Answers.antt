use Rattle.std.proofs.Common.{List, subst}
use Rattle.eq_proof.specs.Literal.{Literal}
use Rattle.eq_proof.specs.Marks.{IsTrail}
use Rattle.eq_proof.proofs.Trails.{trail_popped}
use Rattle.eq_proof.proofs.trail.Trail.pop.Goals as goal

pub invariant_of-self-2 : goal.invariant_of-self-2
invariant_of-self-2 c =
    let P : List Literal → Type 0 = λ lits. IsTrail c.self.inside.marks.items lits in
    rw c.var.ensures.value (trail_popped c.self.inside.marks.items _ c.in_ok-l.l (subst P c.in_ok-l.ensures.items c.self.invariant))
