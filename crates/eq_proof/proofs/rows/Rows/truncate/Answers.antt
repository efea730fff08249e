use Rattle.eq_proof.proofs.Division.{length-parts, taken_divides, rows_taken}
use Rattle.eq_proof.proofs.rows.Rows.truncate.Goals as goal

pub end_of-end-requires : goal.end_of-end-requires
end_of-end-requires g c =
    let within = rw (← c.self.view_is, length-parts) at c.requires in
    rw c.as_slice.ensures.value within

pub invariant_of-self : goal.invariant_of-self
invariant_of-self g c =
    let within = rw (← c.self.view_is, length-parts) at c.requires in
    rw (c.truncate.ensures.items, c.truncate-2.ensures.items, c.end_of-end.ensures, c.as_slice.ensures.value) (taken_divides c.self.inside.items.items c.self.inside.ends.items c.args.rows c.self.invariant within)

pub returns : goal.returns
returns g c =
    let within = rw (← c.self.view_is, length-parts) at c.requires in
    rw (c.truncate.ensures.items, c.truncate-2.ensures.items, c.end_of-end.ensures, c.as_slice.ensures.value, ← c.self.view_is) (rows_taken c.self.inside.items.items 0 c.self.inside.ends.items c.args.rows c.self.invariant within)
