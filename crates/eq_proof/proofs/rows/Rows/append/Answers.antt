use Rattle.std.proofs.Common.{rules, ◌≡◌, ◌+◌, ◌++◌, ◌∷◌, [], length, arith, length-append}
use Rattle.eq_proof.proofs.Division.{row_more, IsDivision-push}
use Rattle.eq_proof.proofs.rows.Rows.append.Goals as goal

pub invariant_of-self-in-Ok : goal.invariant_of-self-in-Ok
invariant_of-self-in-Ok g c =
    let start : c.len-len.result ≡ length c.self.inside.items.items = search rules in
    let items : c.extend_from_slice.new.self.items ≡ c.self.inside.items.items ++ c.args.row.now = c.in_ok-extend_from_slice.ensures.items in
    let ends : c.push.new.self.items ≡ c.self.inside.ends.items ++ (c.len-len.result + length c.args.row.now) ∷ [] = c.in-Ok.ensures.items in
    rw (items, ends, start, length-append) (IsDivision-push _ _ 0 c.self.inside.ends.items (omega arith) c.self.invariant)

pub returns-in-Ok-clause-ok : goal.returns-in-Ok-clause-ok
returns-in-Ok-clause-ok g c =
    let start : c.len-len.result ≡ length c.self.inside.items.items = search rules in
    let items : c.extend_from_slice.new.self.items ≡ c.self.inside.items.items ++ c.args.row.now = c.in_ok-extend_from_slice.ensures.items in
    let ends : c.push.new.self.items ≡ c.self.inside.ends.items ++ (c.len-len.result + length c.args.row.now) ∷ [] = c.in-Ok.ensures.items in
    rw (items, ends, start, ← c.self.view_is) (row_more c.self.inside.items.items c.args.row.now 0 c.self.inside.ends.items c.self.invariant)
