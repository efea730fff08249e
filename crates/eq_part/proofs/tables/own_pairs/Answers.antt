use Rattle.std.proofs.Common.{ℕ, length, subst, sym}
use Rattle.eq_part.specs.inner.Tabling.{AreOwned, HoldOnce}
use Rattle.eq_part.proofs.Possessed.{are_owners, hold_once, size_of_empty}
use Rattle.eq_part.proofs.tables.own_pairs.Goals as goal

pub own_all-requires-clause-parts : goal.own_all-requires-clause-parts
own_all-requires-clause-parts c =
    let size = size_of_empty (length c.args.pairs.now) c.args.table.now c.requires.empty in
    let d = c.requires.divided in
    subst (λ (n : ℕ). HoldOnce n c.args.parts.now) (sym size) (hold_once c.args.pairs.now c.args.parts.now d.0 d.1)

pub returns : goal.returns
returns c =
    let size = size_of_empty (length c.args.pairs.now) c.args.table.now c.requires.empty in
    let d = c.requires.divided in
    are_owners c.args.pairs.now c.args.parts.now d.0 d.1 c.own_all.new.table
    (subst (λ (n : ℕ). AreOwned c.args.parts.now n (length c.args.parts.now) c.own_all.new.table) size c.own_all.ensures)
