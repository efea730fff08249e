use Rattle.std.proofs.Common.{◌≡◌, ℕ, Some, None, length, set, arith, subst, ◌∙◌}
use Rattle.eq_match.specs.NetPairs.{without}
use Rattle.eq_match.specs.inner.Tables.{IsTable, owner_of, pairing_of}
use Rattle.eq_match.proofs.Linked.{read_at, unlinked, within, without_here}
use Rattle.eq_match.proofs.table.Table.release_gate.Goals as goal

pub index_mut-requires : goal.index_mut-requires
index_mut-requires c =
    let own : owner_of c.args.self.now.owners.items c.args.h ≡ Some c.in-Some.k =
    read_at c.args.self.now.owners.items c.args.h c.index.result.now None c.index.ensures c.requires.there ∙
    c.in-Some.is in
    let back = c.requires.table.linked.back c.in-Some.k c.args.h own in
    let lt = within c.args.self.now.partners.items c.in-Some.k back.0 back.1 in
    let size = c.args.self.now.partners.ok in
    omega arith

pub returns-in-Some-clause-table : goal.returns-in-Some-clause-table
returns-in-Some-clause-table c =
    let own : owner_of c.args.self.now.owners.items c.args.h ≡ Some c.in-Some.k =
    read_at c.args.self.now.owners.items c.args.h c.index.result.now None c.index.ensures c.requires.there ∙
    c.in-Some.is in
    let back = c.requires.table.linked.back c.in-Some.k c.args.h own in
    let P : ℕ → Type 0 = λ h. IsTable (length c.args.self.now.partners.items) (length c.args.self.now.owners.items)
    (set c.args.self.now.partners.items c.in-Some.k None) (set c.args.self.now.owners.items h None) in
    subst P back.2 (unlinked _ _ c.args.self.now.partners.items c.args.self.now.owners.items c.requires.table
    c.in-Some.k back.0 back.1)

pub returns-in-Some-clause-pairs : goal.returns-in-Some-clause-pairs
returns-in-Some-clause-pairs c =
    let own : owner_of c.args.self.now.owners.items c.args.h ≡ Some c.in-Some.k =
    read_at c.args.self.now.owners.items c.args.h c.index.result.now None c.index.ensures c.requires.there ∙
    c.in-Some.is in
    let back = c.requires.table.linked.back c.in-Some.k c.args.h own in
    let P : ℕ → Type 0 = λ h. (j : ℕ) → pairing_of (set c.args.self.now.partners.items c.in-Some.k None) j ≡ without h
    (pairing_of c.args.self.now.partners.items j) in
    subst P back.2 (without_here _ _ c.args.self.now.partners.items c.args.self.now.owners.items c.requires.table
    c.in-Some.k back.0 back.1)
