use Rattle.std.proofs.Common.{◌≡◌, Some, None, arith, ◌∙◌}
use Rattle.eq_match.specs.inner.Tables.{pairing_of}
use Rattle.eq_match.proofs.Linked.{read_at, unlinked, within}
use Rattle.eq_match.proofs.table.Table.release.Goals as goal

pub index_mut-requires-in-Some : goal.index_mut-requires-in-Some
index_mut-requires-in-Some c =
    let t = c.requires.table in
    let at : pairing_of c.args.self.now.partners.items c.args.k ≡ Some c.in-Some.partner =
    read_at c.args.self.now.partners.items c.args.k c.index.result.now None c.index.ensures c.requires.there ∙
    c.in-Some.is in
    let lt = within c.args.self.now.owners.items c.in-Some.partner.net c.args.k (t.linked.there c.args.k
    c.in-Some.partner at) in
    let size = c.args.self.now.owners.ok in
    omega arith

pub returns-in-Some-clause-table : goal.returns-in-Some-clause-table
returns-in-Some-clause-table c =
    let at : pairing_of c.args.self.now.partners.items c.args.k ≡ Some c.in-Some.partner =
    read_at c.args.self.now.partners.items c.args.k c.index.result.now None c.index.ensures c.requires.there ∙
    c.in-Some.is in
    unlinked _ _ c.args.self.now.partners.items c.args.self.now.owners.items c.requires.table c.args.k
    c.in-Some.partner at
