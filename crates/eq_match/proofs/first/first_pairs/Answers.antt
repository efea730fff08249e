use Rattle.std.proofs.Common.{◌+◌, length, sym, subst}
use Rattle.eq_net.specs.Whole.{parts_of}
use Rattle.eq_match.specs.declared.table.Table.{Table}
use Rattle.eq_match.specs.inner.Finding.{IsFirstTo}
use Rattle.eq_match.specs.inner.Tables.{IsTable, pairing_of}
use Rattle.eq_match.proofs.Linked.{resized}
use Rattle.eq_match.proofs.Twins.{first_next, first_skip}
use Rattle.eq_match.proofs.first.first_pairs.Goals.{in-Some, in_default}
use Rattle.eq_match.proofs.first.first_pairs.Goals as goal

pub loop-k-preserved : goal.loop-k-preserved
loop-k-preserved c =
    let gold = parts_of c.args.gold.now in
    let gate = parts_of c.args.gate.now in
    let old = c.loop-k.table in
    let inv = c.loop-k.invariant in
    let P : Table → Type 0 = λ t. IsTable (length gold.nets) (length gate.nets) t.partners.items t.owners.items in
    let Q : Table → Type 0 = λ t. IsFirstTo gold gate (c.loop-k.k + 1) (pairing_of t.partners.items) in
    elim c.match-twin.branch [
      | in-Some w ↦ record {
        table = subst P (sym w.table-is) (resized _ _ old.partners.items _ old.owners.items _ inv.table
            w.pair.ensures.table);
        first = subst Q (sym w.table-is) (first_next gold gate c.args.gold.now.is_net.names (pairing_of
            old.partners.items)
            c.loop-k.k w.in-Some.net (pairing_of w.pair.new.self.partners.items) inv.first w.in-Some.ensures.some
            w.pair.ensures.pairs);
      }
      | in_default w ↦ record {
        table = subst P (sym w.table-is) inv.table;
        first = subst Q (sym w.table-is) (first_skip gold gate c.args.gold.now.is_net.names (pairing_of
            old.partners.items)
            c.loop-k.k inv.first w.in_default.ensures.none);
      }
    ]
