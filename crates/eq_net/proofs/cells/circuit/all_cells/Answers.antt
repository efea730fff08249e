use Rattle.std.proofs.Common.{ℕ, List, length, ap, subst}
use Rattle.eq_net.specs.Whole.{parts_of}
use Rattle.eq_net.proofs.Circuited.{IsRightRow, no_rows, one_more_row}
use Rattle.eq_net.proofs.cells.circuit.all_cells.Goals as goal

pub loop-number-init : goal.loop-number-init
loop-number-init c = no_rows (parts_of c.args.net.now) c.args.words.now c.args.whole.now c.new-cells.result.items c.in_ok-rows.rows.items (ap length c.in_ok-rows.ensures.items)

pub loop-number-preserved : goal.loop-number-preserved
loop-number-preserved c =
    let n = parts_of c.args.net.now in
    let words = c.args.words.now in
    let whole = c.args.whole.now in
    let k = c.loop-number.number in
    let rows = c.loop-number.rows.items in
    let c2 = c.put_row.new.cells.items in
    let P : List (List ℕ) → Type 0 = λ rs. IsRightRow n words whole k c2 rs c.in_ok-row.row in
    one_more_row n words whole k c.loop-number.cells.items c2 rows c.push.new.self.items c.in_ok-row.row c.loop-number.invariant c.in_ok-row.ensures.grown
    c.in_ok-push.ensures.items c.in_ok-row.ensures.size (subst P c.deref.ensures.value c.in_ok-row.ensures.each)
