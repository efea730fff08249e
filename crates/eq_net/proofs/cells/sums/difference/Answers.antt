use Rattle.std.proofs.Common.{◌≡◌, ℕ, ◌+◌, ◌-◌, length, slice_index_or, not, arith, ap, subst, ◌∙◌}
use Rattle.eq_net.specs.inner.Cells.{Performs, seen}
use Rattle.eq_net.proofs.CellSums.{difference_performed}
use Rattle.eq_net.proofs.cells.sums.difference.Goals as goal

pub returns : goal.returns
returns c =
    let m = c.args.right - c.args.left in
    let s0 = c.args.stack.now.items in
    let s1 = c.negate.new.stack.items in
    let s2 = c.ripple.new.stack.items in
    let c0 = c.args.cells.now.items in
    let c1 = c.negate.new.cells.items in
    let c2 = c.ripple.new.cells.items in
    let r = c.in_ok-ripple.ensures in
    let order = c.requires.order in
    let sizes = c.requires.sizes in
    let width : length s0 - c.args.right ≡ m = omega arith in
    let P : ℕ → Type 0 = λ n. Performs n c.args.right (λ v j. not (seen v s0 c.args.right j)) c0 c1 s0 s1 in
    let p = subst P width c.in_ok-negate.ensures in
    let top : c.len-top.result ≡ length s1 = (let e = c.len-top.ensures in let ok = c.negate.new.stack.ok in omega arith) in
    difference_performed c.sums_by_carries.ensures c.operations_see_their_bits.ensures.number c.differences_by_complements.ensures.difference m c.args.left c.args.right c0 c1 c2 s0 s1 s2 c.move_down.new.stack.items
    (omega arith) (omega arith) p r.grown r.written r.spells c.move_down.ensures.written
    (λ j lt. c.move_down.ensures.moved j lt ∙ ap (λ n. slice_index_or s2 (n + j) 0) top)
