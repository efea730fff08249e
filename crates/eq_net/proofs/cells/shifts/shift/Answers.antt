use Rattle.std.proofs.Common.{◌≡◌, ℕ, ◌+◌, ◌-◌, length, min, slice_index_or, arith, ap, subst, ◌∙◌}
use Rattle.eq_net.specs.Numbers.{number}
use Rattle.eq_net.specs.inner.Cells.{Performs, seen}
use Rattle.eq_net.specs.inner.CellSteps.{moved}
use Rattle.eq_net.proofs.CellShifts.{shift_performed}
use Rattle.eq_net.proofs.cells.shifts.shift.Goals as goal

pub returns : goal.returns
returns c =
    let s0 = c.args.stack.now.items in
    let s1 = c.push_raised.new.stack.items in
    let s2 = c.stages.new.stack.items in
    let c0 = c.args.cells.now.items in
    let c1 = c.stages.new.cells.items in
    let up = c.args.up in
    let left = c.args.left in
    let right = c.args.right in
    let m = right - left in
    let n = length s0 - right in
    let order = c.requires.order in
    let sizes = c.requires.sizes in
    let size : length s1 ≡ length s0 + m = c.in_ok-push_raised.ensures.written.size in
    let top : c.len-top.result ≡ length s0 = (let e = c.len-top.ensures in let ok = c.args.stack.now.ok in omega arith) in
    let width : length s1 - length s0 ≡ m = omega arith in
    let P : ℕ → Type 0 = λ t. Performs (length s1 - t) t (λ v. moved up (length s1 - t) (min (length s1 - t) (number (t - right) (seen v s1 right))) (seen v s1 t)) c0 c1 s1 s2 in
    let Q : ℕ → Type 0 = λ w. Performs w (length s0) (λ v. moved up w (min w (number n (seen v s1 right))) (seen v s1 (length s0))) c0 c1 s1 s2 in
    shift_performed c.operations_see_their_bits.ensures.number up m n left right c0 c1 s0 s1 s2 c.move_down.new.stack.items (omega arith) (omega arith)
    c.in_ok-push_raised.ensures.written c.in_ok-push_raised.ensures.put (subst Q width (subst P top c.in_ok-stages.ensures)) c.move_down.ensures.written
    (λ j lt. c.move_down.ensures.moved j lt ∙ ap (λ t. slice_index_or s2 (t + j) 0) top)
