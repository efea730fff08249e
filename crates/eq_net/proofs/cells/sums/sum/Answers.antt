use Rattle.std.proofs.Common.{◌≡◌, ◌+◌, ◌-◌, length, slice_index_or, arith, ap, ◌∙◌}
use Rattle.eq_net.proofs.CellSums.{sum_performed}
use Rattle.eq_net.proofs.cells.sums.sum.Goals as goal

pub returns : goal.returns
returns c =
    let m = c.args.right - c.args.left in
    let s0 = c.args.stack.now.items in
    let s1 = c.ripple.new.stack.items in
    let r = c.in_ok-ripple.ensures in
    let order = c.requires.order in
    let sizes = c.requires.sizes in
    let top : c.len-top.result ≡ length s0 = (let e = c.len-top.ensures in let ok = c.args.stack.now.ok in omega arith) in
    sum_performed c.sums_by_carries.ensures m c.args.left c.args.right c.args.cells.now.items c.ripple.new.cells.items s0 s1 c.move_down.new.stack.items
    (omega arith) r.grown r.written r.spells c.move_down.ensures.written
    (λ j lt. c.move_down.ensures.moved j lt ∙ ap (λ n. slice_index_or s1 (n + j) 0) top)
