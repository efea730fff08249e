use Rattle.std.proofs.Common.{◌≡◌, ℕ, ◌+◌, ◌-◌, length, slice_index_or, arith, ap, subst, ◌∙◌}
use Rattle.eq_net.specs.inner.Cells.{Spells, Written}
use Rattle.eq_net.proofs.CellSums.{negative_performed, rippled}
use Rattle.eq_net.proofs.cells.sums.oppose.Goals as goal

pub returns : goal.returns
returns c =
    let from = c.args.from in
    let s0 = c.args.stack.now.items in
    let s1 = c.negate.new.stack.items in
    let s2 = c.push_zeros.new.stack.items in
    let s3 = c.ripple.new.stack.items in
    let s4 = c.move_down.new.stack.items in
    let c0 = c.args.cells.now.items in
    let c1 = c.negate.new.cells.items in
    let c2 = c.ripple.new.cells.items in
    let m = length s0 - from in
    let order = c.requires.order in
    let p = c.in_ok-negate.ensures in
    let count : c.len.result - from ≡ m = (let e = c.len.ensures in let ok = c.args.stack.now.ok in omega arith) in
    let zeros : c.len-zeros.result ≡ length s1 = (let e = c.len-zeros.ensures in let ok = c.negate.new.stack.ok in omega arith) in
    let top : c.len-top.result ≡ length s2 = (let e = c.len-top.ensures in let ok = c.push_zeros.new.stack.ok in omega arith) in
    let W : ℕ → Type 0 = λ n. Written (length s1) n s1 s2 in
    let V : ℕ → Type 0 = λ n. Written (length s2) n s2 s3 in
    let S : ℕ → Type 0 = λ n. Spells c2 s3 (length s2) n (rippled 1 s2 c.len-zeros.result from) in
    let T : ℕ → Type 0 = λ z. Spells c2 s3 (length s2) m (rippled 1 s2 z from) in
    let D : ℕ → Type 0 = λ n. Written from n s3 s4 in
    let r = c.in_ok-ripple.ensures in
    negative_performed c.sums_by_carries.ensures c.operations_see_their_bits.ensures.number c.differences_by_complements.ensures.negative m from c0 c1 c2 s0 s1 s2 s3 s4
    (omega arith) p (subst W count c.in_ok-push_zeros.ensures.written) c.in_ok-push_zeros.ensures.put
    r.grown (subst V count r.written) (subst T zeros (subst S count r.spells)) (subst D count c.move_down.ensures.written)
    (λ j lt. c.move_down.ensures.moved j (omega arith) ∙ ap (λ n. slice_index_or s3 (n + j) 0) top)
