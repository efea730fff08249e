use Rattle.std.proofs.Common.{◌≡◌, ℕ, ◌+◌, ◌-◌, ◌*◌, length, slice_index_or, not, arith, ap, subst, ◌∙◌}
use Rattle.eq_blast.specs.inner.Stack.{Performs, seen}
use Rattle.eq_blast.proofs.Growth.{constants_still}
use Rattle.eq_blast.proofs.Performed.{there_from}
use Rattle.eq_blast.proofs.Summed.{difference_performed}
use Rattle.eq_blast.proofs.sums.difference.Goals as goal

pub ripple-requires-clause-there : goal.ripple-requires-clause-there
ripple-requires-clause-there c =
    let s0 = c.args.stack.now.items in
    let n = length s0 - c.args.right in
    let sizes = c.requires.sizes in
    there_from n n c.args.right c.args.builder.now c.negate.new.builder s0 c.negate.new.stack.items (λ x j. not (seen x s0 c.args.right j)) (λ d j. seen d s0 c.args.right j)
    (omega arith) c.requires.there c.in_ok-negate.ensures

pub returns : goal.returns
returns c =
    let m = c.args.right - c.args.left in
    let s0 = c.args.stack.now.items in
    let s1 = c.negate.new.stack.items in
    let s2 = c.ripple.new.stack.items in
    let b0 = c.args.builder.now in
    let b1 = c.negate.new.builder in
    let b2 = c.ripple.new.builder in
    let r = c.in_ok-ripple.ensures in
    let order = c.requires.order in
    let sizes = c.requires.sizes in
    let width : length s0 - c.args.right ≡ m = omega arith in
    let P : ℕ → Type 0 = λ n. Performs n n c.args.right (λ x j. not (seen x s0 c.args.right j)) (λ d j. seen d s0 c.args.right j) b0 b1 s0 s1 in
    let p = subst P width c.in_ok-negate.ensures in
    let top : c.len-top.result ≡ length s1 = (let e = c.len-top.ensures in let ok = c.negate.new.stack.ok in omega arith) in
    difference_performed c.sums_by_carries.ensures c.operations_see_their_bits.ensures.number c.differences_by_complements.ensures.difference m c.args.left c.args.right b0 b1 b2 s0 s1 s2 c.move_down.new.stack.items
    (constants_still (m * 4) b1 b2 r.grown (constants_still m b0 b1 p.grown c.requires.constants)) (omega arith) (omega arith) p r.grown r.written r.spells c.move_down.ensures.written
    (λ j lt. c.move_down.ensures.moved j lt ∙ ap (λ n. slice_index_or s2 (n + j) 0) top)
