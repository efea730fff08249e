use Rattle.std.proofs.Common.{◌≡◌, ℕ, ◌+◌, ◌-◌, ◌*◌, length, slice_index_or, not, arith, ap, subst, ◌∙◌}
use Rattle.eq_blast.specs.inner.Growing.{Grown}
use Rattle.eq_blast.specs.inner.Stack.{Spells, Written, seen}
use Rattle.eq_blast.proofs.Growth.{constants_still}
use Rattle.eq_blast.proofs.Performed.{there_from}
use Rattle.eq_blast.proofs.Summed.{negative_performed, rippled, rippled_has, there_zeros}
use Rattle.eq_blast.proofs.sums.oppose.Goals as goal

pub ripple-requires-clause-there : goal.ripple-requires-clause-there
ripple-requires-clause-there c =
    let s0 = c.args.stack.now.items in
    let n = length s0 - c.args.from in
    let p = c.in_ok-negate.ensures in
    let order = c.requires.order in
    let some = c.requires.constants.room in
    let grown = p.grown.size in
    there_zeros (c.len.result - c.args.from) c.negate.new.builder c.negate.new.stack.items c.push_zeros.new.stack.items (omega arith)
    (there_from n n c.args.from c.args.builder.now c.negate.new.builder s0 c.negate.new.stack.items (λ x j. not (seen x s0 c.args.from j)) (λ d j. seen d s0 c.args.from j)
    (omega arith) c.requires.there p) c.in_ok-push_zeros.ensures.written c.in_ok-push_zeros.ensures.put

pub returns : goal.returns
returns c =
    let from = c.args.from in
    let s0 = c.args.stack.now.items in
    let s1 = c.negate.new.stack.items in
    let s2 = c.push_zeros.new.stack.items in
    let s3 = c.ripple.new.stack.items in
    let s4 = c.move_down.new.stack.items in
    let b0 = c.args.builder.now in
    let b1 = c.negate.new.builder in
    let b2 = c.ripple.new.builder in
    let m = length s0 - from in
    let order = c.requires.order in
    let p = c.in_ok-negate.ensures in
    let count : c.len.result - from ≡ m = (let e = c.len.ensures in let ok = c.args.stack.now.ok in omega arith) in
    let zeros : c.len-zeros.result ≡ length s1 = (let e = c.len-zeros.ensures in let ok = c.negate.new.stack.ok in omega arith) in
    let top : c.len-top.result ≡ length s2 = (let e = c.len-top.ensures in let ok = c.push_zeros.new.stack.ok in omega arith) in
    let W : ℕ → Type 0 = λ n. Written (length s1) n s1 s2 in
    let G : ℕ → Type 0 = λ n. Grown (n * 4) b1 b2 in
    let V : ℕ → Type 0 = λ n. Written (length s2) n s2 s3 in
    let S : ℕ → Type 0 = λ n. Spells b2 s3 (length s2) n (rippled 1 s2 c.len-zeros.result from) (rippled_has 1 s2 c.len-zeros.result from) in
    let T : ℕ → Type 0 = λ z. Spells b2 s3 (length s2) m (rippled 1 s2 z from) (rippled_has 1 s2 z from) in
    let D : ℕ → Type 0 = λ n. Written from n s3 s4 in
    let r = c.in_ok-ripple.ensures in
    let grown = subst G count r.grown in
    negative_performed c.sums_by_carries.ensures c.operations_see_their_bits.ensures.number c.differences_by_complements.ensures.negative m from b0 b1 b2 s0 s1 s2 s3 s4
    (constants_still (m * 4) b1 b2 grown (constants_still m b0 b1 p.grown c.requires.constants)) (omega arith) p (subst W count c.in_ok-push_zeros.ensures.written) c.in_ok-push_zeros.ensures.put
    grown (subst V count r.written) (subst T zeros (subst S count r.spells)) (subst D count c.move_down.ensures.written)
    (λ j lt. c.move_down.ensures.moved j (omega arith) ∙ ap (λ n. slice_index_or s3 (n + j) 0) top)
