use Rattle.std.proofs.Common.{◌≡◌, ℕ, suc, ◌+◌, length, arith, sym, subst, ◌∙◌}
use Rattle.eq_registers.specs.inner.Adding.{IsAdded, stands}
use Rattle.eq_registers.proofs.Added.{bits_more}
use Rattle.eq_registers.proofs.Written.{numbers_agree}
use Rattle.eq_registers.proofs.collecting.add_bits.Goals as goal

pub loop-at-preserved : goal.loop-at-preserved
loop-at-preserved c = λ nets f keyed all are numbered.
    let n = c.loop-at.at in
    let old = c.args.keys.now in
    let inside = c.loop-at-test.true in
    let so_far = c.loop-at.invariant nets f keyed all are numbered in
    let number = c.number_in-bit.ensures ∙ sym (numbers_agree nets c.args.starts.now are _ (all n _ inside)) in
    let next : suc n ≡ n + 1 = omega arith in
    subst (λ (k : ℕ). IsAdded nets old c.add_key.new.keys (stands f k)) next
    (bits_more nets old c.loop-at.keys c.add_key.new.keys c.args.bits.now f n c.number_in-bit.result _ inside number
    numbered so_far (c.in_ok-add_key.ensures nets (all n _ inside) number so_far.keyed))

pub returns : goal.returns
returns c = λ nets f keyed all are numbered.
    let last = c.loop-at-test.false in
    let most = c.loop-at.auto.at-end in
    let end : c.loop-at.at ≡ length c.args.bits.now = omega arith in
    subst (λ (k : ℕ). IsAdded nets c.args.keys.now c.loop-at.keys (stands f k)) end
    (c.loop-at.invariant nets f keyed all are numbered)
