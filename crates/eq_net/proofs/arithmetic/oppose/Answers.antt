use Rattle.std.proofs.Common.{◌≡◌, ℕ, ◌+◌, ◌-◌, ◌^◌, cond, length, arith, subst, ◌∙◌}
use Rattle.eq_net.specs.Numbers.{number}
use Rattle.eq_net.specs.inner.Stack.{part}
use Rattle.eq_net.proofs.Carries.{negative_next, sum_digit}
use Rattle.eq_net.proofs.arithmetic.oppose.Goals as goal

pub loop-j-preserved : goal.loop-j-preserved
loop-j-preserved c =
    let old = c.args.stack.now.items in
    let now = c.loop-j.stack.items in
    let j = c.loop-j.j in
    let test = c.loop-j-test.true in
    let sets = c.put.ensures in
    let inv = c.loop-j.invariant in
    record {
      size = sets.size ∙ inv.size;
      kept = λ k lt. sets.below k (omega arith) ∙ inv.kept k lt;
      total = negative_next j (part now c.args.from) (part c.put.new.stack.items c.args.from) (part old c.args.from)
          c.loop-j.carry c.bit-x.result c.differ.result inv.total (λ i lt. sets.below (c.args.from + i) (omega arith))
          (c.bit-x.ensures ∙ inv.rest (c.args.from + j) (omega arith)) c.differ.ensures sets.there;
      rest = λ k le. sets.above k (omega arith) ∙ inv.rest k (omega arith);
    }

pub returns : goal.returns
returns c =
    let old = c.args.stack.now.items in
    let now = c.loop-j.stack.items in
    let m = length old - c.args.from in
    let inv = c.loop-j.invariant in
    let size = c.len.ensures in
    let end : c.loop-j.j ≡ m = (let no = c.loop-j-test.false in let le = c.loop-j.auto.j-end in omega arith) in
    let P : ℕ → Type 0 = λ n. (number n (part now c.args.from) + cond {A = ℕ} c.loop-j.carry (2 ^ n) 0) + number n (part old c.args.from) ≡ 2 ^ n in
    let total = subst P end inv.total in
    let there = c.requires in
    record {
      size = (let s = inv.size in omega arith);
      kept = inv.kept;
      put = λ j lt. sum_digit m j (2 ^ m - number m (part old c.args.from)) (part now c.args.from) c.loop-j.carry (omega arith) lt;
    }
