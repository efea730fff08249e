use Rattle.std.proofs.Common.{◌≡◌, ℕ, ◌+◌, ◌-◌, ◌^◌, cond, arith, ap, subst, ◌∙◌}
use Rattle.eq_net.specs.Numbers.{differ, number}
use Rattle.eq_net.specs.inner.Stack.{part}
use Rattle.eq_net.proofs.Carries.{sum_next, sum_digit}
use Rattle.eq_net.proofs.arithmetic.add.Goals as goal

pub loop-j-preserved : goal.loop-j-preserved
loop-j-preserved c =
    let old = c.args.stack.now.items in
    let now = c.loop-j.stack.items in
    let j = c.loop-j.j in
    let test = c.loop-j-test.true in
    let sets = c.put.ensures in
    let inv = c.loop-j.invariant in
    record {
      size = sets.size ∙ inv.size;
      kept = λ k lt. sets.below k (omega arith) ∙ inv.kept k lt;
      total = sum_next j (cond {A = ℕ} c.args.minus 1 0) (part now c.args.left) (part c.put.new.stack.items c.args.left) (part old c.args.left) (λ i. differ c.args.minus (part old c.args.right i))
          c.loop-j.carry c.bit-x.result c.differ-y.result c.differ.result c.differ-in-loop-j.result c.differ-sum.result
          inv.total (λ i lt. sets.below (c.args.left + i) (omega arith))
          (c.bit-x.ensures ∙ inv.rest (c.args.left + j) (omega arith))
          (c.differ-y.ensures ∙ ap (differ c.args.minus) (c.bit.ensures ∙ inv.rest (c.args.right + j) (let o = c.requires.order in omega arith)))
          c.differ.ensures c.differ-in-loop-j.ensures c.differ-sum.ensures sets.there;
      rest = λ k le. sets.above k (omega arith) ∙ inv.rest k (omega arith);
    }

pub returns : goal.returns
returns c =
    let old = c.args.stack.now.items in
    let now = c.loop-j.stack.items in
    let m = c.args.right - c.args.left in
    let a = part old c.args.left in
    let b : ℕ → _ = λ i. differ c.args.minus (part old c.args.right i) in
    let inv = c.loop-j.invariant in
    let end : c.loop-j.j ≡ m = (let no = c.loop-j-test.false in let le = c.loop-j.auto.j-end in omega arith) in
    let P : ℕ → Type 0 = λ n. number n (part now c.args.left) + cond {A = ℕ} c.loop-j.carry (2 ^ n) 0 ≡ (number n a + number n b) + cond {A = ℕ} c.args.minus 1 0 in
    let order = c.requires.order in
    record {
      size = (let s = c.cut.ensures.size in omega arith);
      kept = λ k lt. c.cut.ensures.kept k (omega arith) ∙ inv.kept k lt;
      put = λ j lt. c.cut.ensures.kept (c.args.left + j) (omega arith)
          ∙ sum_digit m j ((number m a + number m b) + cond {A = ℕ} c.args.minus 1 0) (part now c.args.left) c.loop-j.carry (subst P end inv.total) lt;
    }
