use Rattle.std.proofs.Common.{suc, ◌+◌, ◌&&◌, length, arith, ◌∙◌}
use Rattle.eq_net.specs.Numbers.{all_ones, differ}
use Rattle.eq_net.specs.Ripples.{carry}
use Rattle.eq_blast.specs.inner.Stack.{seen}
use Rattle.eq_blast.proofs.Growth.{gives_still, grown_twice}
use Rattle.eq_blast.proofs.Along.{carry_next, grown_next, spells_next, sum_here, written_next}
use Rattle.eq_blast.proofs.rows.ripple.Goals as goal

pub loop-j-preserved : goal.loop-j-preserved
loop-j-preserved c =
    let inv = c.loop-j.invariant in
    let e1 = c.in_ok-sum.ensures in
    let e2 = c.in_ok-carry.ensures in
    let s0 = c.args.stack.now.items in
    let l = c.args.left in
    let r = c.args.right in
    let j = c.loop-j.j in
    let b0 = c.loop-j.builder in
    let b1 = c.step.new.builder in
    let b2 = c.step-in-loop-j.new.builder in
    let test = c.loop-j-test.true in
    let p = c.in_ok-push.ensures in
    let start = c.args.start in
    let v = c.loop-j.carry in
    let ex = c.node-x.ensures ∙ inv.written.kept (l + j) (let q = c.requires.left in omega arith) in
    let ey = c.node-y.ensures ∙ inv.written.kept (r + j) (let q = c.requires.right in omega arith) in
    let both = grown_twice 2 2 b0 b1 b2 e1.grown e2.grown in
    let f : _ → _ → _ = λ x i. differ (differ (seen x s0 l i) (seen x s0 r i)) (carry (x start) (seen x s0 l) (seen x s0 r) i) in
    let g : _ → _ → _ = λ d i. d start && (all_ones (suc i) (seen d s0 l) && all_ones (suc i) (seen d s0 r)) in
    record {
      grown = grown_next j 4 c.args.builder.now b0 b2 inv.grown both;
      carried = carry_next s0 l r 4 b0 b2 start j v c.in_ok-carry.carry c.node-x.result c.node-y.result both inv.carried ex ey e2.gives;
      written = written_next s0 c.loop-j.stack.items c.push.new.stack.items (length s0) j inv.written p.size p.below;
      spells = spells_next 4 b0 b2 c.loop-j.stack.items c.push.new.stack.items (length s0) j c.in_ok-sum.sum f g
          both inv.written.size p.below p.there inv.spells
          (gives_still 2 b1 b2 e2.grown c.in_ok-sum.sum (λ x. f x j) (λ d. g d j)
          (sum_here s0 l r 2 b0 b1 start j v c.in_ok-sum.sum c.node-x.result c.node-y.result e1.grown inv.carried ex ey e1.gives));
    }
