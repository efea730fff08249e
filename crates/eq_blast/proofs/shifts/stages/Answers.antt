use Rattle.std.proofs.Common.{◌≡◌, ℕ, ◌+◌, ◌-◌, ◌*◌, ◌^◌, ◌&&◌, length, min, arith, ap, subst, ◌∙◌}
use Rattle.eq_net.specs.Numbers.{all_ones, number}
use Rattle.eq_blast.specs.inner.Shifts.{moved, own, staged, staged_has}
use Rattle.eq_blast.specs.inner.Stack.{Performs, seen}
use Rattle.eq_blast.proofs.Growth.{constants_still}
use Rattle.eq_blast.proofs.Performed.{there_from}
use Rattle.eq_blast.proofs.Staged.{doubled, stage_next, stages_none}
use Rattle.eq_blast.proofs.shifts.stages.Goals as goal

pub loop-j-init : goal.loop-j-init
loop-j-init c =
    let s0 = c.args.stack.now.items in
    let top = c.requires.top in
    record {
      by = (let e = c.capped_sum-by.ensures in omega arith);
      there = c.requires.there;
      constants = c.requires.constants;
      performed = stages_none c.args.up (length s0 - c.args.top) c.args.right c.args.top c.args.builder.now s0 (omega arith) c.requires.there;
    }

pub loop-j-preserved : goal.loop-j-preserved
loop-j-preserved c =
    let inv = c.loop-j.invariant in
    let s0 = c.args.stack.now.items in
    let s1 = c.loop-j.stack.items in
    let s2 = c.stage.new.stack.items in
    let b1 = c.loop-j.builder in
    let b2 = c.stage.new.builder in
    let top = c.args.top in
    let up = c.args.up in
    let by = c.loop-j.by in
    let bit = c.node-bit.result in
    let w = length s0 - c.args.top in
    let there = c.requires.top in
    let test = c.loop-j-test.true in
    let order = c.requires.order in
    let count : c.len.result - c.args.top ≡ w = (let e = c.len.ensures in let ok = c.args.stack.now.ok in omega arith) in
    let size : length s1 ≡ c.args.top + w = inv.performed.written.size in
    let width : length s1 - c.args.top ≡ w = omega arith in
    let f : ℕ → _ → _ = λ n x. staged up n by (x bit) (seen x s1 top) in
    let g : ℕ → _ → _ = λ n d. staged_has up n by (d bit) (seen d s1 top) in
    let P : ℕ → Type 0 = λ n. Performs n n top (f n) (g n) b1 b2 s1 s2 in
    let stage = subst P width c.in_ok-stage.ensures in
    record {
      by = doubled (c.len.result - c.args.top) by c.capped_sum-by-in-loop-j.result c.loop-j.j inv.by c.capped_sum-by-in-loop-j.ensures;
      there = there_from w w top b1 b2 s1 s2 (f w) (g w) (omega arith) inv.there stage;
      constants = constants_still w b1 b2 stage.grown inv.constants;
      performed = stage_next c.shifts_by_stages.ensures.up_twice c.shifts_by_stages.ensures.down_twice up w c.args.right top c.loop-j.j by bit c.args.builder.now b1 b2 s0 s1 s2
          (omega arith) (inv.by ∙ ap (λ n. min n (2 ^ c.loop-j.j)) count) c.node-bit.ensures inv.performed stage;
    }

pub returns : goal.returns
returns c =
    let s0 = c.args.stack.now.items in
    let w = length s0 - c.args.top in
    let end : c.loop-j.j ≡ c.args.top - c.args.right = (let no = c.loop-j-test.false in let le = c.loop-j.auto.j-end in omega arith) in
    let P : ℕ → Type 0 = λ n. Performs (n * w) w c.args.top (λ x. moved c.args.up w (min w (number n (seen x s0 c.args.right))) (seen x s0 c.args.top))
    (λ d i. own c.args.up w (seen d s0 c.args.top) i && all_ones n (seen d s0 c.args.right)) c.args.builder.now c.loop-j.builder s0 c.loop-j.stack.items in
    subst P end c.loop-j.invariant.performed
