use Rattle.std.proofs.Common.{◌≡◌, ℕ, ◌+◌, ◌-◌, ◌^◌, length, min, arith, ap, subst, ◌∙◌}
use Rattle.eq_net.specs.Numbers.{number}
use Rattle.eq_net.specs.inner.Cells.{Performs, seen}
use Rattle.eq_net.specs.inner.CellSteps.{moved, staged}
use Rattle.eq_net.proofs.CellShifts.{doubled, stage_next, stages_none}
use Rattle.eq_net.proofs.cells.shifts.stages.Goals as goal

pub loop-j-init : goal.loop-j-init
loop-j-init c =
    let s0 = c.args.stack.now.items in
    let top = c.requires.top in
    record {
      by = (let e = c.capped_sum-by.ensures in omega arith);
      performed = stages_none c.args.up (length s0 - c.args.top) c.args.right c.args.top c.args.cells.now.items s0 (omega arith);
    }

pub loop-j-preserved : goal.loop-j-preserved
loop-j-preserved c =
    let inv = c.loop-j.invariant in
    let s0 = c.args.stack.now.items in
    let s1 = c.loop-j.stack.items in
    let s2 = c.stage.new.stack.items in
    let c1 = c.loop-j.cells.items in
    let c2 = c.stage.new.cells.items in
    let top = c.args.top in
    let up = c.args.up in
    let by = c.loop-j.by in
    let bit = c.number_at-bit.result in
    let w = length s0 - c.args.top in
    let there = c.requires.top in
    let test = c.loop-j-test.true in
    let order = c.requires.order in
    let count : c.len.result - c.args.top ≡ w = (let e = c.len.ensures in let ok = c.args.stack.now.ok in omega arith) in
    let size : length s1 ≡ c.args.top + w = inv.performed.written.size in
    let width : length s1 - c.args.top ≡ w = omega arith in
    let P : ℕ → Type 0 = λ n. Performs n top (λ v. staged up n by (v.cells bit) (seen v s1 top)) c1 c2 s1 s2 in
    record {
      by = doubled (c.len.result - c.args.top) by c.capped_sum-by-in-loop-j.result c.loop-j.j inv.by c.capped_sum-by-in-loop-j.ensures;
      performed = stage_next c.shifts_by_stages.ensures.up_twice c.shifts_by_stages.ensures.down_twice up w c.args.right top c.loop-j.j by bit c.args.cells.now.items c1 c2 s0 s1 s2
          (omega arith) (inv.by ∙ ap (λ n. min n (2 ^ c.loop-j.j)) count) c.number_at-bit.ensures inv.performed (subst P width c.in_ok-stage.ensures);
    }

pub returns : goal.returns
returns c =
    let s0 = c.args.stack.now.items in
    let w = length s0 - c.args.top in
    let end : c.loop-j.j ≡ c.args.top - c.args.right = (let no = c.loop-j-test.false in let le = c.loop-j.auto.j-end in omega arith) in
    let P : ℕ → Type 0 = λ n. Performs w c.args.top (λ v. moved c.args.up w (min w (number n (seen v s0 c.args.right))) (seen v s0 c.args.top))
    c.args.cells.now.items c.loop-j.cells.items s0 c.loop-j.stack.items in
    subst P end c.loop-j.invariant.performed
