use Rattle.std.proofs.Common.{◌+◌, length, arith, ◌∙◌}
use Rattle.eq_blast.specs.inner.Stack.{seen}
use Rattle.eq_blast.specs.inner.Steps.{step_cost, step_has, step_value}
use Rattle.eq_blast.proofs.Along.{grown_next, spells_next, step_here, written_next}
use Rattle.eq_blast.proofs.rows.map.Goals as goal

pub loop-j-preserved : goal.loop-j-preserved
loop-j-preserved c =
    let inv = c.loop-j.invariant in
    let e = c.in_ok-made.ensures in
    let s0 = c.args.stack.now.items in
    let k = c.args.kind in
    let j = c.loop-j.j in
    let test = c.loop-j-test.true in
    let p = c.in_ok-push.ensures in
    record {
      few = (let f = inv.few in let m = e.few in omega arith);
      grown = grown_next j (step_cost k) c.args.builder.now c.loop-j.builder c.step.new.builder inv.grown e.grown;
      written = written_next s0 c.loop-j.stack.items c.push.new.stack.items (length s0) j inv.written p.size p.below;
      spells = spells_next (step_cost k) c.loop-j.builder c.step.new.builder c.loop-j.stack.items c.push.new.stack.items (length s0) j c.in_ok-made.made
          (λ x i. step_value k (seen x s0 c.args.left i) (seen x s0 c.args.right i) (x c.args.z)) (λ d i. step_has k (seen d s0 c.args.left i) (seen d s0 c.args.right i) (d c.args.z))
          e.grown inv.written.size p.below p.there inv.spells
          (step_here s0 c.args.left c.args.right k c.step.new.builder j c.in_ok-made.made c.node-x.result c.node-y.result c.args.z
          (c.node-x.ensures ∙ inv.written.kept (c.args.left + j) (let l = c.requires.left in omega arith))
          (c.node-y.ensures ∙ inv.written.kept (c.args.right + j) (let l = c.requires.right in omega arith)) e.gives);
    }
