use Rattle.std.proofs.Common.{◌+◌, length, arith, ◌∙◌}
use Rattle.eq_net.specs.inner.Cells.{seen}
use Rattle.eq_net.specs.inner.CellSteps.{step_value}
use Rattle.eq_net.proofs.Cellular.{grown_twice}
use Rattle.eq_net.proofs.CellRows.{spells_next, step_here, written_next}
use Rattle.eq_net.proofs.cells.rows.map.Goals as goal

pub loop-j-preserved : goal.loop-j-preserved
loop-j-preserved c =
    let inv = c.loop-j.invariant in
    let e = c.in_ok-made.ensures in
    let s0 = c.args.stack.now.items in
    let k = c.args.kind in
    let j = c.loop-j.j in
    let c1 = c.loop-j.cells.items in
    let c2 = c.step.new.cells.items in
    let test = c.loop-j-test.true in
    let p = c.in_ok-push.ensures in
    record {
      grown = grown_twice c.args.cells.now.items c1 c2 inv.grown e.grown;
      written = written_next s0 c.loop-j.stack.items c.push.new.stack.items (length s0) j inv.written p.size p.below;
      spells = spells_next c1 c2 c.loop-j.stack.items c.push.new.stack.items (length s0) j c.in_ok-made.made
          (λ v i. step_value k (seen v s0 c.args.left i) (seen v s0 c.args.right i) (v.cells c.args.z))
          e.grown inv.written.size p.below p.there inv.spells
          (step_here s0 c.args.left c.args.right k c2 j c.in_ok-made.made c.number_at-x.result c.number_at-y.result c.args.z
          (c.number_at-x.ensures ∙ inv.written.kept (c.args.left + j) (let l = c.requires.left in omega arith))
          (c.number_at-y.ensures ∙ inv.written.kept (c.args.right + j) (let l = c.requires.right in omega arith)) e.gives);
    }
