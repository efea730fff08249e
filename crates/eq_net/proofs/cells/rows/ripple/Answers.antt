use Rattle.std.proofs.Common.{◌+◌, length, arith, ◌∙◌}
use Rattle.eq_net.specs.Numbers.{differ}
use Rattle.eq_net.specs.Ripples.{carry}
use Rattle.eq_net.specs.inner.Cells.{seen}
use Rattle.eq_net.proofs.Cellular.{grown_twice}
use Rattle.eq_net.proofs.CellRows.{carry_next, spells_next, sum_here, written_next}
use Rattle.eq_net.proofs.cells.rows.ripple.Goals as goal

pub loop-j-preserved : goal.loop-j-preserved
loop-j-preserved c =
    let inv = c.loop-j.invariant in
    let made = c.in_ok-made.made in
    let e = c.in_ok-made.ensures in
    let s0 = c.args.stack.now.items in
    let l = c.args.left in
    let r = c.args.right in
    let j = c.loop-j.j in
    let c1 = c.loop-j.cells.items in
    let c2 = c.sum_and_carry.new.cells.items in
    let test = c.loop-j-test.true in
    let p = c.in_ok-push.ensures in
    let start = c.args.start in
    let u = c.loop-j.carry in
    let ex = c.number_at-x.ensures ∙ inv.written.kept (l + j) (let q = c.requires.left in omega arith) in
    let ey = c.number_at-y.ensures ∙ inv.written.kept (r + j) (let q = c.requires.right in omega arith) in
    let f : _ → _ → _ = λ v i. differ (differ (seen v s0 l i) (seen v s0 r i)) (carry (v.cells start) (seen v s0 l) (seen v s0 r) i) in
    record {
      grown = grown_twice c.args.cells.now.items c1 c2 inv.grown e.grown;
      carried = carry_next s0 l r c1 c2 start j u made.1 c.number_at-x.result c.number_at-y.result e.grown inv.carried ex ey e.carry;
      written = written_next s0 c.loop-j.stack.items c.push.new.stack.items (length s0) j inv.written p.size p.below;
      spells = spells_next c1 c2 c.loop-j.stack.items c.push.new.stack.items (length s0) j made.0 f
          e.grown inv.written.size p.below p.there inv.spells
          (sum_here s0 l r c1 c2 start j u made.0 c.number_at-x.result c.number_at-y.result e.grown inv.carried ex ey e.sum);
    }
