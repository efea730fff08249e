use Rattle.std.proofs.Common.{IfOk, ℕ, ◌≡◌, ◌-◌, ◌+◌, arith, subst, sym}
use Rattle.eq_verilog.specs.Trees.{Name}
use Rattle.eq_elab.proofs.BitNames.{sought_here, sought_next, IsSought}
use Rattle.eq_elab.proofs.naming.name_of.Goals as goal

pub returns-then-left-width : goal.returns-then-left-width
returns-then-left-width c =
    let w = c.width.ensures in
    let same = sought_here c.args.nets.now c.args.bit c.loop-net.net-index c.loop-net.left c.net-item.result
    c.loop-net-test.true c.net-item.is (let lt = c.if-left-width.true in omega (arith, lt, w)) c.loop-net.invariant in
    subst (λ (n : Name). IfOk c.named_position.result (λ name. name ≡ n)) (sym same) c.named_position.ensures

pub loop-net-preserved : goal.loop-net-preserved
loop-net-preserved c =
    let w = c.width.ensures in
    let le = c.if-left-width.false in
    subst (λ (n : ℕ). IsSought c.args.nets.now c.args.bit (c.loop-net.net-index + 1) (c.loop-net.left - n))
    (sym c.width-left.ensures)
    (sought_next c.args.nets.now c.args.bit c.loop-net.net-index c.loop-net.left c.net-item.result
    c.loop-net-test.true c.net-item.is (omega (arith, le, w)) c.loop-net.invariant)
