use Rattle.std.proofs.Common.{ℕ, List, arith, sym, subst}
use Rattle.eq_flatten.proofs.StartLemmas.{all_bits, all_starts, none_behind, one_behind, AreBehind}
use Rattle.eq_flatten.proofs.starts.starts_of.Goals as goal

pub loop-net-init : goal.loop-net-init
loop-net-init c =
    subst (λ (ns : List ℕ). AreBehind c.args.nets.now 0 ns 0) (sym c.new-starts.ensures.items)
    (none_behind c.args.nets.now)

pub loop-net-preserved : goal.loop-net-preserved
loop-net-preserved c =
    one_behind c.args.nets.now c.loop-net.net-index c.net-item.result c.loop-net.starts.items c.push.new.self.items
    c.loop-net.bits c.in_ok-bits.bits c.loop-net-test.true c.net-item.is c.loop-net.invariant c.in_ok-push.ensures.items
    c.in_ok-bits.ensures

pub returns-clause-starts : goal.returns-clause-starts
returns-clause-starts c =
    let low = c.loop-net-test.false in
    let high = c.loop-net.auto.net-index-end in
    all_starts c.args.nets.now c.loop-net.net-index c.loop-net.starts.items c.loop-net.bits (omega (arith, low, high))
    c.loop-net.invariant

pub returns-clause-bits : goal.returns-clause-bits
returns-clause-bits c =
    let low = c.loop-net-test.false in
    let high = c.loop-net.auto.net-index-end in
    all_bits c.args.nets.now c.loop-net.net-index c.loop-net.starts.items c.loop-net.bits (omega (arith, low, high))
    c.loop-net.invariant
