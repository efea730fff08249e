use Rattle.std.proofs.Common.{[], ◌∷◌, length, length-append, arith, sym, ap, ◌+◌}
use Rattle.eq_net.specs.Net.{offset}
use Rattle.eq_net.proofs.Offsets.{offset_zero, offset_next, offset_le, one_more}
use Rattle.eq_net.proofs.cycle.starts.Goals as goal

pub loop-net-init : goal.loop-net-init
loop-net-init c = record {
  count = ap length c.in_ok-starts.ensures.items;
  next = sym (offset_zero c.args.nets.now);
  each = λ k lt. absurd (omega arith);
}

pub overflow_cast-next : goal.overflow_cast-next
overflow_cast-next c =
    let e = offset_next c.args.nets.now c.loop-net.net-index c.net-item.result c.loop-net-test.true c.net-item.is in
    let le = offset_le c.args.nets.now (c.loop-net.net-index + 1) in
    let w = c.width.ensures in
    let small = c.requires in
    omega arith

pub overflow_add-next : goal.overflow_add-next
overflow_add-next c =
    let e = offset_next c.args.nets.now c.loop-net.net-index c.net-item.result c.loop-net-test.true c.net-item.is in
    let le = offset_le c.args.nets.now (c.loop-net.net-index + 1) in
    let w = c.width.ensures in
    let n = c.loop-net.invariant.next in
    let small = c.requires in
    omega arith

pub loop-net-preserved : goal.loop-net-preserved
loop-net-preserved c =
    let e = offset_next c.args.nets.now c.loop-net.net-index c.net-item.result c.loop-net-test.true c.net-item.is in
    let w = c.width.ensures in
    let n = c.loop-net.invariant.next in
    let grown = c.in_ok-push.ensures.items in
    record {
      count = (let a = ap length grown in let b = length-append c.loop-net.starts.items (c.loop-net.next ∷ []) in let d = c.loop-net.invariant.count in omega arith);
      next = omega arith;
      each = one_more (offset c.args.nets.now) c.loop-net.starts.items c.push.new.self.items c.loop-net.next c.loop-net.net-index c.loop-net.invariant.count grown c.loop-net.invariant.each n;
    }
