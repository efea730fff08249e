use Rattle.std.proofs.Common.{◌+◌, arith}
use Rattle.eq_match.proofs.Rows.{offset_le}
use Rattle.eq_match.proofs.index.seen_nets.Goals as goal

pub is_seen-requires : goal.is_seen-requires
is_seen-requires c =
    let e = c.bits_stand_by_nets.ensures.next c.args.nets.now c.loop-net.net-index c.net-item.result
    c.loop-net-test.true c.net-item.is in
    let le = offset_le c.args.nets.now (c.loop-net.net-index + 1) in
    let n = c.loop-net.invariant.first in
    let size = c.requires.drivers in
    omega arith

pub overflow_add-first : goal.overflow_add-first
overflow_add-first c =
    let e = c.bits_stand_by_nets.ensures.next c.args.nets.now c.loop-net.net-index c.net-item.result
    c.loop-net-test.true c.net-item.is in
    let le = offset_le c.args.nets.now (c.loop-net.net-index + 1) in
    let n = c.loop-net.invariant.first in
    let size = c.requires.few in
    let w = c.width.ensures in
    omega arith
