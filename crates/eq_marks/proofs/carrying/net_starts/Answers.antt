use Rattle.std.proofs.Common.{◌+◌, arith}
use Rattle.eq_marks.proofs.MarkRows.{offset_le}
use Rattle.eq_marks.proofs.carrying.net_starts.Goals as goal

pub overflow_cast-first : goal.overflow_cast-first
overflow_cast-first c =
    let le = offset_le c.args.nets.now c.loop-net.net-index in
    let n = c.loop-net.invariant.first in
    let few = c.requires in
    omega arith

pub overflow_add-first : goal.overflow_add-first
overflow_add-first c =
    let e = c.bits_stand_by_nets.ensures.next c.args.nets.now c.loop-net.net-index c.net-item.result
    c.loop-net-test.true c.net-item.is in
    let le = offset_le c.args.nets.now (c.loop-net.net-index + 1) in
    let n = c.loop-net.invariant.first in
    let few = c.requires in
    let w = c.width-first.ensures in
    omega arith
