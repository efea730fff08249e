use Rattle.std.proofs.Common.{arith}
use Rattle.eq_net.proofs.Stacked.{extended_by}
use Rattle.eq_net.proofs.operators.extend.Goals as goal

pub returns : goal.returns
returns c =
    let old = c.args.stack.now.items in
    let inv = c.loop.invariant in
    let there = c.requires.there in
    let room = c.requires.room in
    let size = inv.size in
    let len = c.len.ensures in
    let no = c.loop-test.false in
    let le = c.loop.auto in
    extended_by c.args.from c.args.count old c.loop.stack.items there room (omega arith) inv.kept inv.zeros
