use Rattle.std.proofs.Common.{arith}
use Rattle.eq_cdcl.proofs.Quietness.{watched_quiet}
use Rattle.eq_cdcl.proofs.propagation.propagate.Goals as goal

pub returns-clause-found : goal.returns-clause-found
returns-clause-found c =
    let w = c.loop-watches.watches in
    let end = c.loop-watches-test.false in
    let len = c.len.ensures.value in
    watched_quiet c.args.known.now c.loop-watches.trail w.head w.pairs.items w.lists.items c.loop-watches.invariant.sound c.loop-watches.invariant.watching (omega arith)
