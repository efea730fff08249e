use Rattle.std.proofs.Common.{arith}
use Rattle.eq_loops.proofs.Clear.{clear_more, clear_upto}
use Rattle.eq_loops.proofs.rounds.first_round.Goals as goal

pub loop-b-preserved : goal.loop-b-preserved
loop-b-preserved c = clear_more c.args.edges.now c.loop-b.b c.loop-b.invariant (c.in_ok-round.ensures.none c.in-None.is)

pub returns-clause-none : goal.returns-clause-none
returns-clause-none c = λ is.
    let end = c.loop-b-test.false in
    clear_upto c.args.edges.now c.loop-b.b c.args.bits (omega arith) c.loop-b.invariant
