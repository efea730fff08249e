use Rattle.std.proofs.Common.{arith}
use Rattle.eq_loops.proofs.Suspected.{suspects_clear}
use Rattle.eq_loops.proofs.suspects.first_suspect.Goals as goal

pub returns-clause-clear : goal.returns-clause-clear
returns-clause-clear c =
    let end = c.loop-edge-test.false in
    suspects_clear c.args.edges.now c.args.numbers.now c.args.bits c.loop-edge.first c.loop-edge.edge-index
    c.requires.rising (omega arith) c.loop-edge.invariant
