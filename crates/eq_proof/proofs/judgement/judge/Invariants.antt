use Rattle.std.proofs.Common.{take}
use Rattle.eq_proof.specs.Judgement.{IsSeen}
use Rattle.eq_proof.proofs.judgement.judge.Given as goal

abbrev pub invariant-loop-l : goal.invariant-loop-l
invariant-loop-l l = IsSeen l.trail.lits (take l.l-index l.clause) l.unassigned
