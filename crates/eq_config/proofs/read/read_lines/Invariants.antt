use Rattle.std.proofs.Common.{length}
use Rattle.eq_config.proofs.Passing.{IsReached}
use Rattle.eq_config.proofs.read.read_lines.Given as goal

abbrev pub invariant-loop-rest : goal.invariant-loop-rest
invariant-loop-rest l = IsReached l.text l.rest l.number l.draft

abbrev pub decreases-loop-rest : goal.decreases-loop-rest
decreases-loop-rest l = length l.rest
