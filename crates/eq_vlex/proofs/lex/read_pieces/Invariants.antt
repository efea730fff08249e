use Rattle.std.proofs.Common.{length, ◌-◌, ◌≤◌}
use Rattle.eq_vlex.proofs.Steps.{IsReached}
use Rattle.eq_vlex.proofs.lex.read_pieces.Given as goal

abbrev pub invariant-loop-at : goal.invariant-loop-at
invariant-loop-at l = record { reached : IsReached l.text l.at l.tokens; within : l.at ≤ length l.text }

abbrev pub decreases-loop-at : goal.decreases-loop-at
decreases-loop-at l = length l.text - l.at
