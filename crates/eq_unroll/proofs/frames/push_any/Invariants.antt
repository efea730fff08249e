use Rattle.std.proofs.Common.{◌≡◌}
use Rattle.eq_unroll.specs.Unrolling.{output_literals}
use Rattle.eq_unroll.proofs.frames.push_any.Given as goal

abbrev pub invariant-loop-i : goal.invariant-loop-i
invariant-loop-i l = l.lits.items ≡ output_literals l.before l.i
