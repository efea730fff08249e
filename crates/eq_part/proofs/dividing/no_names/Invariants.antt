use Rattle.std.proofs.Common.{◌≡◌, None, replicate}
use Rattle.eq_part.proofs.dividing.no_names.Given as goal

abbrev pub invariant-loop-index : goal.invariant-loop-index
invariant-loop-index l = l.names ≡ replicate l.index None
