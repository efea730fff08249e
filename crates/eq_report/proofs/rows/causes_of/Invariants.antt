use Rattle.std.proofs.Common.{◌≡◌, take}
use Rattle.eq_report.specs.Rows as spec
use Rattle.eq_report.proofs.rows.causes_of.Given as goal

abbrev pub invariant-loop-t : goal.invariant-loop-t
invariant-loop-t l = l.causes ≡ spec.causes_of l.strategies (take l.t-index l.tries)
