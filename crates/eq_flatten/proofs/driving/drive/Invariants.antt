use Rattle.eq_flatten.specs.Driving.{IsDriving}
use Rattle.eq_flatten.proofs.driving.drive.Given as goal

abbrev pub invariant-loop-at : goal.invariant-loop-at
invariant-loop-at l = IsDriving l.starts l.bits l.word l.fn.slots l.slots l.at
