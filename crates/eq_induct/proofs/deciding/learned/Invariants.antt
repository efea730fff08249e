use Rattle.std.proofs.Common.{◌≡◌, take}
use Rattle.eq_induct.specs.Attempts.{learned}
use Rattle.eq_induct.proofs.deciding.learned.Given as goal

abbrev pub invariant-loop-one : goal.invariant-loop-one
invariant-loop-one l = l.count ≡ learned (take l.one-index l.asked)
