use Rattle.std.proofs.Common.{refl}
use Rattle.std.specs.Fmt.{digits}
use Rattle.eq_wit.proofs.examples.single_lines.Goals as goal

pub returns-clause-gate : goal.returns-clause-gate
unfolding digits
returns-clause-gate c = refl

pub returns-clause-register : goal.returns-clause-register
unfolding digits
returns-clause-register c = refl

pub returns-clause-step : goal.returns-clause-step
unfolding digits
returns-clause-step c = refl

pub returns-clause-undecided : goal.returns-clause-undecided
unfolding digits
returns-clause-undecided c = refl

pub returns-clause-ends : goal.returns-clause-ends
unfolding digits
returns-clause-ends c = (refl, refl, refl)
