use Rattle.std.proofs.Common.{refl}
use Rattle.std.specs.Fmt.{digits}
use Rattle.eq_report.proofs.examples.designs_refused.Goals as goal

pub returns-clause-too_many : goal.returns-clause-too_many
unfolding digits
returns-clause-too_many c = refl

pub returns-clause-size : goal.returns-clause-size
unfolding digits
returns-clause-size c = refl
