use Rattle.std.proofs.Common.{refl}
use Rattle.std.specs.Fmt.{digits}
use Rattle.eq_report.proofs.examples.single_reports.Goals as goal

pub returns-clause-proved : goal.returns-clause-proved
unfolding digits
returns-clause-proved c = refl

pub returns-clause-fail : goal.returns-clause-fail
unfolding digits
returns-clause-fail c = refl

pub returns-clause-deep : goal.returns-clause-deep
unfolding digits
returns-clause-deep c = refl

pub returns-clause-spent : goal.returns-clause-spent
unfolding digits
returns-clause-spent c = refl

pub returns-clause-second : goal.returns-clause-second
unfolding digits
returns-clause-second c = refl

pub returns-clause-no_strategy : goal.returns-clause-no_strategy
unfolding digits
returns-clause-no_strategy c = refl

pub returns-clause-no_row : goal.returns-clause-no_row
unfolding digits
returns-clause-no_row c = refl
