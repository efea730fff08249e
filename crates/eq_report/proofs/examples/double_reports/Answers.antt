use Rattle.std.proofs.Common.{refl}
use Rattle.std.specs.Fmt.{digits}
use Rattle.eq_report.proofs.examples.double_reports.Goals as goal

pub returns-clause-one_fails : goal.returns-clause-one_fails
unfolding digits
returns-clause-one_fails c = refl

pub returns-clause-skipped : goal.returns-clause-skipped
unfolding digits
returns-clause-skipped c = refl

pub returns-clause-kept : goal.returns-clause-kept
unfolding digits
returns-clause-kept c = refl

pub returns-clause-both_causes : goal.returns-clause-both_causes
unfolding digits
returns-clause-both_causes c = refl
