use Rattle.std.proofs.Common.{refl}
use Rattle.std.specs.Fmt.{digits}
use Rattle.eq_report.proofs.examples.files_refused.Goals as goal

pub returns-clause-section : goal.returns-clause-section
unfolding digits
returns-clause-section c = refl

pub returns-clause-missing : goal.returns-clause-missing
unfolding digits
returns-clause-missing c = refl

pub returns-clause-x_value : goal.returns-clause-x_value
unfolding digits
returns-clause-x_value c = refl

pub returns-clause-syntax : goal.returns-clause-syntax
unfolding digits
returns-clause-syntax c = refl
