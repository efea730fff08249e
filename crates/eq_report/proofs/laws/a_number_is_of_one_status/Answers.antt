use Rattle.eq_report.proofs.Numbers.{one_status}
use Rattle.eq_report.proofs.laws.a_number_is_of_one_status.Goals as goal

pub returns : goal.returns
returns c = one_status
