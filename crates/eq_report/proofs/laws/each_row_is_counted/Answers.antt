use Rattle.eq_report.proofs.Counted.{counted_once}
use Rattle.eq_report.proofs.laws.each_row_is_counted.Goals as goal

pub returns : goal.returns
returns c = counted_once
