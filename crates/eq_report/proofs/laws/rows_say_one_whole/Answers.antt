use Rattle.eq_report.proofs.Together.{fail_where_one_fails, one_whole, pass_where_all_proved}
use Rattle.eq_report.proofs.laws.rows_say_one_whole.Goals as goal

pub returns-clause-pass : goal.returns-clause-pass
returns-clause-pass c = pass_where_all_proved

pub returns-clause-fail : goal.returns-clause-fail
returns-clause-fail c = fail_where_one_fails

pub returns-clause-one : goal.returns-clause-one
returns-clause-one c = one_whole
