use Rattle.eq_verilog.proofs.Outcomes.{one_refusal, not_both}
use Rattle.eq_verilog.proofs.laws.one_outcome.Goals as goal

pub returns-clause-one : goal.returns-clause-one
returns-clause-one c = one_refusal

pub returns-clause-not_both : goal.returns-clause-not_both
returns-clause-not_both c = not_both
