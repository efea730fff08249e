use Rattle.eq_budget.proofs.Paid.{paid_for}
use Rattle.eq_budget.proofs.laws.words_are_paid.Goals as goal

pub returns : goal.returns
returns c = paid_for
