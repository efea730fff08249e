use Rattle.eq_vlex.proofs.Total.{tokens_or_fault}
use Rattle.eq_vlex.proofs.laws.always_one.Goals as goal

pub returns : goal.returns
returns c = tokens_or_fault
