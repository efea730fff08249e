use Rattle.eq_names.proofs.CaptureLemmas.{one_count_of_wilds}
use Rattle.eq_names.proofs.laws.one_number_of_wilds.Goals as goal

pub returns : goal.returns
returns c = one_count_of_wilds
