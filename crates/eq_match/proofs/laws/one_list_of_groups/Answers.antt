use Rattle.eq_match.proofs.GroupLines.{one_list_of}
use Rattle.eq_match.proofs.laws.one_list_of_groups.Goals as goal

pub returns : goal.returns
returns c = one_list_of
