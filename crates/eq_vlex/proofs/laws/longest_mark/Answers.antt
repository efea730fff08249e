use Rattle.eq_vlex.proofs.Longest.{mark_is_longest}
use Rattle.eq_vlex.proofs.laws.longest_mark.Goals as goal

pub returns : goal.returns
returns c = mark_is_longest
