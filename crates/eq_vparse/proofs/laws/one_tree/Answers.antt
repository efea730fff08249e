use Rattle.eq_vparse.proofs.Wider.{one_tree}
use Rattle.eq_vparse.proofs.laws.one_tree.Goals as goal

pub returns : goal.returns
returns c = one_tree
