use Rattle.eq_match.proofs.Divisions.{divided}
use Rattle.eq_match.proofs.laws.classes_divide.Goals as goal

pub returns : goal.returns
returns c = divided
