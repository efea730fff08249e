use Rattle.eq_model.specs.Cut.{Base, Step}
use Rattle.eq_model.specs.Part.{PartBase, PartStep}
use Rattle.eq_model.proofs.Answer.{one_kind}
use Rattle.eq_model.proofs.laws.one_kind.Goals as goal

pub returns-clause-partition : goal.returns-clause-partition
returns-clause-partition c = λ gold gate p inside depth x y. one_kind (Base gold gate p inside) (Step gold gate p inside) depth x y

pub returns-clause-part : goal.returns-clause-part
returns-clause-part c = λ t depth x y. one_kind (PartBase t) (PartStep t) depth x y
