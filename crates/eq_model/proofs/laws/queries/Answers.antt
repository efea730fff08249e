use Rattle.eq_model.specs.Cut.{Base, Step}
use Rattle.eq_model.specs.Part.{PartBase, PartStep}
use Rattle.eq_model.proofs.Answer.{same_kind}
use Rattle.eq_model.proofs.Queries.{same_base, same_step}
use Rattle.eq_model.proofs.laws.queries.Goals as goal

pub returns-clause-base : goal.returns-clause-base
returns-clause-base c = same_base

pub returns-clause-step : goal.returns-clause-step
returns-clause-step c = same_step

pub returns-clause-kind : goal.returns-clause-kind
returns-clause-kind c = λ gold gate p inside t denotes depth x.
    same_kind (Base gold gate p inside) (Step gold gate p inside) (PartBase t) (PartStep t)
    (λ k pos. same_base gold gate p inside t denotes k) (same_step gold gate p inside t denotes) depth x
