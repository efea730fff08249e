use Rattle.eq_model.specs.Cut.{Base, Step}
use Rattle.eq_model.proofs.Induction.{never}
use Rattle.eq_model.proofs.Answer.{from_kind}
use Rattle.eq_model.proofs.laws.induction.Goals as goal

pub returns-clause-proved : goal.returns-clause-proved
returns-clause-proved c = λ gold gate p inside k h. never gold gate p inside k h.0 h.1

pub returns-clause-kind : goal.returns-clause-kind
returns-clause-kind c = λ gold gate p inside depth k h.
    let proves = from_kind (Base gold gate p inside) (Step gold gate p inside) depth k h in
    never gold gate p inside k proves.0 proves.1
