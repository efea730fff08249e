use Rattle.std.proofs.Common.{sym, ap, ◌∙◌, Some}
use Rattle.eq_net.specs.Numbers.{digit}
use Rattle.eq_flatten.proofs.BeginningLemmas.{none_begins, one_begins, same_value}
use Rattle.eq_flatten.proofs.initials.initial_by_slot.Goals as goal

pub returns-clause-none : goal.returns-clause-none
returns-clause-none c = λ constants is b none. none_begins b is none

pub returns-clause-one : goal.returns-clause-one
returns-clause-one c = λ constants is b w v says at.
    one_begins b is says.1.0 w.bit says.1.1 says.1.2.place says.0
    ∙ ap (λ x. Some (digit x.value w.bit)) (same_value says.1.0.value v (sym says.1.2.value ∙ at))
