use Rattle.eq_model.specs.Cut.{Base, Step}
use Rattle.eq_model.proofs.Agreement.{back, system_back, is_design_same, loop_free_same, run_same, equivalent_same, covers_same, base_same, step_same, never_on, denotes_on}
use Rattle.eq_model.proofs.AgreementOn.{system_on, design_on, bit_same}
use Rattle.eq_model.proofs.Answer.{same_kind}
use Rattle.eq_model.proofs.laws.agreement.Goals as goal

pub returns-clause-symmetric : goal.returns-clause-symmetric
returns-clause-symmetric c = back

pub returns-clause-transitive : goal.returns-clause-transitive
returns-clause-transitive c = design_on

pub returns-clause-transitive_system : goal.returns-clause-transitive_system
returns-clause-transitive_system c = system_on

pub returns-clause-named : goal.returns-clause-named
returns-clause-named c = bit_same

pub returns-clause-told : goal.returns-clause-told
returns-clause-told c = λ d e same. (same.nets, same.ports, same.clock)

pub returns-clause-symmetric_system : goal.returns-clause-symmetric_system
returns-clause-symmetric_system c = system_back

pub returns-clause-design : goal.returns-clause-design
returns-clause-design c = is_design_same

pub returns-clause-loop_free : goal.returns-clause-loop_free
returns-clause-loop_free c = λ d e same is. loop_free_same d.system e.system same.system is.drivers

pub returns-clause-run : goal.returns-clause-run
returns-clause-run c = run_same

pub returns-clause-equivalent : goal.returns-clause-equivalent
returns-clause-equivalent c = λ gold gate other_gold other_gate g h. equivalent_same gold other_gold gate other_gate g h

pub returns-clause-covers : goal.returns-clause-covers
returns-clause-covers c = λ gold gate other_gold other_gate g h. covers_same gold other_gold gate other_gate g h

pub returns-clause-base : goal.returns-clause-base
returns-clause-base c = base_same

pub returns-clause-step : goal.returns-clause-step
returns-clause-step c = step_same

pub returns-clause-never : goal.returns-clause-never
returns-clause-never c = never_on

pub returns-clause-kind : goal.returns-clause-kind
returns-clause-kind c = λ s s' h h' same_s same_h p inside depth x.
    same_kind (Base s h p inside) (Step s h p inside) (Base s' h' p inside) (Step s' h' p inside)
    (λ k pos. base_same s s' h h' same_s same_h p inside k) (step_same s s' h h' same_s same_h p inside) depth x

pub returns-clause-denotes : goal.returns-clause-denotes
returns-clause-denotes c = denotes_on
