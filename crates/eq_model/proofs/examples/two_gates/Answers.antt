use Rattle.eq_model.proofs.GateTrials.{conjunctions_agree, conjunctions_equivalent, disjunction_differs}
use Rattle.eq_model.proofs.examples.two_gates.Goals as goal

pub returns-clause-equal : goal.returns-clause-equal
returns-clause-equal c = conjunctions_equivalent

pub returns-clause-unequal : goal.returns-clause-unequal
returns-clause-unequal c = disjunction_differs

pub returns-clause-agree : goal.returns-clause-agree
returns-clause-agree c = conjunctions_agree
