use Rattle.eq_part.proofs.Ordered.{classes_in_order, outputs_in_order}
use Rattle.eq_part.proofs.laws.outputs_stand_in_order.Goals as goal

pub returns-clause-lists : goal.returns-clause-lists
returns-clause-lists c = classes_in_order

pub returns-clause-outputs : goal.returns-clause-outputs
returns-clause-outputs c = outputs_in_order
