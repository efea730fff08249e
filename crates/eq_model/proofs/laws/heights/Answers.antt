use Rattle.eq_model.proofs.Order.{height, height-down, height-le}
use Rattle.eq_model.proofs.laws.heights.Goals as goal

pub returns : goal.returns
returns c = λ s sound loop_free. (height s, height-down s sound loop_free, height-le s sound loop_free)
