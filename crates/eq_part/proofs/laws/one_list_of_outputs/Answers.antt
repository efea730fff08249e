use Rattle.eq_part.proofs.OneList.{outputs_once}
use Rattle.eq_part.proofs.laws.one_list_of_outputs.Goals as goal

pub returns : goal.returns
returns c gold pairs groups k ps qs x y =
    outputs_once gold pairs groups k ps qs x y c.one_capture.ensures c.one_filling.ensures
