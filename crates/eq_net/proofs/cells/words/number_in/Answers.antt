use Rattle.eq_net.proofs.CellWords.{none_number}
use Rattle.eq_net.proofs.cells.words.number_in.Goals as goal

pub returns-in-None : goal.returns-in-None
returns-in-None c = none_number c.args.numbers.now c.args.at c.in-None.ensures.value
