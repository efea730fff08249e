use Rattle.eq_marks.proofs.MarkRows.{none_at}
use Rattle.eq_marks.proofs.carrying.row_mark.Goals as goal

pub returns-in-None : goal.returns-in-None
returns-in-None c = none_at c.args.row.now c.args.at c.in-None.ensures.value
