use Rattle.eq_unroll.proofs.Assigning.{holds, held}
use Rattle.eq_unroll.proofs.laws.holds_where_shown.Goals as goal

pub returns : goal.returns
returns c = λ part q k from_one. (
  held part q k,
  λ run. holds c.solved.ensures part
      (c.part_is_one.ensures part) q k from_one run.0 run.1 run.2,
)
