use Rattle.eq_unroll.proofs.Assigning.{satisfiable}
use Rattle.eq_unroll.proofs.laws.satisfiable_where_held.Goals as goal

pub returns : goal.returns
returns c = λ part q k from_one. satisfiable c.solved.ensures part (c.part_is_one.ensures part) q k from_one
