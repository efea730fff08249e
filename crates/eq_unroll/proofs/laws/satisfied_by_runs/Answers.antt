use Rattle.std.proofs.Common.{arith}
use Rattle.eq_unroll.proofs.Assigning.{assigned, assigned_nodes, run_satisfies, values_show}
use Rattle.eq_unroll.proofs.laws.satisfied_by_runs.Goals as goal

pub returns-clause-run : goal.returns-clause-run
returns-clause-run c = λ part q k values from_one satisfied.
    (let shown = values_show part q k (omega arith) values satisfied in (shown.solved, shown.shows))

pub returns-clause-values : goal.returns-clause-values
returns-clause-values c = λ part q k x from_one solves shows. (
  assigned part q k x,
  run_satisfies part (c.part_is_one.ensures part) q k (omega arith) x solves shows,
  assigned_nodes part q k x,
)
