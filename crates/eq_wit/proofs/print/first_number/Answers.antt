use Rattle.std.proofs.Common.{arith}
use Rattle.eq_wit.proofs.Counts.{few_clauses}
use Rattle.eq_wit.proofs.print.first_number.Goals as goal

pub overflow_add-result : goal.overflow_add-result
overflow_add-result c =
    let part = c.args.part.now in
    omega (
      arith,
      c.clause_count.ensures,
      few_clauses part c.args.query c.args.k
          part.is_part.few_nodes part.is_part.few_outputs c.requires.few_cycles,
    )

pub returns-clause-few : goal.returns-clause-few
returns-clause-few c =
    let part = c.args.part.now in
    omega (
      arith,
      c.clause_count.ensures,
      few_clauses part c.args.query c.args.k
          part.is_part.few_nodes part.is_part.few_outputs c.requires.few_cycles,
    )
