use Rattle.eq_induct.proofs.Counting.{solved_is}
use Rattle.eq_induct.proofs.asking.solved.Goals as goal

pub returns : goal.returns
returns c =
    let s = c.solve.ensures in
    solved_is c.args.part.now c.args.q c.args.k c.args.left c.in_ok-f.f.clauses c.solve.result c.in_ok-f.ensures.clauses
    (record {
      satisfies = s.sat_satisfies;
      unsat_derives = s.unsat_derives;
      unsat_ends = s.unsat_ends;
      unsat_fresh = s.unsat_fresh;
      unsat_within = s.unsat_within;
      spent_derives = s.spent_derives;
      spent_fresh = s.spent_fresh;
      spent_exact = s.spent_exact;
    })
