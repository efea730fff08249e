use Rattle.eq_induct.proofs.Induction.{ends_as_induction}
use Rattle.eq_induct.proofs.laws.an_attempt_is_induction.Goals as goal

pub returns : goal.returns
returns c = ends_as_induction c.empty_refutes.ensures c.one_replay.ensures c.holds_where_shown.ensures
    c.satisfiable_where_held.ensures
