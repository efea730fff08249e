use Rattle.std.proofs.Common.{arith}
use Rattle.eq_wit.proofs.FollowLemmas.{few_tries, may_ask}
use Rattle.eq_wit.proofs.following.next_query.Goals as goal

pub query_over-requires-clause-few : goal.query_over-requires-clause-few
query_over-requires-clause-few c = few_tries c.args.tally c.args.attempt c.requires.stands

pub one_query-requires-clause-may : goal.one_query-requires-clause-may
one_query-requires-clause-may c = may_ask c.args.tally c.args.attempt c.requires.stands (omega arith)
