use Rattle.eq_cdcl.proofs.Started.{two_watched}
use Rattle.eq_cdcl.proofs.starting.start_clause.Goals as goal

pub returns-in_ok-attach-in-len2-up-clause-bad : goal.returns-in_ok-attach-in-len2-up-clause-bad
returns-in_ok-attach-in-len2-up-clause-bad c =
    two_watched c.args.known.now c.args.trail.now c.args.place c.args.watches.now c.attach.new.self c.at.result.now c.first-item.result c.second-item.result c.requires.watching c.requires.head c.in_ok-attach-in-len2-up.ensures.ok c.at.ensures.clause c.at.ensures.ordered c.in-len2-up.len_at_least c.first-item.is c.second-item.is c.in_ok-attach-in-len2-up.ensures.head
