use Rattle.eq_round.proofs.OneMore.{one_done_more}
use Rattle.eq_round.proofs.rounds.decide_round.Goals as goal

pub loop-j-preserved : goal.loop-j-preserved
loop-j-preserved c =
    one_done_more c.args.work.now c.args.first c.loop-j.j c.loop-j.round.items c.push.new.self.items
    c.in_ok-decide_partition.field-0 c.loop-j.invariant c.in_ok-decide_partition.ensures.ok c.in_ok-push.ensures.items
