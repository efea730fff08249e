use Rattle.std.proofs.Common.{◌+◌, set, ap, subst}
use Rattle.std.proofs.lemmas.List.{get_or_default}
use Rattle.eq_match.specs.declared.types.Pair.{Pair}
use Rattle.eq_match.specs.Leaders.{leader_at}
use Rattle.eq_match.specs.Pairs.{no_pair}
use Rattle.eq_part.specs.inner.Wholes.{AreKept}
use Rattle.eq_part.proofs.NetsHeld.{one_kept}
use Rattle.eq_part.proofs.wholes.net_leaders.Goals as goal

pub loop-position-preserved : goal.loop-position-preserved
loop-position-preserved c =
    let p = c.loop-position.position in let pairs = c.args.pairs.now in
    subst (λ k. AreKept pairs c.args.leaders.now (set c.loop-position.kept.items k (leader_at c.args.leaders.now p)) c.args.nets (p + 1))
    (ap (λ (q : Pair). q.gold.net) (get_or_default c.args.pairs.now p no_pair _ c.loop-position-test.true))
    (one_kept c.args.pairs.now c.args.leaders.now c.loop-position.kept.items c.args.nets p
    (c.requires.there p no_pair c.loop-position-test.true) c.loop-position.invariant)
