use Rattle.std.proofs.Common.{length, sym, subst}
use Rattle.std.proofs.lemmas.Result.{IfOk-weaker}
use Rattle.eq_match.specs.Pairs.{no_pair}
use Rattle.eq_part.specs.inner.Wholes.{AreKept, AreSplit}
use Rattle.eq_part.proofs.NetsHeld.{is_split, is_whole}
use Rattle.eq_part.proofs.wholes.split_nets.Goals as goal

pub returns-clause-whole : goal.returns-clause-whole
returns-clause-whole c =
    let are = subst (λ kept. AreKept c.args.pairs.now c.args.leaders.now kept c.args.nets (length c.args.pairs.now))
    (sym c.as_slice.ensures.value) c.in_ok-kept.ensures in
    IfOk-weaker c.split_by.result _ _ (λ split is. is_whole c.args.pairs.now c.args.leaders.now c.as_slice.result.now c.args.nets split.items are
    (subst (λ n. AreSplit c.args.pairs.now c.args.leaders.now c.as_slice.result.now n (length c.args.pairs.now) split.items) are.count is)
    (λ i h. c.requires.there i no_pair h)) c.split_by.ensures.split

pub returns-clause-split : goal.returns-clause-split
returns-clause-split c =
    let are = subst (λ kept. AreKept c.args.pairs.now c.args.leaders.now kept c.args.nets (length c.args.pairs.now))
    (sym c.as_slice.ensures.value) c.in_ok-kept.ensures in
    IfOk-weaker c.split_by.result _ _ (λ split is. is_split c.args.pairs.now c.args.leaders.now c.as_slice.result.now c.args.nets split.items are
    (subst (λ n. AreSplit c.args.pairs.now c.args.leaders.now c.as_slice.result.now n (length c.args.pairs.now) split.items) are.count is)
    (λ i h. c.requires.there i no_pair h)) c.split_by.ensures.split
