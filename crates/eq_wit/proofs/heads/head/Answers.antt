use Rattle.eq_wit.proofs.HeadLemmas.{wrong_head}
use Rattle.eq_wit.proofs.heads.head.Goals as goal

pub returns-in_default-from_one : goal.returns-in_default-from_one
returns-in_default-from_one c =
    wrong_head c.args.part.now c.args.words.now c.in-Some.first.now c.in-Some.second.now c.in-Some.third.now c.in-Some.fourth.now
    c.wrong_from.result c.in-Some.ensures
    (λ h fits depth conflicts queries.
    c.in_default-from_one.ensures h.0.depth fits.limits.some_depth fits.limits.depth depth) c.wrong_from.ensures

pub returns-in_default-from_one-2 : goal.returns-in_default-from_one-2
returns-in_default-from_one-2 c =
    wrong_head c.args.part.now c.args.words.now c.in-Some.first.now c.in-Some.second.now c.in-Some.third.now c.in-Some.fourth.now
    c.wrong_from-in_default-from_one-2.result c.in-Some.ensures
    (λ h fits depth conflicts queries.
    c.in_default-from_one-2.ensures h.0.conflicts fits.limits.some_conflicts fits.limits.conflicts conflicts)
    c.wrong_from-in_default-from_one-2.ensures

pub returns-in_default-up_to : goal.returns-in_default-up_to
returns-in_default-up_to c =
    wrong_head c.args.part.now c.args.words.now c.in-Some.first.now c.in-Some.second.now c.in-Some.third.now c.in-Some.fourth.now
    c.wrong_from-in_default-up_to.result c.in-Some.ensures
    (λ h fits depth conflicts queries.
    c.in_default-up_to.ensures h.1 ((c.most_queries.ensures h.1).1 (fits.few, fits.may)) queries)
    c.wrong_from-in_default-up_to.ensures
