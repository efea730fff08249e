use Rattle.std.proofs.Common.{List, ℕ, arith, subst}
use Rattle.eq_wit.specs.inner.Judging.{IsFaulty, StopsBy, TakesLine}
use Rattle.eq_wit.proofs.FaultHere.{stands_there}
use Rattle.eq_wit.proofs.FollowLemmas.{kept_further, one_further}
use Rattle.eq_wit.proofs.ReadLemmas.{stops_by}
use Rattle.eq_wit.proofs.read.with_words.Goals as goal

pub advance-requires-clause-stands : goal.advance-requires-clause-stands
advance-requires-clause-stands c = stands_there c.args.text.now c.args.state c.args.line _ c.requires.at.reached

pub advance-requires-clause-few : goal.advance-requires-clause-few
advance-requires-clause-few c = omega (arith, c.requires.at.conflicts, c.requires.fits)

pub returns-in-Ok-clause-further : goal.returns-in-Ok-clause-further
returns-in-Ok-clause-further c = one_further c.args.text.now c.args.state c.in-Ok.next c.args.line c.args.bytes.now
    c.args.after.now c.requires.at
    (subst (λ (ws : List (List ℕ)). TakesLine c.args.state ws c.in-Ok.next) c.requires.words c.in-Ok.ensures.judges)

pub returns-in-Ok-clause-kept : goal.returns-in-Ok-clause-kept
returns-in-Ok-clause-kept c = kept_further c.args.state c.in-Ok.next _ _ c.in-Ok.ensures.judges c.advance.ensures.kept

pub returns-in-Err-clause-further : goal.returns-in-Err-clause-further
returns-in-Err-clause-further c = stops_by c.args.text.now c.args.state c.args.line c.args.bytes.now c.args.after.now
    c.in-Err.stop c.answer.result c.requires.at c.requires.feed
    (subst (λ (ws : List (List ℕ)). StopsBy (IsFaulty c.args.state ws) c.in-Err.stop) c.requires.words
    c.in-Err.ensures.judges) c.answer.ensures.at c.answer.ensures.memory
