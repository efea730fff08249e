use Rattle.std.proofs.Common.{ℕ, List, Option, Some, slice_set, arith, sym, ap, ◌∙◌, subst}
use Rattle.eq_wit.specs.inner.Counting.{AreFirsts}
use Rattle.eq_wit.proofs.FollowLemmas.{one_known}
use Rattle.eq_wit.proofs.counted.found.Goals as goal

pub set-requires : goal.set-requires
set-requires c = omega (arith, c.requires.firsts.long, c.requires.unrollable.few_cycles)

pub returns-clause-kept : goal.returns-clause-kept
returns-clause-kept c = subst (λ (xs : List (Option ℕ)). AreFirsts c.args.part.now c.args.query xs)
    (sym (c.set.ensures ∙ ap (λ (n : ℕ). slice_set c.args.firsts.now c.args.k (Some n)) c.first_number-number.ensures.value))
    (one_known c.args.part.now c.args.query c.args.firsts.now c.args.k
    (omega (arith, c.requires.firsts.long, c.requires.unrollable.few_cycles)) c.requires.firsts)
