-- What the verdict of an outcome says: by cases on the last try. Where it decides, so does k-induction by its strategy;
-- where it doesn't, no try does, and each strategy that applies was tried.
use Rattle.std.proofs.Common.{◌≡◌, ℕ, suc, ◌-◌, inl, inr, List, length, slice_get, Option, None, Some, arith, refl, sym, ap, subst, ◌∙◌}
use Rattle.std.proofs.lemmas.Bool.{cases_lt}
use Rattle.std.proofs.lemmas.Option.{get_or_from_slice_get, none-some, same_Some, slice_get-get_or, slice_get_within}
use Rattle.eq_config.specs.declared.config.Strategy.{Strategy}
use Rattle.eq_bits.specs.declared.part.Part.{Part}
use Rattle.eq_induct.specs.declared.types.Attempt.{Attempt}
use Rattle.eq_induct.specs.declared.types.Decided.{Decided}
use Rattle.eq_induct.specs.declared.types.End.{End}
use Rattle.eq_induct.specs.declared.types.End.TheVariants as end
use Rattle.eq_induct.specs.declared.types.PartVerdict.{PartVerdict}
use Rattle.eq_induct.specs.declared.types.Try.{Try}
use Rattle.eq_induct.specs.Attempts.{IsAttempt, Says}
use Rattle.eq_induct.specs.Outcome.{Applies, GivesUp, IsDecided, IsOutcome, VerdictSays, verdict_of, verdict_of_end}
use Rattle.eq_induct.proofs.Places.{element_at}

module _ (ends : (part : Part) (depth conflicts : ℕ) (t : Attempt) → IsAttempt part depth conflicts t →
    Says part depth t.end)
    (part : Part) (strategies : List Strategy) (d : Decided) (is : IsOutcome part strategies d) where
  -- a try that ends without a decision gave up
  gave_up_so : (i n : ℕ) (u : Try) (s : Strategy) → slice_get d.tries i ≡ Some u → u.strategy ≡ n →
      IsAttempt part s.depth s.conflicts u.attempt → (e : End) → u.attempt.end ≡ e → (IsDecided e → ⊥) →
      GivesUp part d.tries n s
  gave_up_so i n u s at number attempt (end.Proved k) same undecided = absurd (undecided tt)
  gave_up_so i n u s at number attempt (end.Fail k) same undecided = absurd (undecided tt)
  gave_up_so i n u s at number attempt end.Deep same undecided =
      inl (subst (λ x. Says part s.depth x) same (ends part s.depth s.conflicts u.attempt attempt))
  gave_up_so i n u s at number attempt end.Spent same undecided =
      inr (i, u, slice_get_within d.tries i u at, get_or_from_slice_get d.tries i u u at, (number, attempt.spent same))

  gave_up : (i n : ℕ) (u : Try) (s : Strategy) → slice_get d.tries i ≡ Some u → u.strategy ≡ n →
      slice_get strategies n ≡ Some s → (IsDecided u.attempt.end → ⊥) → GivesUp part d.tries n s
  gave_up i n u s at number there undecided =
      let tried = is.tried i u at in
      let P : ℕ → Type 0 = λ m. slice_get strategies m ≡ Some tried.0 in
      let same : tried.0 ≡ s = same_Some tried.0 s (sym (subst P number tried.1) ∙ there) in
      let Q : Strategy → Type 0 = λ x. IsAttempt part x.depth x.conflicts u.attempt in
      gave_up_so i n u s at number (subst Q same tried.3) u.attempt.end refl undecided

  module _ (t : Try) (last : slice_get d.tries (length d.tries - 1) ≡ Some t) where
    -- where the last try doesn't decide, none does
    none_decides : (IsDecided t.attempt.end → ⊥) → (i : ℕ) (u : Try) → slice_get d.tries i ≡ Some u →
        IsDecided u.attempt.end → ⊥
    none_decides undecided i u at = elim (cases_lt (suc i) (length d.tries)) [
      | inl less ↦ is.undecided i u at less
      | inr not_less ↦ (
          let within = slice_get_within d.tries i u at in
          let here : i ≡ length d.tries - 1 = omega arith in
          let P : ℕ → Type 0 = λ j. slice_get d.tries j ≡ Some u in
          let same : t ≡ u = same_Some t u (sym last ∙ subst P here at) in
          let Q : Try → Type 0 = λ x. IsDecided x.attempt.end → ⊥ in
          subst Q same undecided)
    ]

    -- and each strategy that applies gave up
    all_gave_up : (IsDecided t.attempt.end → ⊥) → (n : ℕ) (s : Strategy) → slice_get strategies n ≡ Some s →
        Applies part.name s → GivesUp part d.tries n s
    all_gave_up undecided n s there applies =
        let tried = is.none_left_out n s there applies in
        let u = tried.1 in
        let at : slice_get d.tries tried.0 ≡ Some u = slice_get-get_or d.tries tried.0 u tried.2 ∙ ap Some tried.3 in
        let not_decided = none_decides undecided tried.0 u at in
        elim tried.4 [
          | inl number ↦ gave_up tried.0 n u s at number there not_decided
          | inr later ↦ absurd (not_decided later.1)
        ]

    last_says : (e : End) → t.attempt.end ≡ e → VerdictSays part strategies d.tries (verdict_of_end t.strategy e)
    last_says (end.Proved k) same =
        let tried = is.tried (length d.tries - 1) t last in
        let s = tried.0 in (
          s,
          tried.1,
          tried.2,
          subst (λ x. Says part s.depth x) same (ends part s.depth s.conflicts t.attempt tried.3),
        )
    last_says (end.Fail k) same =
        let tried = is.tried (length d.tries - 1) t last in
        let s = tried.0 in (
          s,
          tried.1,
          tried.2,
          subst (λ x. Says part s.depth x) same (ends part s.depth s.conflicts t.attempt tried.3),
        )
    last_says end.Deep same = all_gave_up (λ decided. subst (λ x. IsDecided x) same decided)
    last_says end.Spent same = all_gave_up (λ decided. subst (λ x. IsDecided x) same decided)

  says_so : (o : Option Try) → slice_get d.tries (length d.tries - 1) ≡ o →
      VerdictSays part strategies d.tries (verdict_of o)
  says_so None none = λ n s there applies.
      let tried = is.none_left_out n s there applies in
      let within = tried.2 in
      let at = element_at d.tries (length d.tries - 1) (omega arith) in
      absurd (none-some at.0 (sym none ∙ at.1))
  says_so (Some t) last = last_says t last t.attempt.end refl

  pub verdict_says : VerdictSays part strategies d.tries d.verdict
  verdict_says =
      let P : PartVerdict → Type 0 = λ v. VerdictSays part strategies d.tries v in
      subst P (sym is.verdict) (says_so (slice_get d.tries (length d.tries - 1)) refl)
