-- Where nothing was decided each try has its cause.
use Rattle.std.proofs.Common.{◌≡◌, ℕ, suc, ◌-◌, ◌<◌, List, [], ◌∷◌, ◌++◌, Some, AllPairs, Contains, length, map, slice_get, slice_index_or, refl, sym, ap, subst, ◌∙◌, arith, inl, inr}
use Rattle.std.proofs.lemmas.Bool.{cases_lt}
use Rattle.std.proofs.lemmas.List.{get_or-map, length-map}
use Rattle.std.proofs.lemmas.Option.{slice_get-get_or, slice_get_within}
use Rattle.eq_bits.specs.declared.part.Part.{Part}
use Rattle.eq_compose.specs.declared.types.Cause.{Cause}
use Rattle.eq_config.specs.declared.config.Strategy.{Strategy}
use Rattle.eq_induct.specs.declared.types.Decided.{Decided}
use Rattle.eq_induct.specs.declared.types.End.{End}
use Rattle.eq_induct.specs.declared.types.End.TheVariants as end
use Rattle.eq_induct.specs.declared.types.PartVerdict.TheVariants.{Unknown}
use Rattle.eq_induct.specs.declared.types.Try.{Try}
use Rattle.eq_induct.specs.Outcome.{Applies, IsDecided, IsOutcome, verdict_of, verdict_of_end}
use Rattle.eq_report.specs.Rows.{cause_of, causes_of}
use Rattle.eq_round.specs.Causes.{strategy_of}

-- no try decided
abbrev AllGaveUp : List Try → Type 0
AllGaveUp tries = (i : ℕ) (t : Try) → slice_get tries i ≡ Some t → IsDecided t.attempt.end → ⊥

one_cause : (strategies : List Strategy) (n : ℕ) (e : End) (more : List Cause) → (IsDecided e → ⊥) →
    map strategy_of (cause_of strategies n e ++ more) ≡ n ∷ map strategy_of more
one_cause strategies n (end.Proved k) more gave_up = absurd (gave_up tt)
one_cause strategies n (end.Fail k) more gave_up = absurd (gave_up tt)
one_cause strategies n end.Deep more gave_up = refl
one_cause strategies n end.Spent more gave_up = refl

one_each : (strategies : List Strategy) (tries : List Try) → AllGaveUp tries →
    map strategy_of (causes_of strategies tries) ≡ map (λ (t : Try). t.strategy) tries
one_each strategies [] gave_up = refl
one_each strategies (t ∷ tries) gave_up =
    one_cause strategies t.strategy t.attempt.end (causes_of strategies tries)
    (gave_up 0 t refl)
    ∙ ap (λ (ns : List ℕ). t.strategy ∷ ns) (one_each strategies tries (λ i u e. gave_up (suc i) u e))

number_there : (tries : List Try) (k : ℕ) (t : Try) (n : ℕ) → k < length tries → slice_index_or tries k t ≡ t →
    t.strategy ≡ n → Contains (map (λ (u : Try). u.strategy) tries) n
number_there tries k t n lt is same =
    let F : Try → ℕ = λ u. u.strategy in
    let long = length-map tries F in
    (k, omega arith, get_or-map F tries k t n lt ∙ ap F is ∙ same)

ordered : (tries : List Try) → AllPairs (λ (t u : Try). t.strategy < u.strategy) tries →
    AllPairs (λ m n. m < n) (map (λ (u : Try). u.strategy) tries)
ordered [] order i j d less lt = absurd (omega arith)
ordered (t ∷ tries) order i j d less lt =
    let F : Try → ℕ = λ u. u.strategy in
    let all : List Try = t ∷ tries in
    let long = length-map all F in
    let a = get_or-map F all i t d (omega arith) in
    let b = get_or-map F all j t d (omega arith) in
    let e = order i j t less (omega arith) in
    omega arith

not_decided : (n : ℕ) (e : End) → verdict_of_end n e ≡ Unknown → IsDecided e → ⊥
not_decided n (end.Proved k) unknown is = absurd (cc)
not_decided n (end.Fail k) unknown is = absurd (cc)
not_decided n end.Deep unknown is = is
not_decided n end.Spent unknown is = is

module _ (part : Part) (strategies : List Strategy) (d : Decided) (outcome : IsOutcome part strategies d)
    (unknown : d.verdict ≡ Unknown) where
  all_gave_up : AllGaveUp d.tries
  all_gave_up i t at is =
      let within = slice_get_within d.tries i t at in
      elim (cases_lt (suc i) (length d.tries)) [
        | inl earlier ↦ outcome.undecided i t at earlier is
        | inr last ↦ (
            let e : i ≡ length d.tries - 1 = omega arith in
            let there : slice_get d.tries (length d.tries - 1) ≡ Some t =
            subst (λ (j : ℕ). slice_get d.tries j ≡ Some t) e at in
            not_decided t.strategy t.attempt.end
            (ap verdict_of (sym there) ∙ sym outcome.verdict ∙ unknown) is)
      ]

  numbers : map strategy_of (causes_of strategies d.tries) ≡ map (λ (t : Try). t.strategy) d.tries
  numbers = one_each strategies d.tries all_gave_up

  pub cause_of_each : (n : ℕ) (s : Strategy) → slice_get strategies n ≡ Some s → Applies part.name s →
      Contains (map strategy_of (causes_of strategies d.tries)) n
  cause_of_each n s at applies =
      let found = outcome.none_left_out n s at applies in
      let t : Try = found.1 in
      let there : slice_get d.tries found.0 ≡ Some t = slice_get-get_or d.tries found.0 t found.2
      ∙ ap (λ (x : Try). Some x) found.3 in
      elim found.4 [
        | inl same ↦ subst (λ (ns : List ℕ). Contains ns n) (sym numbers) (number_there d.tries found.0 t n found.2
            found.3 same)
        | inr earlier ↦ absurd (all_gave_up found.0 t there earlier.1)
      ]

  pub in_order : AllPairs (λ m n. m < n) (map strategy_of (causes_of strategies d.tries))
  in_order = subst (λ (ns : List ℕ). AllPairs (λ m n. m < n) ns) (sym numbers) (ordered d.tries outcome.order)
