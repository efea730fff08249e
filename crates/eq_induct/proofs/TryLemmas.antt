-- One strategy more: what the tries so far come to.
use Rattle.std.proofs.Common.{◌≡◌, ℕ, suc, ◌+◌, ◌-◌, ◌*◌, ◌<◌, ◌≤◌, ◌⊎◌, inl, inr, true, false, Bool, List, [], ◌∷◌, ◌++◌, length, get_or, slice_get, Option, None, Some, Result, Ok, Err, IfOk, OnOk, IsTrue, ◌↔◌, arith, refl, sym, ap, subst, ◌∙◌}
use Rattle.std.specs.declared.alloc.AllocError.{AllocError}
use Rattle.std.specs.Prelude.{All, Any, AllPairs, sum_by}
use Rattle.std.proofs.lemmas.Bool.{cases_lt, false≢true}
use Rattle.std.proofs.lemmas.List.{get_or_append_left, length-append, length_push}
use Rattle.std.proofs.lemmas.List.Quantifiers.{Any-push, all_pairs_push}
use Rattle.std.proofs.lemmas.List.Sums.{sum_by_push}
use Rattle.std.proofs.lemmas.Option.{none-some, same_Some, slice_get-get_or, slice_get_within}
use Rattle.eq_config.specs.declared.config.Strategy.{Strategy}
use Rattle.eq_config.specs.declared.limits.TheConstants.{MOST_CONFLICTS}
use Rattle.eq_bits.specs.declared.part.Part.{Part}
use Rattle.eq_induct.specs.declared.types.Asked.{Asked}
use Rattle.eq_induct.specs.declared.types.Attempt.{Attempt}
use Rattle.eq_induct.specs.declared.types.Decided.{Decided}
use Rattle.eq_induct.specs.declared.types.End.{End}
use Rattle.eq_induct.specs.declared.types.End.TheVariants as end
use Rattle.eq_induct.specs.declared.types.PartVerdict.TheVariants as verdict
use Rattle.eq_induct.specs.declared.types.Try.{Try}
use Rattle.eq_induct.specs.Attempts.{IsAttempt, learned}
use Rattle.eq_induct.specs.Outcome.{Applies, IsDecided, IsOutcome, IsTry, verdict_of, verdict_of_end}
use Rattle.eq_induct.specs.inner.Asking.{IsCounted}
use Rattle.eq_induct.specs.inner.Trying.{HasTried, TriesTo, with_try}
use Rattle.eq_induct.proofs.Counting.{counted}
use Rattle.eq_induct.proofs.Places.{each_pushed, last_pushed}

-- some element passes in a longer list too, and passes a weaker test

any_more : {X : Type 0} (P : X → Type 0) (xs ys : List X) → Any P xs → Any P (xs ++ ys)
any_more P xs ys any =
    let long = length-append xs ys in
    (any.0, any.1, (let lt = any.2 in omega arith), get_or_append_left xs ys any.1 any.0 any.2 ∙ any.3, any.4)

any_weaker : {X : Type 0} (P Q : X → Type 0) (xs : List X) → ((x : X) → P x → Q x) → Any P xs → Any Q xs
any_weaker P Q xs weaker any = (any.0, any.1, any.2, any.3, weaker any.1 any.4)

-- what ends without a decision says nothing
unknown_end : (n : ℕ) (e : End) → (IsDecided e → ⊥) → verdict_of_end n e ≡ verdict.Unknown
unknown_end n (end.Proved k) undecided = absurd (undecided tt)
unknown_end n (end.Fail k) undecided = absurd (undecided tt)
unknown_end n end.Deep undecided = refl
unknown_end n end.Spent undecided = refl

unknown_try : (o : Option Try) → ((t : Try) → o ≡ Some t → IsDecided t.attempt.end → ⊥) →
    verdict_of o ≡ verdict.Unknown
unknown_try None undecided = refl
unknown_try (Some t) undecided = unknown_end t.strategy t.attempt.end (undecided t refl)

module _ (part : Part) (strategies : List Strategy) (n : ℕ) (d : Decided) (so_far : HasTried part strategies n d) where
  -- where all strategies were tried, that is the outcome
  pub all_tried : length strategies ≤ n → IsOutcome part strategies d
  all_tried end = record {
    tried = so_far.tried;
    order = so_far.order;
    none_left_out = λ m s there applies.
        let within = slice_get_within strategies m s there in
        any_weaker (λ (t : Try). t.strategy ≡ m)
        (λ (t : Try). (t.strategy ≡ m) ⊎ ((t.strategy < m) × IsDecided t.attempt.end))
        d.tries (λ t same. inl same) (so_far.all m s (omega arith) there applies);
    undecided = λ i t there _. so_far.undecided i t there;
    verdict = so_far.verdict ∙ sym (unknown_try (slice_get d.tries (length d.tries - 1))
        (λ t there. so_far.undecided (length d.tries - 1) t there));
    conflicts = so_far.conflicts;
  }

  -- a strategy that doesn't apply is passed over
  pub passed_over : (x : Strategy) → slice_get strategies n ≡ Some x → (Applies part.name x → ⊥) →
      HasTried part strategies (n + 1) d
  passed_over x here other =
      let few = so_far.few in
      record {
        tried = so_far.tried;
        before = λ i t there. let lt = so_far.before i t there in omega arith;
        order = so_far.order;
        all = λ m s lt there applies. elim (cases_lt m n) [
          | inl less ↦ so_far.all m s less there applies
          | inr last ↦ (
              let same : n ≡ m = omega arith in
              let at = subst (λ i. slice_get strategies i ≡ Some x) same here in
              let same_strategy : s ≡ x = same_Some s x (sym there ∙ at) in
              absurd (other (subst (λ y. Applies part.name y) same_strategy applies)))
        ];
        undecided = so_far.undecided;
        verdict = so_far.verdict;
        conflicts = so_far.conflicts;
        few = omega arith;
      }

  module _ (t : Try) (number : t.strategy ≡ n) (is : IsTry part strategies t)
      (few : learned t.attempt.asked ≤ MOST_CONFLICTS) where
    all_are_tries : (i : ℕ) (u : Try) → slice_get (d.tries ++ t ∷ []) i ≡ Some u → IsTry part strategies u
    all_are_tries = each_pushed (λ _ u. IsTry part strategies u) d.tries t so_far.tried is

    in_order : AllPairs (λ (u v : Try). u.strategy < v.strategy) (d.tries ++ t ∷ [])
    in_order = all_pairs_push (λ (u v : Try). u.strategy < v.strategy) d.tries t so_far.order
        (λ k u lt. let b = so_far.before k (get_or d.tries k u) (slice_get-get_or d.tries k u lt) in omega arith)

    sum : d.conflicts + learned t.attempt.asked ≡ sum_by (λ (u : Try). learned u.attempt.asked) (d.tries ++ t ∷ [])
    sum = let before = so_far.conflicts in
        let more = sum_by_push (λ (u : Try). learned u.attempt.asked) d.tries t in
        omega arith

    -- a try that doesn't decide leaves the next strategy to be tried
    pub tried_more : (IsDecided t.attempt.end → ⊥) → HasTried part strategies (n + 1) (with_try d t)
    tried_more undecided =
        let before = so_far.few in
        record {
          tried = all_are_tries;
          before = each_pushed (λ _ u. u.strategy < n + 1) d.tries t
              (λ i u there. let lt = so_far.before i u there in omega arith) (omega arith);
          order = in_order;
          all = λ m s lt there applies. elim (cases_lt m n) [
            | inl less ↦ any_more (λ (u : Try). u.strategy ≡ m) d.tries (t ∷ []) (so_far.all m s less there applies)
            | inr last ↦ Any-push (λ (u : Try). u.strategy ≡ m) d.tries t (omega arith)
          ];
          undecided = each_pushed (λ _ u. IsDecided u.attempt.end → ⊥) d.tries t so_far.undecided undecided;
          verdict = unknown_end t.strategy t.attempt.end undecided;
          conflicts = sum;
          few = omega arith;
        }

    -- and one that decides is the last
    pub tried_last : IsDecided t.attempt.end → IsOutcome part strategies (with_try d t)
    tried_last decided =
        let long : length (d.tries ++ t ∷ []) ≡ length d.tries + 1 = length_push d.tries t in
        let last : length d.tries ≡ length (d.tries ++ t ∷ []) - 1 = omega arith in
        let P : ℕ → Type 0 = λ i. slice_get (d.tries ++ t ∷ []) i ≡ Some t in
        let at = subst P last (last_pushed d.tries t) in
        record {
          tried = all_are_tries;
          order = in_order;
          none_left_out = λ m s there applies.
              let Q : Try → Type 0 = λ u. (u.strategy ≡ m) ⊎ ((u.strategy < m) × IsDecided u.attempt.end) in
              elim (cases_lt m n) [
                | inl less ↦ any_more Q d.tries (t ∷ [])
                    (any_weaker (λ (u : Try). u.strategy ≡ m) Q d.tries (λ u same. inl same)
                    (so_far.all m s less there applies))
                | inr not_less ↦ Any-push Q d.tries t (elim (cases_lt n m) [
                  | inl greater ↦ inr (omega arith, decided)
                  | inr not_greater ↦ inl (omega arith)
                ])
              ];
          undecided = each_pushed (λ i u. suc i < length (d.tries ++ t ∷ []) → IsDecided u.attempt.end → ⊥) d.tries t
              (λ i u there _. so_far.undecided i u there) (λ lt. absurd (omega arith));
          verdict = sym (ap verdict_of at);
          conflicts = sum;
        }

    -- and so for what comes of a try
    pub added : (r : Result Bool AllocError) (new : Decided) → OnOk r (new ≡ with_try d t) →
        IfOk r (λ ends. IsTrue ends ↔ IsDecided t.attempt.end) → IfOk r (TriesTo part strategies (n + 1) new)
    added (Err e) new same ends = tt
    added (Ok true) new same ends =
        let before = so_far.few in
        let P : Decided → Type 0 = λ x. IsOutcome part strategies x × (x.conflicts ≤ (n + 1) * MOST_CONFLICTS) in
        subst P (sym same) (tried_last (ends.0 refl), omega arith)
    added (Ok false) new same ends =
        let P : Decided → Type 0 = λ x. HasTried part strategies (n + 1) x in
        subst P (sym same) (tried_more (λ decided. false≢true (ends.1 decided)))

-- no strategy was tried yet
pub nothing_tried : (part : Part) (strategies : List Strategy) (d : Decided) → d.tries ≡ [] →
    d.verdict ≡ verdict.Unknown → d.conflicts ≡ 0 → HasTried part strategies 0 d
nothing_tried part strategies d none unknown zero =
    let empty : (i : ℕ) (t : Try) → slice_get d.tries i ≡ Some t → ⊥ =
    λ i t is. none-some t (ap (λ (ts : List Try). slice_get ts i) (sym none) ∙ is) in
    let short : length d.tries ≡ 0 = ap (λ (ts : List Try). length ts) none in
    record {
      tried = λ i t is. absurd (empty i t is);
      before = λ i t is. absurd (empty i t is);
      order = λ i j t lt within. absurd (omega arith);
      all = λ m s lt there applies. absurd (omega arith);
      undecided = λ i t is _. absurd (empty i t is);
      verdict = unknown;
      conflicts = zero ∙ ap (λ (ts : List Try). sum_by (λ (u : Try). learned u.attempt.asked) ts) (sym none);
      few = omega arith;
    }

-- the answers of an attempt are counted
pub attempt_counted : (part : Part) (depth conflicts : ℕ) (t : Attempt) → IsAttempt part depth conflicts t →
    All (λ (a : Asked). IsCounted a.answer) t.asked
attempt_counted part depth conflicts t is k d lt =
    let a = get_or t.asked k d in
    counted part a.query a.k a.answer (is.answered k a (slice_get-get_or t.asked k d lt))
