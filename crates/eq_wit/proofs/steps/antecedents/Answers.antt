use Rattle.std.proofs.Common.{◌≡◌, ◌<◌, ℕ, ◌+◌, ◌^◌, List, [], ◌∷◌, ◌++◌, map, arith, sym, ap, ap₂, ◌∙◌, subst}
use Rattle.std.specs.Prelude.{All, drop}
use Rattle.std.specs.Fmt.{decimal}
use Rattle.std.proofs.lemmas.List.Elements.{All-push}
use Rattle.eq_wit.specs.inner.Items.{IsFrom}
use Rattle.eq_wit.proofs.StepLemmas.{drop_here, drop_past, ends_with, from_not_zero, goes_further, goes_on_by, map_push, one_from}
use Rattle.eq_wit.proofs.steps.antecedents.Goals as goal

pub returns-then-is_zero-clause-yes : goal.returns-then-is_zero-clause-yes
returns-then-is_zero-clause-yes c = λ yes'.
    let ws = c.args.words.now in
    let place = c.loop-place.place in
    c.loop-place.invariant.read ∙ ap (λ (t : List (List ℕ)). map decimal c.loop-place.ants.items ++ t)
    (drop_here ws place c.at-word.result.now c.at-word.ensures
    ∙ ap₂ (λ (w : List ℕ) (t : List (List ℕ)). w ∷ t) (c.is_zero.ensures.0 c.if-is_zero.true)
    (c.is_last.ensures.0 yes'))

pub returns-then-is_zero-clause-no : goal.returns-then-is_zero-clause-no
returns-then-is_zero-clause-no c = λ ants all e.
    let ws = c.args.words.now in
    let place = c.loop-place.place in
    let few : c.args.limit < 2 ^ 64 = omega arith in
    let read = c.loop-place.invariant.read ∙ ap (λ (t : List (List ℕ)). map decimal c.loop-place.ants.items ++ t)
    (drop_here ws place c.at-word.result.now c.at-word.ensures
    ∙ ap (λ (w : List ℕ). w ∷ drop (place + 1) ws) (c.is_zero.ensures.0 c.if-is_zero.true)) in
    let same = ends_with decimal (IsFrom c.args.limit) (one_from c.args.limit few) (from_not_zero c.args.limit few)
    c.loop-place.ants.items ants (drop (place + 1) ws) [] c.loop-place.invariant.fits all (sym read ∙ e) in
    c.is_last.ensures.1 same.1

pub returns-in_default-clause-no : goal.returns-in_default-clause-no
returns-in_default-clause-no c = λ ants all e.
    let ws = c.args.words.now in
    let place = c.loop-place.place in
    let few : c.args.limit < 2 ^ 64 = omega arith in
    let read = c.loop-place.invariant.read ∙ ap (λ (t : List (List ℕ)). map decimal c.loop-place.ants.items ++ t)
    (drop_here ws place c.at-word.result.now c.at-word.ensures) in
    absurd (goes_on_by decimal (IsFrom c.args.limit) (one_from c.args.limit few) (from_not_zero c.args.limit few)
    c.loop-place.ants.items ants c.at-word.result.now (drop (place + 1) ws) [] c.loop-place.invariant.fits all
    (λ zero'. let yes' = c.is_zero.ensures.1 zero' in absurd (cc (yes', c.if-is_zero.false)))
    (λ n h. c.in_default.ensures n h.0 h.1) (sym read ∙ e))

pub loop-place-preserved : goal.loop-place-preserved
loop-place-preserved c =
    let ws = c.args.words.now in
    let place = c.loop-place.place in
    let ants = c.loop-place.ants.items in
    let rest = drop (place + 1) ws in
    let items : c.push.new.self.items ≡ ants ++ c.in-Some.n ∷ [] = c.in_ok-push.ensures.items in
    record {
      read = c.loop-place.invariant.read ∙ ap (λ (t : List (List ℕ)). map decimal ants ++ t)
          (drop_here ws place c.at-word.result.now c.at-word.ensures
          ∙ ap (λ (w : List ℕ). w ∷ rest) c.in-Some.ensures.0)
          ∙ map_push decimal ants c.in-Some.n rest
          ∙ ap (λ (xs : List ℕ). map decimal xs ++ rest) (sym items);
      fits = subst (All (IsFrom c.args.limit)) (sym items)
          (All-push (IsFrom c.args.limit) ants c.in-Some.n c.loop-place.invariant.fits
          (c.in-Some.ensures.1, c.in-Some.ensures.2));
      within = omega arith;
    }

pub returns-clause-no : goal.returns-clause-no
returns-clause-no c = λ ants all e.
    let ws = c.args.words.now in
    let place = c.loop-place.place in
    let few : c.args.limit < 2 ^ 64 = omega arith in
    absurd (goes_further decimal (IsFrom c.args.limit) (one_from c.args.limit few) (from_not_zero c.args.limit few)
    c.loop-place.ants.items ants (drop place ws) [] c.loop-place.invariant.fits all (drop_past ws place (omega arith))
    (sym c.loop-place.invariant.read ∙ e))
