use Rattle.std.proofs.Common.{◌≡◌, ℕ, ◌+◌, ◌-◌, ◌^◌, List, [], ◌∷◌, ◌++◌, map, arith, sym, ap, ◌∙◌, subst}
use Rattle.std.specs.Prelude.{All, drop}
use Rattle.std.proofs.lemmas.List.Elements.{All-push}
use Rattle.eq_proof.specs.Clause.{IsClause}
use Rattle.eq_proof.specs.Literal.{Literal}
use Rattle.eq_proof.specs.Text.{IsUpTo, literal_word}
use Rattle.eq_wit.proofs.StepLemmas.{drop_here, drop_past, ends_with, goes_further, goes_on_by, literal_not_zero, map_push, one_literal}
use Rattle.eq_wit.proofs.steps.clause.Goals as goal

pub returns-then-is_clause-clause-some : goal.returns-then-is_clause-clause-some
returns-then-is_clause-clause-some c =
    let ws = c.args.words.now in
    let place = c.loop-place.place in
    c.loop-place.invariant.read ∙ ap (λ (t : List (List ℕ)). map literal_word c.loop-place.lits.items ++ t)
    (drop_here ws place c.at-word.result.now c.at-word.ensures
    ∙ ap (λ (w : List ℕ). w ∷ drop (place + 1) ws) (c.is_zero.ensures.0 c.if-is_zero.true))

pub returns-then-is_clause-clause-fits : goal.returns-then-is_clause-clause-fits
returns-then-is_clause-clause-fits c = record {
  ordered = subst IsClause c.as_slice.ensures.value (c.is_clause.ensures.0 c.if-is_clause.true);
  within = c.loop-place.invariant.fits;
}

pub returns-else-is_clause-clause-none : goal.returns-else-is_clause-clause-none
returns-else-is_clause-clause-none c = λ clause rest fits e.
    let ws = c.args.words.now in
    let place = c.loop-place.place in
    let lits = c.loop-place.lits.items in
    let read = c.loop-place.invariant.read ∙ ap (λ (t : List (List ℕ)). map literal_word lits ++ t)
    (drop_here ws place c.at-word.result.now c.at-word.ensures
    ∙ ap (λ (w : List ℕ). w ∷ drop (place + 1) ws) (c.is_zero.ensures.0 c.if-is_zero.true)) in
    let same = ends_with literal_word (IsUpTo (2 ^ 31 - 1)) one_literal literal_not_zero lits clause (drop
    (place + 1) ws)
    rest c.loop-place.invariant.fits fits.within (sym read ∙ e) in
    let ordered : IsClause lits = subst IsClause same.0 fits.ordered in
    let yes' = c.is_clause.ensures.1 (subst IsClause (sym c.as_slice.ensures.value) ordered) in
    absurd (cc (yes', c.if-is_clause.false))

pub returns-in_default-clause-none : goal.returns-in_default-clause-none
returns-in_default-clause-none c = λ clause rest fits e.
    let ws = c.args.words.now in
    let place = c.loop-place.place in
    let lits = c.loop-place.lits.items in
    let read = c.loop-place.invariant.read ∙ ap (λ (t : List (List ℕ)). map literal_word lits ++ t)
    (drop_here ws place c.at-word.result.now c.at-word.ensures) in
    goes_on_by literal_word (IsUpTo (2 ^ 31 - 1)) one_literal literal_not_zero lits clause c.at-word.result.now
    (drop (place + 1) ws) rest c.loop-place.invariant.fits fits.within
    (λ zero'. let yes' = c.is_zero.ensures.1 zero' in absurd (cc (yes', c.if-is_zero.false)))
    (λ l h. c.in_default.ensures l h) (sym read ∙ e)

pub loop-place-preserved : goal.loop-place-preserved
loop-place-preserved c =
    let ws = c.args.words.now in
    let place = c.loop-place.place in
    let lits = c.loop-place.lits.items in
    let l : Literal = c.in-Some.l in
    let rest = drop (place + 1) ws in
    let items : c.push.new.self.items ≡ lits ++ l ∷ [] = c.in_ok-push.ensures.items in
    record {
      read = c.loop-place.invariant.read ∙ ap (λ (t : List (List ℕ)). map literal_word lits ++ t)
          (drop_here ws place c.at-word.result.now c.at-word.ensures
          ∙ ap (λ (w : List ℕ). w ∷ rest) c.in-Some.ensures.0)
          ∙ map_push literal_word lits l rest
          ∙ ap (λ (xs : List Literal). map literal_word xs ++ rest) (sym items);
      fits = subst (All (IsUpTo (2 ^ 31 - 1))) (sym items)
          (All-push (IsUpTo (2 ^ 31 - 1)) lits l c.loop-place.invariant.fits c.in-Some.ensures.1);
      within = omega arith;
    }

pub returns-clause-none : goal.returns-clause-none
returns-clause-none c = λ clause rest fits e.
    let ws = c.args.words.now in
    let place = c.loop-place.place in
    goes_further literal_word (IsUpTo (2 ^ 31 - 1)) one_literal literal_not_zero c.loop-place.lits.items clause
    (drop place ws) rest c.loop-place.invariant.fits fits.within (drop_past ws place (omega arith))
    (sym c.loop-place.invariant.read ∙ e)
