-- What is wrong with the last line of a try.
use Rattle.std.proofs.Common.{◌≡◌, ◌≢◌, ℕ, ◌^◌, ◌<◌, List, [], ◌∷◌, refl, sym, ap, ◌∙◌, subst, arith, get_or}
use Rattle.std.specs.Prelude.{codes}
use Rattle.std.specs.Fmt.{decimal}
use Rattle.eq_names.specs.Name.{IsName}
use Rattle.eq_induct.specs.declared.types.End.{End}
use Rattle.eq_induct.specs.declared.types.End.TheVariants as end
use Rattle.eq_wit.specs.declared.state.Stop.{Stop}
use Rattle.eq_wit.specs.declared.state.Stop.TheVariants as stop
use Rattle.eq_wit.specs.declared.types.WitKind.TheVariants as kind
use Rattle.eq_wit.specs.Faults.{IsShortEnd}
use Rattle.eq_wit.specs.Line.{HasForm}
use Rattle.eq_wit.specs.Texts.{end_line}
use Rattle.eq_wit.specs.inner.Items.{IsNoItem, IsWrong}
use Rattle.eq_wit.specs.inner.Judging.{StopsBy, words_of}
use Rattle.eq_wit.proofs.ItemLemmas.{HasNumerals, decimal_name, no_form, own_form}
use Rattle.eq_wit.proofs.InputForms.{differ}

numerals : (e : End) → IsShortEnd e → HasNumerals (end_line e)
numerals (end.Proved k) h = (decimal_name k (omega (arith, h)), tt)
numerals (end.Fail k) h = (decimal_name k (omega (arith, h)), tt)
numerals end.Deep h = tt
numerals end.Spent h = tt

no_shape : (e : End) (ws : List (List ℕ)) → (ws ≢ codes "deep" ∷ []) → (ws ≢ codes "spent" ∷ []) →
    ((a : List ℕ) → ws ≢ codes "proved" ∷ a ∷ []) → ((a : List ℕ) → ws ≢ codes "fail" ∷ a ∷ []) →
    HasForm (end_line e) ws → ⊥
no_shape (end.Proved k) [] deep spent proved fail form = form
no_shape (end.Proved k) (a ∷ []) deep spent proved fail form = form.1
no_shape (end.Proved k) (a ∷ b ∷ []) deep spent proved fail form = proved b (ap (λ (w : List ℕ). w ∷ b ∷ []) form.0)
no_shape (end.Proved k) (a ∷ b ∷ d ∷ ws) deep spent proved fail form = form.1.1
no_shape (end.Fail k) [] deep spent proved fail form = form
no_shape (end.Fail k) (a ∷ []) deep spent proved fail form = form.1
no_shape (end.Fail k) (a ∷ b ∷ []) deep spent proved fail form = fail b (ap (λ (w : List ℕ). w ∷ b ∷ []) form.0)
no_shape (end.Fail k) (a ∷ b ∷ d ∷ ws) deep spent proved fail form = form.1.1
no_shape end.Deep [] deep spent proved fail form = form
no_shape end.Deep (a ∷ []) deep spent proved fail form = deep (ap (λ (w : List ℕ). w ∷ []) form.0)
no_shape end.Deep (a ∷ b ∷ ws) deep spent proved fail form = form.1
no_shape end.Spent [] deep spent proved fail form = form
no_shape end.Spent (a ∷ []) deep spent proved fail form = spent (ap (λ (w : List ℕ). w ∷ []) form.0)
no_shape end.Spent (a ∷ b ∷ ws) deep spent proved fail form = form.1

pub no_end_line : (ws : List (List ℕ)) → (ws ≢ codes "deep" ∷ []) → (ws ≢ codes "spent" ∷ []) →
    ((a : List ℕ) → ws ≢ codes "proved" ∷ a ∷ []) → ((a : List ℕ) → ws ≢ codes "fail" ∷ a ∷ []) →
    IsNoItem end_line IsShortEnd ws kind.Word
no_end_line ws deep spent proved fail =
    no_form end_line IsShortEnd ws numerals (λ e fits form. no_shape e ws deep spent proved fail form)

of_proved : (e : End) (a : List ℕ) → HasForm (end_line e) (codes "proved" ∷ a ∷ []) → (k : ℕ) × (e ≡ end.Proved k) × IsName a
of_proved (end.Proved k) a h = (k, refl, h.1.0)
of_proved (end.Fail k) a h = absurd (differ (codes "fail") (codes "proved") refl refl (sym h.0))
of_proved end.Deep a h = absurd h.1
of_proved end.Spent a h = absurd h.1

of_fail : (e : End) (a : List ℕ) → HasForm (end_line e) (codes "fail" ∷ a ∷ []) → (k : ℕ) × (e ≡ end.Fail k) × IsName a
of_fail (end.Fail k) a h = (k, refl, h.1.0)
of_fail (end.Proved k) a h = absurd (differ (codes "proved") (codes "fail") refl refl (sym h.0))
of_fail end.Deep a h = absurd h.1
of_fail end.Spent a h = absurd h.1

word_of : {xs ys : List (List ℕ)} (k : ℕ) → xs ≡ ys → get_or xs k [] ≡ get_or ys k []
word_of k e = ap (λ (zs : List (List ℕ)). get_or zs k []) e

module _ (key : List ℕ) (make : ℕ → End)
    (of_key : (e : End) (a : List ℕ) → HasForm (end_line e) (key ∷ a ∷ []) → (k : ℕ) × (e ≡ make k) × IsName a)
    (short : (k : ℕ) → IsShortEnd (make k) → k < 2 ^ 32) (fits_zero : IsShortEnd (make 0))
    (form_zero : (a : List ℕ) → IsName a → HasForm (end_line (make 0)) (key ∷ a ∷ []))
    (words_are : (k : ℕ) → words_of (end_line (make k)) ≡ key ∷ decimal k ∷ []) where
  wrong_end : (ws : List (List ℕ)) (a : List ℕ) (s : Stop) → ws ≡ key ∷ a ∷ [] → ((k : ℕ) → k < 2 ^ 32 → a ≢ decimal k) →
      IsWrong a s → StopsBy (IsNoItem end_line IsShortEnd ws) s
  wrong_end ws a stop.Memory is none h = tt
  wrong_end ws a (stop.Fault kind.Head) is none h = absurd h
  wrong_end ws a (stop.Fault kind.End) is none h = absurd h
  wrong_end ws a (stop.Fault kind.Word) is none h = no_form end_line IsShortEnd ws numerals
      (λ e fits form. h (of_key e a (subst (HasForm (end_line e)) is form)).2)
  wrong_end ws a (stop.Fault kind.Number) is none h = record {
    refused = λ e fits same.
        let form : HasForm (end_line e) (key ∷ a ∷ []) = subst (HasForm (end_line e)) (same ∙ is) (own_form (end_line e) (numerals e fits)) in
        let which = of_key e a form in
        let word : decimal which.0 ≡ a = word_of 1 (sym (words_are which.0) ∙ ap (λ (x : End). words_of (end_line x)) (sym which.1) ∙ same ∙ is) in
        none which.0 (short which.0 (subst IsShortEnd which.1 fits)) (sym word);
    kind_is = (make 0, fits_zero, subst (HasForm (end_line (make 0))) (sym is) (form_zero a h));
  }

pub wrong_proved : (ws : List (List ℕ)) (a : List ℕ) (s : Stop) → ws ≡ codes "proved" ∷ a ∷ [] →
    ((k : ℕ) → k < 2 ^ 32 → a ≢ decimal k) → IsWrong a s → StopsBy (IsNoItem end_line IsShortEnd ws) s
wrong_proved = wrong_end (codes "proved") end.Proved of_proved (λ k h. h) (omega arith) (λ a h. (refl, (h, tt))) (λ k. refl)

pub wrong_fail : (ws : List (List ℕ)) (a : List ℕ) (s : Stop) → ws ≡ codes "fail" ∷ a ∷ [] →
    ((k : ℕ) → k < 2 ^ 32 → a ≢ decimal k) → IsWrong a s → StopsBy (IsNoItem end_line IsShortEnd ws) s
wrong_fail = wrong_end (codes "fail") end.Fail of_fail (λ k h. h) (omega arith) (λ a h. (refl, (h, tt))) (λ k. refl)
