-- Negations of literals.
use Rattle.std.proofs.Common.{◌≡◌, ◌≢◌, ◌<◌, inl, inr, Bool, true, false, not, List, [], ◌∷◌, ◌++◌, length, map, get_or, arith, refl, sym, ap, ◌∙◌, subst}
use Rattle.std.specs.Prelude.{Contains}
use Rattle.std.proofs.lemmas.List.{get_or-map, length-map, get_or_default}
use Rattle.std.proofs.lemmas.List.Elements.{Contains-push_cases}
use Rattle.eq_proof.specs.Literal.{Literal, negation, literal_is}
use Rattle.eq_proof.specs.Sets.{IsConsistent}

not_twice : (b : Bool) → not (not b) ≡ b
not_twice true = refl
not_twice false = refl

not_same : (b : Bool) → not b ≡ b → ⊥
not_same true e = absurd (cc)
not_same false e = absurd (cc)

pub negation_twice : (l : Literal) → negation (negation l) ≡ l
negation_twice l = literal_is (negation (negation l)) l refl (not_twice l.positive)

negation_differs : (l : Literal) → negation l ≢ l
negation_differs l e = not_same l.positive (ap (λ (m : Literal). m.positive) e)

-- a literal is among the negations where its negation is among the literals
pub from_negations : (lits : List Literal) (l : Literal) → Contains (map negation lits) l → Contains lits (negation l)
from_negations lits l h =
    let within : h.0 < length lits = omega (arith, length-map lits negation, h.1) in
    let is : negation (get_or lits h.0 l) ≡ l = sym (get_or-map negation lits h.0 l l within) ∙ h.2 in
    (h.0, within, get_or_default lits h.0 (negation l) l within ∙ sym (negation_twice (get_or lits h.0 l)) ∙ ap negation is)

pub to_negations : (lits : List Literal) (l : Literal) → Contains lits l → Contains (map negation lits) (negation l)
to_negations lits l h = (h.0, omega (arith, length-map lits negation, h.1), get_or-map negation lits h.0 l (negation l) h.1 ∙ ap negation h.2)

-- one literal more whose negation isn't there
pub consistent_more : (lits : List Literal) (l : Literal) → IsConsistent lits → ¬ Contains lits (negation l) → IsConsistent (lits ++ l ∷ [])
consistent_more lits l old none m h k =
    elim (Contains-push_cases lits l m h) [
      | inl there ↦ elim (Contains-push_cases lits l (negation m) k) [
        | inl also ↦ old m there also
        | inr is ↦ none (subst (Contains lits) (sym (ap negation is ∙ negation_twice m)) there)
      ]
      | inr is ↦ elim (Contains-push_cases lits l (negation m) k) [
        | inl also ↦ none (subst (λ x. Contains lits (negation x)) (sym is) also)
        | inr same ↦ negation_differs m (sym same ∙ is)
      ]
    ]
