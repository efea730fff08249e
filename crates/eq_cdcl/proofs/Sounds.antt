-- The trail's invariant: one literal more, a front alone, one clause more that is known.
use Rattle.std.proofs.Common.{◌≡◌, ◌≢◌, ℕ, ◌<◌, ◌≤◌, inl, inr, Bool, true, false, not, List, [], ◌∷◌, ◌++◌, length, take, slice_get, Some, arith, refl, sym, ap, ap₂, ◌∙◌, subst}
use Rattle.std.specs.Prelude.{Contains}
use Rattle.std.proofs.lemmas.List.{length_push, take-append-le, take_all, take-take, length-take-le}
use Rattle.std.proofs.lemmas.List.Elements.{All-push, All-take}
use Rattle.std.proofs.lemmas.Option.{slice_get_within}
use Rattle.eq_proof.specs.Literal.{Literal, negation}
use Rattle.eq_proof.specs.Sets.{IsConsistent, HasNoValue}
use Rattle.eq_proof.proofs.Trails.{same_variable}
use Rattle.eq_cdcl.specs.inner.Assignment.{Assignment, extended, cut_to}
use Rattle.eq_cdcl.specs.inner.Sound.{AreApart, IsExplained, IsSound}
use Rattle.eq_cdcl.specs.declared.trail.Reason.{Reason}
use Rattle.eq_cdcl.proofs.Places.{member_place, place_member, push_cases, taken_place, same_place}

not_itself : (b : Bool) → b ≡ not b → ⊥
not_itself true e = absurd (cc)
not_itself false e = absurd (cc)

-- literals of different variables hold none beside its negation
pub apart_consistent : (lits : List Literal) → AreApart lits → IsConsistent lits
apart_consistent lits apart l h k =
    let p = member_place lits l h in
    let q = member_place lits (negation l) k in
    let same = apart p.0 q.0 l (negation l) p.1 q.1 refl in
    let e : l ≡ negation l = same_place lits q.0 l (negation l) (ap (λ n. slice_get lits n) (sym same) ∙ p.1) q.1 in
    not_itself l.positive (ap (λ (m : Literal). m.positive) e)

-- no literal of the variable of one without value
pub none_there : (lits : List Literal) (l m : Literal) (place : ℕ) → HasNoValue lits l → slice_get lits place ≡ Some m → m.var ≢ l.var
none_there lits l m place none at e =
    let member = place_member lits place m at in
    elim (same_variable m l e) [
      | inl is ↦ none.0 (subst (Contains lits) is member)
      | inr is ↦ none.1 (subst (Contains lits) is member)
    ]

pub apart_more : (lits : List Literal) (l : Literal) → AreApart lits → HasNoValue lits l → AreApart (lits ++ l ∷ [])
apart_more lits l apart none p q a b ep eq v =
    elim (push_cases lits l p a ep) [
      | inl old ↦ elim (push_cases lits l q b eq) [
        | inl old_too ↦ apart p q a b old old_too v
        | inr last ↦ absurd (none_there lits l a p none old (v ∙ ap (λ (m : Literal). m.var) (sym last.1)))
      ]
      | inr last ↦ elim (push_cases lits l q b eq) [
        | inl old_too ↦ absurd (none_there lits l b q none old_too (sym v ∙ ap (λ (m : Literal). m.var) (sym last.1)))
        | inr last_too ↦ omega (arith, last.0, last_too.0)
      ]
    ]

-- one literal more, which is explained
pub sound_extended : (known : List (List Literal)) (a : Assignment) (l : Literal) (reason : Reason) → IsSound known a → l.var < a.size → HasNoValue a.lits l → IsExplained known a.lits l reason → IsSound known (extended a l reason)
sound_extended known a l reason sound within none why = record {
  same = omega (arith, sound.same, length_push a.lits l, length_push a.reasons reason);
  apart = apart_more a.lits l sound.apart none;
  within = All-push (λ m. m.var < a.size) a.lits l sound.within within;
  explained = λ place m r em er. elim (push_cases a.lits l place m em) [
    | inl old ↦
        let below = slice_get_within a.lits place m old in
        let front : take place (a.lits ++ l ∷ []) ≡ take place a.lits = take-append-le place a.lits (l ∷ []) (omega arith) in
        let P : List Literal → Type 0 = λ before. IsExplained known before m r in
        elim (push_cases a.reasons reason place r er) [
          | inl old_too ↦ subst P (sym front) (sound.explained place m r old old_too)
          | inr last ↦ absurd (let same = sound.same in let at = last.0 in omega arith)
        ]
    | inr last ↦ elim (push_cases a.reasons reason place r er) [
      | inl old_too ↦ absurd (let below = slice_get_within a.reasons place r old_too in let same = sound.same in let at = last.0 in omega arith)
      | inr last_too ↦
          let at = last.0 in
          let front : take place (a.lits ++ l ∷ []) ≡ a.lits = take-append-le place a.lits (l ∷ []) (omega arith) ∙ take_all place a.lits (omega arith) in
          let P : List Literal → Type 0 = λ before. IsExplained known before m r in
          let Q : Literal → Type 0 = λ m. IsExplained known a.lits m r in
          let R : Reason → Type 0 = λ r. IsExplained known a.lits l r in
          subst P (sym front) (subst Q last.1 (subst R last_too.1 why))
    ]
  ];
}

pub apart_front : (n : ℕ) (lits : List Literal) → AreApart lits → AreApart (take n lits)
apart_front n lits apart p q a b ep eq v = apart p q a b (taken_place n lits p a ep).1 (taken_place n lits q b eq).1 v

-- a front alone
pub sound_cut : (known : List (List Literal)) (a : Assignment) (n : ℕ) → IsSound known a → n ≤ length a.lits → IsSound known (cut_to n a)
sound_cut known a n sound within = record {
  same = let r = sound.same in omega (arith, length-take-le n a.lits within, length-take-le n a.reasons (omega arith));
  apart = apart_front n a.lits sound.apart;
  within = All-take (λ m. m.var < a.size) n a.lits sound.within;
  explained = λ place m r em er.
      let t = taken_place n a.lits place m em in
      let u = taken_place n a.reasons place r er in
      let front : take place (take n a.lits) ≡ take place a.lits = take-take place n a.lits (omega (arith, t.0)) in
      let P : List Literal → Type 0 = λ before. IsExplained known before m r in
      subst P (sym front) (sound.explained place m r t.1 u.1);
}

-- nothing is explained yet
pub sound_start : (known : List (List Literal)) (size : ℕ) → IsSound known (record { size = size; lits = []; reasons = [] })
sound_start known size = record {
  same = refl;
  apart = λ p q a b ep eq v. absurd (cc);
  within = λ k d h. absurd (omega arith);
  explained = λ place l r em er. absurd (cc);
}

-- a front that is all
pub cut_all : (a : Assignment) (n : ℕ) → length a.lits ≤ n → length a.reasons ≤ n → cut_to n a ≡ a
cut_all a n h k = ap₂ (λ (lits : List Literal) (reasons : List Reason). let b : Assignment = record { size = a.size; lits = lits; reasons = reasons } in b) (take_all n a.lits h) (take_all n a.reasons k)

-- a front of a front
pub cut_twice : (a : Assignment) (n m : ℕ) → n ≤ m → m ≤ length a.lits → (cut_to n (cut_to m a) ≡ cut_to n a) × (n ≤ length (cut_to m a).lits)
cut_twice a n m h k = (
  ap₂ (λ (lits : List Literal) (reasons : List Reason). let b : Assignment = record { size = a.size; lits = lits; reasons = reasons } in b) (take-take n m a.lits h) (take-take n m a.reasons h),
  omega (arith, length-take-le m a.lits k),
)
