-- The names of a table are distinct: each is found at its place.
use Rattle.std.proofs.Common.{◌≡◌, ℕ, zero, suc, ◌+◌, ◌<◌, ◌≤◌, Bool, false, not, cond, List, [], ◌∷◌, ◌++◌, length, Option, Some, refl, sym, ap, subst, ◌∙◌, arith, inl, inr, length-append}
use Rattle.std.specs.Prelude.{slice_get}
use Rattle.std.specs.Str.{bytes_eq}
use Rattle.std.specs.List.{list_any, position_or_len}
use Rattle.std.proofs.lemmas.Bool.{cases_Bool, cases_lt, true≢false}
use Rattle.std.proofs.lemmas.Option.{slice_get_within}
use Rattle.eq_names.specs.Tables.{number_of, with_name, AreDistinct}
use Rattle.eq_names.proofs.Places.{place_any, found, found_within, number_with}

at_front : (xs ys : List (List ℕ)) (i : ℕ) → i < length xs → slice_get (xs ++ ys) i ≡ slice_get xs i
at_front [] ys i h = absurd (omega arith)
at_front (x ∷ xs) ys zero h = refl
at_front (x ∷ xs) ys (suc i) h = at_front xs ys i (omega arith)

at_end : (xs : List (List ℕ)) (y : List ℕ) → slice_get (xs ++ y ∷ []) (length xs) ≡ Some y
at_end [] y = refl
at_end (x ∷ xs) y = at_end xs y

module _ (p : List ℕ → Bool) where
  place_front : (xs ys : List (List ℕ)) → position_or_len p xs < length xs →
      (position_or_len p (xs ++ ys) ≡ position_or_len p xs) × (position_or_len p (xs ++ ys) < length (xs ++ ys))
  place_front [] ys h = absurd (omega arith)
  place_front (x ∷ xs) ys h = elim (cases_Bool (p x)) [
    | inl here ↦ (
      subst (λ (b : Bool). ◌≡◌ {A = ℕ} (cond (not b) (1 + position_or_len p (xs ++ ys)) 0) (cond
          (not b) (1 + position_or_len p xs) 0)) (sym here) refl,
      subst (λ (b : Bool). cond (not b) (1 + position_or_len p (xs ++ ys)) 0 < suc (length (xs ++ ys)))
          (sym here) (omega arith),
    )
    | inr other ↦
        let later : 1 + position_or_len p xs < suc (length xs) = subst (λ (b : Bool). cond (not b)
        (1 + position_or_len p xs) 0 < suc (length xs)) other h in
        let rest = place_front xs ys (omega arith) in (
          subst (λ (b : Bool). ◌≡◌ {A = ℕ} (cond (not b) (1 + position_or_len p (xs ++ ys)) 0) (cond (not b)
              (1 + position_or_len p xs) 0)) (sym other) (ap (λ (n : ℕ). 1 + n) rest.0),
          subst (λ (b : Bool). cond (not b) (1 + position_or_len p (xs ++ ys)) 0 < suc (length (xs ++ ys)))
              (sym other) (omega (arith, rest.1)),
        )
  ]

  place_le : (xs : List (List ℕ)) → position_or_len p xs ≤ length xs
  place_le [] = omega arith
  place_le (x ∷ xs) =
      let rest = place_le xs in
      elim (cases_Bool (p x)) [
        | inl here ↦ subst (λ (b : Bool). cond (not b) (1 + position_or_len p xs) 0 ≤ suc (length xs)) (sym here)
            (omega arith)
        | inr other ↦ subst (λ (b : Bool). cond (not b) (1 + position_or_len p xs) 0 ≤ suc (length xs)) (sym other)
            (omega arith)
      ]

pub none_distinct : AreDistinct []
none_distinct i name e = absurd (cc)

new_distinct : (names : List (List ℕ)) (name : List ℕ) → list_any (λ n. bytes_eq name n) names ≡ false →
    AreDistinct names → AreDistinct (names ++ name ∷ [])
new_distinct names name new d i other e =
    elim (cases_lt i (length names)) [
      | inl below ↦
          let p : List ℕ → Bool = λ n. bytes_eq other n in
          let here : number_of names other ≡ Some i = d i other (sym (at_front names (name ∷ []) i below) ∙ e) in
          let within = found_within p names i here in
          let front = place_front p names (name ∷ []) within in
          found p (names ++ name ∷ []) front.1 ∙ ap (λ (n : ℕ). Some n) front.0 ∙ sym (found p names within) ∙ here
      | inr above ↦
          let p : List ℕ → Bool = λ n. bytes_eq name n in
          let within = slice_get_within (names ++ name ∷ []) i other e in
          let last : i ≡ length names = omega (arith, within, above, length-append names (name ∷ [])) in
          let both : ◌≡◌ {A = Option (List ℕ)} (Some other) (Some name) = sym e
          ∙ ap (λ (k : ℕ). slice_get (names ++ name ∷ []) k) last ∙ at_end names name in
          let same : other ≡ name = cc in
          let place : position_or_len p names ≡ length names = elim (cases_lt (position_or_len p names)
          (length names)) [
            | inl inner ↦ absurd (true≢false (sym (place_any p names inner) ∙ new))
            | inr past ↦ omega (arith, past, place_le p names)
          ] in
          let there : number_of (names ++ name ∷ []) name ≡ Some (position_or_len p names) =
          sym (ap (λ (b : Bool). number_of (cond b names (names ++ name ∷ [])) name) new) ∙ number_with names name in
          ap (λ (t : List ℕ). number_of (names ++ name ∷ []) t) same ∙ there ∙ ap (λ (n : ℕ). Some n) (place ∙ sym last)
    ]

-- names stay distinct with one more
pub distinct_with : (names : List (List ℕ)) (name : List ℕ) → AreDistinct names → AreDistinct (with_name names name)
distinct_with names name d = elim (cases_Bool (list_any (λ n. bytes_eq name n) names)) [
  | inl known ↦ subst (λ (b : Bool). AreDistinct (cond b names (names ++ name ∷ []))) (sym known) d
  | inr new ↦ subst (λ (b : Bool). AreDistinct (cond b names (names ++ name ∷ []))) (sym new)
      (new_distinct names name new d)
]
