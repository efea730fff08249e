-- The first place where a test passes, in a list, in the list of what its elements stand for, and with one more element.
use Rattle.std.proofs.Common.{◌≡◌, ℕ, suc, ◌+◌, ◌<◌, Bool, true, not, ◌||◌, cond, ltb, List, [], ◌∷◌, ◌++◌, map, length, Option, Some, None, refl, sym, ap, subst, ◌∙◌, arith, inl, inr}
use Rattle.std.specs.Prelude.{position}
use Rattle.std.specs.Str.{bytes_eq}
use Rattle.std.specs.List.{list_any, position_or_len}
use Rattle.std.specs.Cmp.Lexicographic.{bytes_decides}
use Rattle.std.proofs.lemmas.Bool.{cases_Bool, cases_lt, false≢true, lt-ltb, le-ltb}
use Rattle.std.proofs.lemmas.List.{length-map, map_push}
use Rattle.eq_names.specs.Tables.{number_of, with_name}

module _ {A : Type 0} (p : A → Bool) where
  -- a list where it passes has a first place
  pub place_within : (xs : List A) → list_any p xs ≡ true → position_or_len p xs < length xs
  place_within [] any = absurd (false≢true any)
  place_within (x ∷ xs) any = elim (cases_Bool (p x)) [
    | inl here ↦ subst (λ (b : Bool). cond (not b) (1 + position_or_len p xs) 0 < suc (length xs)) (sym here)
        (omega arith)
    | inr other ↦
        let later = place_within xs (subst (λ (b : Bool). (b || list_any p xs) ≡ true) other any) in
        subst (λ (b : Bool). cond (not b) (1 + position_or_len p xs) 0 < suc (length xs)) (sym other) (omega arith)
  ]

  pub place_any : (xs : List A) → position_or_len p xs < length xs → list_any p xs ≡ true
  place_any [] within = absurd (omega arith)
  place_any (x ∷ xs) within = elim (cases_Bool (p x)) [
    | inl here ↦ subst (λ (b : Bool). (b || list_any p xs) ≡ true) (sym here) refl
    | inr other ↦
        let later : 1 + position_or_len p xs < suc (length xs) = subst (λ (b : Bool). cond (not b)
        (1 + position_or_len p xs) 0 < suc (length xs)) other within in
        subst (λ (b : Bool). (b || list_any p xs) ≡ true) (sym other) (place_any xs (omega arith))
  ]

  -- one more element where it passes keeps the first place
  pub place_more : (xs : List A) (y : A) → p y ≡ true → (position_or_len p (xs ++ y ∷ []) ≡ position_or_len p xs) ×
      (position_or_len p xs < length (xs ++ y ∷ []))
  place_more [] y passes = (subst (λ (b : Bool). ◌≡◌ {A = ℕ} (cond (not b) 1 0) 0) (sym passes) refl, omega arith)
  place_more (x ∷ xs) y passes =
      let more = place_more xs y passes in
      elim (cases_Bool (p x)) [
        | inl here ↦ (
          subst (λ (b : Bool). ◌≡◌ {A = ℕ} (cond (not b) (1 + position_or_len p (xs ++ y ∷ [])) 0) (cond (not b)
              (1 + position_or_len p xs) 0)) (sym here) refl,
          subst (λ (b : Bool). cond (not b) (1 + position_or_len p xs) 0 < suc (length (xs ++ y ∷ []))) (sym here)
              (omega arith),
        )
        | inr other ↦ (
          subst (λ (b : Bool). ◌≡◌ {A = ℕ} (cond (not b) (1 + position_or_len p (xs ++ y ∷ [])) 0) (cond (not b)
              (1 + position_or_len p xs) 0)) (sym other) (ap (λ (n : ℕ). 1 + n) more.0),
          subst (λ (b : Bool). cond (not b) (1 + position_or_len p xs) 0 < suc (length (xs ++ y ∷ []))) (sym other)
              (omega (arith, more.1)),
        )
      ]

  -- a place is a place within
  pub found_within : (xs : List A) (i : ℕ) → position p xs ≡ Some i → position_or_len p xs < length xs
  found_within xs i found = elim (cases_lt (position_or_len p xs) (length xs)) [
    | inl within ↦ within
    | inr past ↦
        let none : position p xs ≡ None = ap (λ (b : Bool). cond b (Some (position_or_len p xs)) None)
        (le-ltb _ _ past) in
        let both : ◌≡◌ {A = Option ℕ} (Some i) None = sym found ∙ none in
        absurd (cc)
  ]

  pub found : (xs : List A) → position_or_len p xs < length xs → position p xs ≡ Some (position_or_len p xs)
  found xs within = ap (λ (b : Bool). cond b (Some (position_or_len p xs)) None) (lt-ltb _ _ within)

module _ {A : Type 0} (text_of : A → List ℕ) (text : List ℕ) where
  abbrev Test : A → Bool
  Test x = bytes_eq text (text_of x)

  place_map : (xs : List A) → position_or_len Test xs ≡ position_or_len (λ n. bytes_eq text n) (map text_of xs)
  place_map [] = refl
  place_map (x ∷ xs) = ap (λ (n : ℕ). cond (not (bytes_eq text (text_of x))) (1 + n) 0) (place_map xs)

  any_map : (xs : List A) → list_any Test xs ≡ list_any (λ n. bytes_eq text n) (map text_of xs)
  any_map [] = refl
  any_map (x ∷ xs) = ap (λ (b : Bool). bytes_eq text (text_of x) || b) (any_map xs)

  -- a text has the same number in the list of the texts
  pub number_map : (xs : List A) → position Test xs ≡ number_of (map text_of xs) text
  number_map xs =
      let long = length-map xs text_of in
      let place = place_map xs in
      λ i. cond (ltb (place i) (sym long i)) (Some (place i)) None

  -- a name goes behind the others in the list of the texts too
  pub with_map : (xs : List A) (y : A) → text_of y ≡ text → map text_of (cond (list_any Test xs) xs
      (xs ++ y ∷ [])) ≡ with_name (map text_of xs) text
  with_map xs y is = elim (cases_Bool (list_any Test xs)) [
    | inl known ↦ ap (λ (b : Bool). map text_of (cond b xs (xs ++ y ∷ []))) known
        ∙ sym (ap (λ (b : Bool). cond b (map text_of xs) (map text_of xs ++ text ∷ [])) (sym (any_map xs) ∙ known))
    | inr new ↦ ap (λ (b : Bool). map text_of (cond b xs (xs ++ y ∷ []))) new ∙ map_push text_of xs y
        ∙ ap (λ (t : List ℕ). map text_of xs ++ t ∷ []) is
        ∙ sym (ap (λ (b : Bool). cond b (map text_of xs) (map text_of xs ++ text ∷ [])) (sym (any_map xs) ∙ new))
  ]

same_bytes : (text : List ℕ) → bytes_eq text text ≡ true
same_bytes text = (bytes_decides text text).1 refl

-- a name is found among the names with it, at its place in the list before
pub number_with : (names : List (List ℕ)) (name : List ℕ) → number_of (with_name names name) name ≡ Some
    (position_or_len (λ n. bytes_eq name n) names)
number_with names name =
    let P : List ℕ → Bool = λ n. bytes_eq name n in
    elim (cases_Bool (list_any P names)) [
      | inl known ↦ ap (λ (b : Bool). number_of (cond b names (names ++ name ∷ [])) name) known
          ∙ found P names (place_within P names known)
      | inr new ↦
          let more = place_more P names name (same_bytes name) in
          ap (λ (b : Bool). number_of (cond b names (names ++ name ∷ [])) name) new
          ∙ found P (names ++ name ∷ []) (subst (λ (n : ℕ). n < length (names ++ name ∷ [])) (sym more.0) more.1)
          ∙ ap (λ (n : ℕ). Some n) more.0
    ]

-- names with a known name are the same names
pub with_known : (names : List (List ℕ)) (name : List ℕ) (i : ℕ) → number_of names name ≡ Some i →
    with_name names name ≡ names
with_known names name i known =
    let P : List ℕ → Bool = λ n. bytes_eq name n in
    ap (λ (b : Bool). cond b names (names ++ name ∷ [])) (place_any P names (found_within P names i known))

pub number_map_place : {A : Type 0} (text_of : A → List ℕ) (xs : List A) (text : List ℕ) →
    position_or_len (λ x. bytes_eq text (text_of x)) xs ≡ position_or_len (λ n. bytes_eq text n) (map text_of xs)
number_map_place text_of xs text = place_map text_of text xs
