-- Two lists whose elements correspond one by one.
use Rattle.std.proofs.Common.{◌≡◌, ℕ, suc, Bool, List, [], ◌∷◌, ◌++◌, map, slice_get, Some, refl, arith, ap₂, subst, inl, inr}
use Rattle.std.specs.Prelude.{Contains, count_by, zip}
use Rattle.std.proofs.lemmas.List.Elements.{Contains-append_cases, Contains-append_right}
use Rattle.eq_flatten.proofs.Equated.{count_append, count_one}
use Rattle.eq_flatten.proofs.Listing.{only}

-- what holds of each element
module _ {A : Type 0} (P : A → Type 0) where
  abbrev pub Each : List A → Type 0
  Each [] = Unit {0}
  Each (x ∷ xs) = P x × Each xs

module _ {A B : Type 0} (R : A → B → Type 0) where
  abbrev pub Matched : List A → List B → Type 0
  Matched [] [] = Unit {0}
  Matched (x ∷ xs) (y ∷ ys) = R x y × Matched xs ys
  Matched _ _ = ⊥

  pub matched_append : (xs us : List A) (ys vs : List B) → Matched xs ys → Matched us vs → Matched (xs ++ us) (ys ++ vs)
  matched_append [] us [] vs p q = q
  matched_append (x ∷ xs) us (y ∷ ys) vs p q = (p.0, matched_append xs us ys vs p.1 q)
  matched_append [] us (y ∷ ys) vs p q = absurd p
  matched_append (x ∷ xs) us [] vs p q = absurd p

  -- what f and g say of corresponding elements is the same
  pub matched_map : {C : Type 0} (f : A → C) (g : B → C) → ((x : A) (y : B) → R x y → f x ≡ g y) →
      (xs : List A) (ys : List B) → Matched xs ys → map f xs ≡ map g ys
  matched_map f g same [] [] h = refl
  matched_map f g same (x ∷ xs) (y ∷ ys) h = ap₂ (λ z zs. z ∷ zs) (same x y h.0) (matched_map f g same xs ys h.1)
  matched_map f g same [] (y ∷ ys) h = absurd h
  matched_map f g same (x ∷ xs) [] h = absurd h

  -- so as many pass
  pub matched_count : (f : A → Bool) (g : B → Bool) → ((x : A) (y : B) → R x y → f x ≡ g y) →
      (xs : List A) (ys : List B) → Matched xs ys → count_by f xs ≡ count_by g ys
  matched_count f g same [] [] h = refl
  matched_count f g same (x ∷ xs) (y ∷ ys) h =
      let a = count_append f (x ∷ []) xs in
      let b = count_append g (y ∷ []) ys in
      let c = count_one f x (g y) (same x y h.0) in
      let d = count_one g y (g y) refl in
      let rest = matched_count f g same xs ys h.1 in
      omega (arith, a, b, c, d, rest)
  matched_count f g same [] (y ∷ ys) h = absurd h
  matched_count f g same (x ∷ xs) [] h = absurd h

  -- the element that corresponds to one
  pub matched_one : (xs : List A) (ys : List B) → Matched xs ys → (x : A) → Contains xs x →
      (y : B) × (Contains ys y × R x y)
  matched_one [] [] h x has = absurd (let e = has.1 in omega (arith, e))
  matched_one (z ∷ xs) (y ∷ ys) h x has = elim (Contains-append_cases (z ∷ []) xs x has) [
    | inl here ↦ (y, ((0, omega arith, refl), subst (λ w. R w y) (only z x here.0 here.1 here.2) h.0))
    | inr there ↦
        let g = matched_one xs ys h.1 x there in
        (g.0, (Contains-append_right (y ∷ []) ys g.0 g.1.0, g.1.1))
  ]
  matched_one [] (y ∷ ys) h x has = absurd h
  matched_one (z ∷ xs) [] h x has = absurd h

-- what holds of each pair, by places
pub each_pair : {A B : Type 0} (P : A × B → Type 0) (xs : List A) (ys : List B) →
    ((k : ℕ) (x : A × B) → slice_get (zip xs ys) k ≡ Some x → P x) → Each P (zip xs ys)
each_pair P [] ys h = tt
each_pair P (x ∷ xs) [] h = tt
each_pair P (x ∷ xs) (y ∷ ys) h = (h 0 (x, y) refl, each_pair P xs ys (λ k z i. h (suc k) z i))
