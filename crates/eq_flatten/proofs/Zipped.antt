-- Two lists side by side, up to a place.
use Rattle.std.proofs.Common.{◌≡◌, ℕ, zero, suc, ◌+◌, ◌<◌, ◌≤◌, List, [], ◌∷◌, ◌++◌, length, take, slice_index_or, arith, sym, ap, subst, ◌∙◌}
use Rattle.std.specs.Prelude.{zip}
use Rattle.std.proofs.lemmas.List.{take_all}

module _ {A B : Type 0} where
  zip_suc : (xs : List A) (ys : List B) (k : ℕ) (x : A) (y d : B) → k < length xs → k < length ys →
      x ≡ slice_index_or xs k x → y ≡ slice_index_or ys k d → take (suc k) (zip xs ys) ≡ take k (zip xs ys) ++ (x, y) ∷ []
  zip_suc [] ys k x y d a b is here = absurd (omega (arith, a))
  zip_suc (p ∷ ps) [] k x y d a b is here = absurd (omega (arith, b))
  zip_suc (p ∷ ps) (q ∷ qs) zero x y d a b is here =
      ap (λ z. (z, q) ∷ []) (sym is) ∙ ap (λ z. (x, z) ∷ []) (sym here)
  zip_suc (p ∷ ps) (q ∷ qs) (suc k) x y d a b is here =
      ap (λ zs. (p, q) ∷ zs) (zip_suc ps qs k x y d (omega (arith, a)) (omega (arith, b)) is here)

  -- one place more
  pub zip_next : (xs : List A) (ys : List B) (k : ℕ) (x : A) (y d : B) → k < length xs → k < length ys →
      x ≡ slice_index_or xs k x → y ≡ slice_index_or ys k d → take (k + 1) (zip xs ys) ≡ take k (zip xs ys) ++ (x, y) ∷ []
  zip_next xs ys k x y d a b is here =
      let next : suc k ≡ k + 1 = omega arith in
      subst (λ j. take j (zip xs ys) ≡ take k (zip xs ys) ++ (x, y) ∷ []) next (zip_suc xs ys k x y d a b is here)

  zip_short : (xs : List A) (ys : List B) → length (zip xs ys) ≤ length xs
  zip_short [] ys = omega arith
  zip_short (x ∷ xs) [] = omega arith
  zip_short (x ∷ xs) (y ∷ ys) = (let h = zip_short xs ys in omega (arith, h))

  -- all places
  pub zip_done : (xs : List A) (ys : List B) (n : ℕ) → length xs ≤ n → take n (zip xs ys) ≡ zip xs ys
  zip_done xs ys n most = (let h = zip_short xs ys in take_all n (zip xs ys) (omega (arith, h, most)))
