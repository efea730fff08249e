-- Sums over lists that are made from lists.
use Rattle.std.proofs.Common.{◌≡◌, ℕ, suc, ◌+◌, List, [], ◌∷◌, length, map, slice_get, Option, Some, None, refl, arith}
use Rattle.std.specs.Prelude.{filter_map, sum_by, zip}
use Rattle.std.specs.List.{cons_option}
use Rattle.std.proofs.lemmas.List.Sums.{sum_by-cons}
use Rattle.eq_net.specs.Meaning.{if_there}

-- one more of each
pub sum_more : {A B : Type 0} (f : A → ℕ) (g : B → ℕ) (a : A) (b : B) (xs : List A) (ys : List B) → f a ≡ g b →
    sum_by f xs ≡ sum_by g ys → sum_by f (a ∷ xs) ≡ sum_by g (b ∷ ys)
sum_more f g a b xs ys one more =
    (let p = sum_by-cons f a xs in let q = sum_by-cons g b ys in omega (arith, one, more, p, q))

-- of one more, where there is one
pub sum_option : {A : Type 0} (f : A → ℕ) (o : Option A) (xs : List A) →
    sum_by f (cons_option o xs) ≡ if_there 0 f o + sum_by f xs
sum_option f None xs = omega arith
sum_option f (Some x) xs = sum_by-cons f x xs

-- of what there is of each
pub sum_kept : {A B : Type 0} (g : B → ℕ) (f : A → Option B) (xs : List A) →
    sum_by g (filter_map f xs) ≡ sum_by (λ x. if_there 0 g (f x)) xs
sum_kept g f [] = refl
sum_kept g f (x ∷ xs) =
    (let p = sum_option g (f x) (filter_map f xs) in
    let q = sum_by-cons (λ y. if_there 0 g (f y)) x xs in
    let r = sum_kept g f xs in
    omega (arith, p, q, r))

-- pairs of two lists, where each pair has what is made of its first
pub sum_pairs : {A B C : Type 0} (g : A × B → ℕ) (f : C → ℕ) (of : A → C) (xs : List A) (ys : List B) →
    length ys ≡ length xs →
    ((k : ℕ) (z : A × B) → slice_get (zip xs ys) k ≡ Some z → g z ≡ f (of z.0)) →
    sum_by g (zip xs ys) ≡ sum_by f (map of xs)
sum_pairs g f of [] ys same h = refl
sum_pairs g f of (x ∷ xs) [] same h = absurd (omega (arith, same))
sum_pairs g f of (x ∷ xs) (y ∷ ys) same h =
    sum_more g f (x, y) (of x) (zip xs ys) (map of xs) (h 0 (x, y) refl)
    (sum_pairs g f of xs ys (omega (arith, same)) (λ k z i. h (suc k) z i))
