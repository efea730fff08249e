-- Which words have the form of a step.
use Rattle.std.proofs.Common.{◌≡◌, ℕ, List, [], ◌∷◌, ◌++◌, map, get_or, ap, arith}
use Rattle.std.specs.Prelude.{codes}
use Rattle.eq_proof.specs.Literal.{Literal}
use Rattle.eq_wit.specs.Line.{HasForm, Word, number}
use Rattle.eq_wit.specs.Texts.{literal_field}

unequal : (a b : ℕ) (xs ys : List ℕ) → a ∷ xs ≡ b ∷ ys → a ≡ b
unequal a b xs ys e = ap (λ (zs : List ℕ). get_or zs 0 0) e

one_is_zero : codes "1" ≡ codes "0" → ⊥
one_is_zero e = let same : ◌≡◌ {A = ℕ} 49 48 = unequal 49 48 [] [] e in omega arith

d_is_zero : codes "d" ≡ codes "0" → ⊥
d_is_zero e = let same : ◌≡◌ {A = ℕ} 100 48 = unequal 100 48 [] [] e in omega arith

pub no_deletion : (clause : List Literal) (ants : List ℕ) →
    HasForm (map literal_field clause ++ Word (codes "0") ∷ (map number ants ++ Word (codes "0") ∷ []))
    (codes "d" ∷ codes "1" ∷ codes "0" ∷ []) → ⊥
no_deletion [] ants h = d_is_zero h.0
no_deletion (l ∷ []) ants h = one_is_zero h.1.0
no_deletion (l ∷ m ∷ []) [] h = h.1.1.1
no_deletion (l ∷ m ∷ []) (n ∷ ants) h = h.1.1.1
no_deletion (l ∷ m ∷ k ∷ []) ants h = h.1.1.1
no_deletion (l ∷ m ∷ k ∷ j ∷ clause) ants h = h.1.1.1

pub no_open_end : (clause : List Literal) (ants : List ℕ) →
    HasForm (map literal_field clause ++ Word (codes "0") ∷ (map number ants ++ Word (codes "0") ∷ []))
    (codes "0" ∷ codes "1" ∷ []) → ⊥
no_open_end [] [] h = one_is_zero h.1.0
no_open_end [] (n ∷ []) h = h.1.1
no_open_end [] (n ∷ m ∷ ants) h = h.1.1
no_open_end (l ∷ []) ants h = one_is_zero h.1.0
no_open_end (l ∷ m ∷ []) ants h = h.1.1
no_open_end (l ∷ m ∷ k ∷ clause) ants h = h.1.1
