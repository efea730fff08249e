-- Lists in places, for the laws and for what is written.
use Rattle.std.proofs.Common.{◌≡◌, ℕ, ◌<◌, zero, suc, ◌⊎◌, List, [], ◌∷◌, ◌++◌, length, map, Some, slice_get, arith, refl, sym, ap, subst, inl, inr}
use Rattle.std.specs.Prelude.{All, replicate, slice_index_or, slice_set}
use Rattle.std.proofs.lemmas.Option.{get_or_from_slice_get, slice_get_within}

-- what stands at a place of a list that was mapped
pub map_at : {X Y : Type 0} (f : X → Y) (xs : List X) (i : ℕ) (y : Y) → slice_get (map f xs) i ≡ Some y →
    (x : X) × (slice_get xs i ≡ Some x) × (y ≡ f x)
map_at f [] i y e = absurd (cc e)
map_at f (x ∷ xs) zero y e = (x, refl, cc)
map_at f (x ∷ xs) (suc i) y e = map_at f xs i y e

-- what holds of each element holds of one at its place
pub all_at : {X : Type 0} (P : X → Type 0) (xs : List X) (i : ℕ) (x : X) → All P xs → slice_get xs i ≡ Some x → P x
all_at P xs i x all e =
    subst P (get_or_from_slice_get xs i x x e) (all i x (slice_get_within xs i x e))

-- an element of a list with one more at its end
pub at_end : {X : Type 0} (xs : List X) (y : X) (i : ℕ) (x : X) → slice_get (xs ++ y ∷ []) i ≡ Some x →
    (slice_get xs i ≡ Some x) ⊎ ((i ≡ length xs) × (x ≡ y))
at_end [] y zero x e = inr (refl, cc)
at_end [] y (suc i) x e = absurd (cc e)
at_end (z ∷ xs) y zero x e = inl e
at_end (z ∷ xs) y (suc i) x e = elim (at_end xs y i x e) [
  | inl before ↦ inl before
  | inr last ↦ inr (ap suc last.0, last.1)
]

-- what holds of each element at its place, and of one more
pub more_at : {X : Type 0} (P : ℕ → X → Type 0) (xs : List X) (y : X) →
    ((i : ℕ) (x : X) → slice_get xs i ≡ Some x → P i x) → P (length xs) y →
    (i : ℕ) (x : X) → slice_get (xs ++ y ∷ []) i ≡ Some x → P i x
more_at {X} P xs y all last i x e = elim (at_end xs y i x e) [
  | inl before ↦ all i x before
  | inr new ↦ subst (λ (n : ℕ). P n x) (sym new.0) (subst (λ (z : X). P (length xs) z) (sym new.1) last)
]

-- there is nothing in an empty list
pub none_at : {X : Type 0} (xs : List X) (i : ℕ) (x : X) → xs ≡ [] → slice_get xs i ≡ Some x → ⊥
none_at [] i x empty e = absurd (cc e)
none_at (y ∷ xs) i x empty e = absurd (cc empty)

pub get_front : {X : Type 0} (xs ys : List X) (i : ℕ) (x : X) → slice_get xs i ≡ Some x → slice_get (xs ++ ys) i ≡ Some x
get_front [] ys i x e = absurd (cc e)
get_front (z ∷ xs) ys zero x e = e
get_front (z ∷ xs) ys (suc i) x e = get_front xs ys i x e

pub get_end : {X : Type 0} (xs : List X) (y : X) → slice_get (xs ++ y ∷ []) (length xs) ≡ Some y
get_end [] y = refl
get_end (z ∷ xs) y = get_end xs y

pub set_same : {X : Type 0} (xs : List X) (i : ℕ) (y : X) → i < length xs → slice_get (slice_set xs i y) i ≡ Some y
set_same [] i y h = absurd (omega arith)
set_same (x ∷ xs) zero y h = refl
set_same (x ∷ xs) (suc i) y h = set_same xs i y (omega arith)

pub set_other : {X : Type 0} (xs : List X) (i j : ℕ) (y : X) → (i ≡ j → ⊥) → slice_get (slice_set xs i y) j ≡ slice_get xs j
set_other [] i j y h = refl
set_other (x ∷ xs) zero zero y h = absurd (h refl)
set_other (x ∷ xs) zero (suc j) y h = refl
set_other (x ∷ xs) (suc i) zero y h = refl
set_other (x ∷ xs) (suc i) (suc j) y h = set_other xs i j y (λ e. h (ap suc e))

pub length-set : {X : Type 0} (xs : List X) (i : ℕ) (y : X) → length (slice_set xs i y) ≡ length xs
length-set [] i y = refl
length-set (x ∷ xs) zero y = refl
length-set (x ∷ xs) (suc i) y = ap suc (length-set xs i y)

pub replicate_at : {X : Type 0} (n : ℕ) (y : X) (i : ℕ) (x : X) → slice_get (replicate n y) i ≡ Some x → x ≡ y
replicate_at zero y i x e = absurd (cc e)
replicate_at (suc n) y zero x e = cc
replicate_at (suc n) y (suc i) x e = replicate_at n y i x e

pub All-none : {X : Type 0} (P : X → Type 0) (xs : List X) → xs ≡ [] → All P xs
All-none P [] e = λ k d less. absurd (omega arith)
All-none P (x ∷ xs) e = absurd (cc e)

pub at_index : {X : Type 0} (xs : List X) (k : ℕ) (d : X) → k < length xs → slice_get xs k ≡ Some (slice_index_or xs k d)
at_index [] k d h = absurd (omega arith)
at_index (x ∷ xs) zero d h = refl
at_index (x ∷ xs) (suc k) d h = at_index xs k d (omega arith)
