-- Elements at places: after a push, in a front, members.
use Rattle.std.proofs.Common.{◌≡◌, ℕ, ◌+◌, ◌-◌, ◌<◌, suc, zero, ◌⊎◌, inl, inr, List, [], ◌∷◌, ◌++◌, length, take, slice_get, Some, arith, refl, sym, ap, ◌∙◌}
use Rattle.std.specs.Prelude.{Contains}
use Rattle.std.proofs.lemmas.Option.{slice_get_within, get_or_from_slice_get, slice_get-get_or, same_Some}
use Rattle.eq_proof.specs.Literal.{Literal}
use Rattle.eq_proof.specs.Derivation.{HasNumber}

pub member_place : {X : Type 0} (xs : List X) (x : X) → Contains xs x → (place : ℕ) × (slice_get xs place ≡ Some x)
member_place xs x h = (h.0, slice_get-get_or xs h.0 x h.1 ∙ ap Some h.2)

pub place_member : {X : Type 0} (xs : List X) (place : ℕ) (x : X) → slice_get xs place ≡ Some x → Contains xs x
place_member xs place x is = (place, slice_get_within xs place x is, get_or_from_slice_get xs place x x is)

-- a place of a list with one element more
pub push_cases : {X : Type 0} (xs : List X) (y : X) (place : ℕ) (x : X) → slice_get (xs ++ y ∷ []) place ≡ Some x → (slice_get xs place ≡ Some x) ⊎ ((place ≡ length xs) × (y ≡ x))
push_cases [] y zero x e = inr (refl, same_Some y x e)
push_cases [] y (suc k) x e = absurd (cc)
push_cases (z ∷ xs) y zero x e = inl e
push_cases (z ∷ xs) y (suc k) x e = elim (push_cases xs y k x e) [ inl h ↦ inl h | inr h ↦ inr (omega (arith, h.0), h.1) ]

pub push_old : {X : Type 0} (xs ys : List X) (place : ℕ) (x : X) → slice_get xs place ≡ Some x → slice_get (xs ++ ys) place ≡ Some x
push_old [] ys k x e = absurd (cc)
push_old (y ∷ xs) ys zero x e = e
push_old (y ∷ xs) ys (suc k) x e = push_old xs ys k x e

pub push_last : {X : Type 0} (xs : List X) (y : X) → slice_get (xs ++ y ∷ []) (length xs) ≡ Some y
push_last [] y = refl
push_last (x ∷ xs) y = push_last xs y

-- a place of a front
pub taken_place : {X : Type 0} (n : ℕ) (xs : List X) (place : ℕ) (x : X) → slice_get (take n xs) place ≡ Some x → (place < n) × (slice_get xs place ≡ Some x)
taken_place zero xs k x e = absurd (cc)
taken_place (suc n) [] k x e = absurd (cc)
taken_place (suc n) (y ∷ xs) zero x e = (omega arith, e)
taken_place (suc n) (y ∷ xs) (suc k) x e = let h = taken_place n xs k x e in (omega (arith, h.0), h.1)

pub place_taken : {X : Type 0} (n : ℕ) (xs : List X) (place : ℕ) (x : X) → place < n → slice_get xs place ≡ Some x → slice_get (take n xs) place ≡ Some x
place_taken zero xs k x h e = absurd (omega arith)
place_taken (suc n) [] k x h e = absurd (cc)
place_taken (suc n) (y ∷ xs) zero x h e = e
place_taken (suc n) (y ∷ xs) (suc k) x h e = place_taken n xs k x (omega arith) e

-- a member of a front has a place there
pub taken_member : {X : Type 0} (n : ℕ) (xs : List X) (x : X) → Contains (take n xs) x → (place : ℕ) × (place < n) × (slice_get xs place ≡ Some x)
taken_member n xs x h = let at = member_place (take n xs) x h in let t = taken_place n xs at.0 x at.1 in (at.0, t.0, t.1)

pub member_taken : {X : Type 0} (n : ℕ) (xs : List X) (place : ℕ) (x : X) → place < n → slice_get xs place ≡ Some x → Contains (take n xs) x
member_taken n xs place x h e = place_member (take n xs) place x (place_taken n xs place x h e)

-- one element twice at a place
pub same_place : {X : Type 0} (xs : List X) (place : ℕ) (x y : X) → slice_get xs place ≡ Some x → slice_get xs place ≡ Some y → x ≡ y
same_place xs place x y e f = same_Some x y (sym e ∙ f)

pub element_at : {X : Type 0} (xs : List X) (k : ℕ) → k < length xs → (x : X) × (slice_get xs k ≡ Some x)
element_at [] k h = absurd (omega arith)
element_at (x ∷ xs) zero h = (x, refl)
element_at (x ∷ xs) (suc k) h = element_at xs k (omega arith)

-- the clause at a place has the next number
pub number_at : (known : List (List Literal)) (place : ℕ) (clause : List Literal) → slice_get known place ≡ Some clause → HasNumber known (place + 1) clause
number_at known place clause at = (omega arith, (let e : place + 1 - 1 ≡ place = omega arith in ap (λ n. slice_get known n) e ∙ at))
