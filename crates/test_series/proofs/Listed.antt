-- Tests of lists of values of numbers, and of all numbers below one.
use Rattle.std.proofs.Common.{◌≡◌, ℕ, zero, suc, ◌+◌, ◌<◌, ◌≤◌, List, [], ◌∷◌, ◌++◌, Bool, true, false, not, ◌&&◌, cond, nat_lt, length, length-append, slice_index_or, refl, arith, ap, subst, ◌∙◌, inl, inr}
use Rattle.std.proofs.lemmas.Bool.{cases_lt, le-ltb, lt-ltb}
use Rattle.std.proofs.lemmas.List.{get_or_append_left, get_or_push}
use Rattle.eq_net.specs.Decided.{apart, below, every}
use Rattle.test_series.specs.Lists.{listed}

pub both : {x y : Bool} → x ≡ true → y ≡ true → (x && y) ≡ true
both {x} {y} e f = ap (λ (t : Bool). t && y) e ∙ f

pub left_holds : (x y : Bool) → (x && y) ≡ true → x ≡ true
left_holds true y e = refl
left_holds false y e = e

pub right_holds : (x y : Bool) → (x && y) ≡ true → y ≡ true
right_holds true y e = e
right_holds false y e = absurd (cc)

pub listed_length : {A : Type 0} (f : ℕ → A) (n : ℕ) → length (listed f n) ≡ n
listed_length f zero = refl
listed_length f (suc n) = rw (length-append (listed f n) (f n ∷ [])) (omega (arith, listed_length f n))

pub listed_at : {A : Type 0} (f : ℕ → A) (n i : ℕ) (d : A) → i < n → slice_index_or (listed f n) i d ≡ f i
listed_at f zero i d lt = absurd (omega arith)
listed_at f (suc n) i d lt = elim (cases_lt i n) [
  | inl less ↦ get_or_append_left (listed f n) (f n ∷ []) d i (omega (arith, listed_length f n))
      ∙ listed_at f n i d less
  | inr more ↦ (
      let same : n ≡ i = omega arith in
      let P : ℕ → Type 0 = λ k. slice_index_or (listed f n ++ f n ∷ []) k d ≡ f k in
      subst P same (get_or_push (listed f n) (f n) d n (listed_length f n)))
]

pub guarded : (t x y : Bool) → (x ≡ true → y ≡ true) → (t && x) ≡ true → (t && y) ≡ true
guarded true x y h e = h e
guarded false x y h e = e

every_push : {A : Type 0} (p : A → Bool) (xs : List A) (y : A) → every p xs ≡ true → p y ≡ true →
    every p (xs ++ y ∷ []) ≡ true
every_push p [] y e f = both f refl
every_push p (x ∷ xs) y e f = guarded (p x) (every p xs) (every p (xs ++ y ∷ [])) (λ g. every_push p xs y g f) e

pub every_append : {A : Type 0} (p : A → Bool) (xs ys : List A) → every p xs ≡ true → every p ys ≡ true →
    every p (xs ++ ys) ≡ true
every_append p [] ys e f = f
every_append p (x ∷ xs) ys e f = guarded (p x) (every p xs) (every p (xs ++ ys)) (λ g. every_append p xs ys g f) e

pub every_listed : {A : Type 0} (p : A → Bool) (f : ℕ → A) (n : ℕ) → ((i : ℕ) → i < n → p (f i) ≡ true) →
    every p (listed f n) ≡ true
every_listed p f zero h = refl
every_listed p f (suc n) h =
    every_push p (listed f n) (f n) (every_listed p f n (λ i lt. h i (omega arith))) (h n (omega arith))

pub all_below : (p : ℕ → Bool) (n : ℕ) → ((i : ℕ) → i < n → p i ≡ true) → below p n ≡ true
all_below p zero h = refl
all_below p (suc n) h = both (all_below p n (λ i lt. h i (omega arith))) (h n (omega arith))

apart_push : {A : Type 0} (same : A → A → Bool) (xs : List A) (y : A) → apart same xs ≡ true →
    every (λ x. not (same x y)) xs ≡ true → apart same (xs ++ y ∷ []) ≡ true
apart_push same [] y e f = refl
apart_push same (x ∷ xs) y e f =
    let others = every (λ z. not (same x z)) xs in
    let behind = every (λ z. not (same z y)) xs in
    both (every_push (λ z. not (same x z)) xs y (left_holds others (apart same xs) e)
    (left_holds (not (same x y)) behind f))
    (apart_push same xs y (right_holds others (apart same xs) e) (right_holds (not (same x y)) behind f))

pub apart_listed : {A : Type 0} (same : A → A → Bool) (f : ℕ → A) (n : ℕ) →
    ((i j : ℕ) → i < j → j < n → same (f i) (f j) ≡ false) → apart same (listed f n) ≡ true
apart_listed same f zero h = refl
apart_listed same f (suc n) h =
    apart_push same (listed f n) (f n) (apart_listed same f n (λ i j less lt. h i j less (omega arith)))
    (every_listed (λ x. not (same x (f n))) f n (λ i lt. ap not (h i n lt (omega arith))))

-- what a test on the order of numbers chooses
pub low : {A : Type 0} (x y : A) (b n : ℕ) → b < n → cond {A = A} (nat_lt b n) x y ≡ x
low {A} x y b n lt = ap (λ (t : Bool). cond {A = A} t x y) (lt-ltb b n lt)

pub high : {A : Type 0} (x y : A) (b n : ℕ) → n ≤ b → cond {A = A} (nat_lt b n) x y ≡ y
high {A} x y b n le = ap (λ (t : Bool). cond {A = A} t x y) (le-ltb b n le)
