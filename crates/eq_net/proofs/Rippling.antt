-- Operations on numbers bit by bit, from the lowest bit up.
use Rattle.std.proofs.Common.{◌≡◌, ℕ, zero, suc, ◌+◌, ◌-◌, ◌^◌, ◌<◌, ◌≤◌, Bool, true, false, not, nat_lt, nat_le, ◌&&◌, ◌||◌, ◌==◌, cond, min, refl, add-one, arith, sym, ap, subst, ◌∙◌, inl, inr, eq-eqb}
use Rattle.std.proofs.lemmas.Bool.{cases_lt, lt-ltb, lt-leb, le-leb, eqb-true, false_from_ne_true, cases_Bool}
use Rattle.eq_net.specs.Numbers.{Digits, differ, number, digit}
use Rattle.eq_net.specs.Ripples.{carry, less, same, raised, lowered}
use Rattle.eq_net.proofs.Sums.{SameBelow, number_same, number_below, number_none}
use Rattle.eq_net.proofs.Carries.{less_next, minus_by_complement, sum_digit, sum_next}

mux_carry : (a b c : Bool) → ((a && b) || (c && differ a b)) ≡ cond {A = Bool} (differ a b) c a
mux_carry true true true = refl
mux_carry true true false = refl
mux_carry true false true = refl
mux_carry true false false = refl
mux_carry false true true = refl
mux_carry false true false = refl
mux_carry false false true = refl
mux_carry false false false = refl

-- the digits of a sum, by carries
abbrev summed : Bool → Digits → Digits → Digits
summed c a b j = differ (differ (a j) (b j)) (carry c a b j)

total : (c : Bool) (a b : Digits) (n : ℕ) → number n (summed c a b) + cond {A = ℕ} (carry c a b n) (2 ^ n) 0 ≡ (number n a + number n b) + cond {A = ℕ} c 1 0
total c a b zero = ap (λ p. 0 + cond {A = ℕ} c p 0) (let e : 2 ^ zero ≡ 1 = refl in e)
total c a b (suc n) =
    let step : number (n + 1) (summed c a b) + cond {A = ℕ} ((a n && b n) || (carry c a b n && differ (a n) (b n))) (2 ^ (n + 1)) 0 ≡ (number (n + 1) a + number (n + 1) b) + cond {A = ℕ} c 1 0 =
    sum_next n (cond {A = ℕ} c 1 0) (summed c a b) (summed c a b) a b (carry c a b n) (a n) (b n) (differ (a n) (b n)) (differ (a n) (b n)) (summed c a b n)
    (total c a b n) (λ i lt. refl) refl refl refl refl refl refl in
    let P : ℕ → Type 0 = λ m. number m (summed c a b) + cond {A = ℕ} ((a n && b n) || (carry c a b n && differ (a n) (b n))) (2 ^ m) 0 ≡ (number m a + number m b) + cond {A = ℕ} c 1 0 in
    let Q : Bool → Type 0 = λ x. number (suc n) (summed c a b) + cond {A = ℕ} x (2 ^ suc n) 0 ≡ (number (suc n) a + number (suc n) b) + cond {A = ℕ} c 1 0 in
    subst Q (mux_carry (a n) (b n) (carry c a b n)) (subst P (add-one n) step)

pub sums_by_carries : (n j : ℕ) (c : Bool) (a b : Digits) → j < n → differ (differ (a j) (b j)) (carry c a b j) ≡ digit ((number n a + number n b) + cond {A = ℕ} c 1 0) j
sums_by_carries n j c a b lt = sum_digit n j ((number n a + number n b) + cond {A = ℕ} c 1 0) (summed c a b) (carry c a b n) (total c a b n) lt

pub less_from_lowest : (n : ℕ) (a b : Digits) → less a b n ≡ nat_lt (number n a) (number n b)
less_from_lowest zero a b = refl
less_from_lowest (suc n) a b =
    let P : ℕ → Type 0 = λ m. less a b (suc n) ≡ nat_lt (number m a) (number m b) in
    subst P (add-one n) (less_next n a b (less a b n) (a n) (b n) (less a b (suc n)) (less_from_lowest n a b) refl refl refl)

-- ---- equality

eq_test : (x y z w : ℕ) → (x ≡ y → z ≡ w) → (z ≡ w → x ≡ y) → (x == y) ≡ (z == w)
eq_test x y z w to from = elim (cases_Bool (x == y)) [
  | inl e ↦ e ∙ sym (eq-eqb z w (to (eqb-true x y e)))
  | inr e ↦ e ∙ sym (false_from_ne_true (z == w) (λ t. absurd (let f : true ≡ false = sym (eq-eqb x y (from (eqb-true z w t))) ∙ e in cc)))
]

ne_test : (x y : ℕ) → (x ≡ y → ⊥) → (x == y) ≡ false
ne_test x y h = false_from_ne_true (x == y) (λ t. h (eqb-true x y t))

and_false : (x : Bool) → (x && false) ≡ false
and_false true = refl
and_false false = refl

and_true : (x : Bool) → (x && true) ≡ x
and_true true = refl
and_true false = refl

eq_top : (x y p : ℕ) (a b : Bool) → x < p → y < p → ((x == y) && not (differ a b)) ≡ (x + cond {A = ℕ} a p 0 == y + cond {A = ℕ} b p 0)
eq_top x y p true true lx ly = and_true (x == y) ∙ eq_test x y (x + p) (y + p) (λ h. omega arith) (λ h. omega arith)
eq_top x y p false false lx ly = and_true (x == y) ∙ eq_test x y (x + 0) (y + 0) (λ h. omega arith) (λ h. omega arith)
eq_top x y p true false lx ly = and_false (x == y) ∙ sym (ne_test (x + p) (y + 0) (λ h. omega arith))
eq_top x y p false true lx ly = and_false (x == y) ∙ sym (ne_test (x + 0) (y + p) (λ h. omega arith))

pub same_from_lowest : (n : ℕ) (a b : Digits) → same a b n ≡ (number n a == number n b)
same_from_lowest zero a b = refl
same_from_lowest (suc n) a b =
    ap (λ x. x && not (differ (a n) (b n))) (same_from_lowest n a b) ∙ eq_top (number n a) (number n b) (2 ^ n) (a n) (b n) (number_below n a) (number_below n b)

-- ---- shifts

false_and : (t x : Bool) → t ≡ false → (t && x) ≡ false
false_and true x e = absurd (cc)
false_and false x e = refl

raised_low : (k j : ℕ) (a : Digits) → j < k → raised k a j ≡ false
raised_low k j a lt = false_and (nat_le k j) (a (j - k)) (lt-leb k j lt)

raised_high : (k j : ℕ) (a : Digits) → k ≤ j → raised k a j ≡ a (j - k)
raised_high k j a le = ap (λ t. t && a (j - k)) (le-leb k j le)

-- raised twice
pub raised_twice : (m k d j : ℕ) (a : Digits) → j < m → raised (min m d) (raised (min m k) a) j ≡ raised (min m (k + d)) a j
raised_twice m k d j a lt = elim (cases_lt j (min m d)) [
  | inl less ↦ raised_low (min m d) j (raised (min m k) a) less ∙ sym (raised_low (min m (k + d)) j a (omega arith))
  | inr more ↦ raised_high (min m d) j (raised (min m k) a) more ∙ (elim (cases_lt (j - min m d) (min m k)) [
    | inl low ↦ raised_low (min m k) (j - min m d) a low ∙ sym (raised_low (min m (k + d)) j a (omega arith))
    | inr high ↦ (
        let e : (j - min m d) - min m k ≡ j - min m (k + d) = omega arith in
        raised_high (min m k) (j - min m d) a high ∙ ap a e ∙ sym (raised_high (min m (k + d)) j a (omega arith)))
  ])
]

lowered_out : (m k j : ℕ) (a : Digits) → m - k ≤ j → lowered m k a j ≡ false
lowered_out m k j a le = false_and (nat_lt j (m - k)) (a (k + j)) (lt-leb (suc j) (m - k) (omega arith))

lowered_in : (m k j : ℕ) (a : Digits) → j < m - k → lowered m k a j ≡ a (k + j)
lowered_in m k j a lt = ap (λ t. t && a (k + j)) (lt-ltb j (m - k) lt)

pub lowered_twice : (m k d j : ℕ) (a : Digits) → lowered m (min m d) (lowered m (min m k) a) j ≡ lowered m (min m (k + d)) a j
lowered_twice m k d j a = elim (cases_lt j (m - min m d)) [
  | inl there ↦ lowered_in m (min m d) j (lowered m (min m k) a) there ∙ (elim (cases_lt (min m d + j) (m - min m k)) [
    | inl near ↦ (
        let e : min m k + (min m d + j) ≡ min m (k + d) + j = omega arith in
        lowered_in m (min m k) (min m d + j) a near ∙ ap a e ∙ sym (lowered_in m (min m (k + d)) j a (omega arith)))
    | inr far ↦ lowered_out m (min m k) (min m d + j) a far ∙ sym (lowered_out m (min m (k + d)) j a (omega arith))
  ])
  | inr gone ↦ lowered_out m (min m d) j (lowered m (min m k) a) gone ∙ sym (lowered_out m (min m (k + d)) j a (omega arith))
]

-- a negative by the complement
pub negative_by_complement : (n : ℕ) (z a : Digits) → SameBelow n z (λ i. false) → (number n z + number n (λ i. not (a i))) + 1 ≡ 2 ^ n - number n a
negative_by_complement n z a none =
    let e : number n z ≡ 0 = number_same n z (λ i. false) none ∙ number_none n in
    let h = minus_by_complement n z a in
    omega arith
