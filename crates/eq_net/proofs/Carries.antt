-- Sums, differences, negatives and comparisons by their digits: what one more digit does.
use Rattle.std.proofs.Common.{◌≡◌, ℕ, zero, suc, ◌+◌, ◌-◌, ◌*◌, ◌^◌, ◌<◌, Bool, true, false, not, nat_lt, ◌&&◌, ◌||◌, cond, add-one, arith, sym, ap, subst, ◌∙◌, inl, inr}
use Rattle.std.proofs.Math.Nat.{pow-suc, pow-zero}
use Rattle.std.proofs.lemmas.Bool.{cases_lt, lt-ltb, lt-leb}
use Rattle.eq_net.specs.Numbers.{Digits, differ, number, digit}
use Rattle.eq_net.proofs.Sums.{SameBelow, number_same, number_below}
use Rattle.eq_net.proofs.Wholes.{digit_number}

full_adder : (p : ℕ) (a b c : Bool) → cond {A = ℕ} (differ (differ a b) c) p 0 + cond {A = ℕ} ((a && b) || (c && differ a b)) (p * 2) 0 ≡ (cond {A = ℕ} a p 0 + cond {A = ℕ} b p 0) + cond {A = ℕ} c p 0
full_adder p true true true = omega arith
full_adder p true true false = omega arith
full_adder p true false true = omega arith
full_adder p true false false = omega arith
full_adder p false true true = omega arith
full_adder p false true false = omega arith
full_adder p false false true = omega arith
full_adder p false false false = omega arith

-- one more digit of a sum
pub sum_next : (j t : ℕ) (s s' a b : Digits) (c x y d e z : Bool) → number j s + cond {A = ℕ} c (2 ^ j) 0 ≡ (number j a + number j b) + t → SameBelow j s' s →
    x ≡ a j → y ≡ b j → d ≡ differ x y → e ≡ differ x y → z ≡ differ d c → s' j ≡ z →
    number (j + 1) s' + cond {A = ℕ} ((x && y) || (c && e)) (2 ^ (j + 1)) 0 ≡ (number (j + 1) a + number (j + 1) b) + t
sum_next j t s s' a b c x y d e z total same ex ey ed ee ez is =
    let P : ℕ → Type 0 = λ n. number n s' + cond {A = ℕ} ((x && y) || (c && e)) (2 ^ n) 0 ≡ (number n a + number n b) + t in
    let low = number_same j s' s same in
    let digits : s' j ≡ differ (differ (a j) (b j)) c = is ∙ ez ∙ ap (λ w. differ w c) (ed ∙ ap (λ w. differ w y) ex ∙ ap (λ w. differ (a j) w) ey) in
    let top : cond {A = ℕ} (s' j) (2 ^ j) 0 ≡ cond {A = ℕ} (differ (differ (a j) (b j)) c) (2 ^ j) 0 = ap (λ (w : Bool). cond {A = ℕ} w (2 ^ j) 0) digits in
    let carried : ((x && y) || (c && e)) ≡ ((a j && b j) || (c && differ (a j) (b j))) =
    ap (λ w. (x && y) || (c && w)) (ee ∙ ap (λ w. differ w y) ex ∙ ap (λ w. differ (a j) w) ey) ∙ ap (λ w. (w && y) || (c && differ (a j) (b j))) ex ∙ ap (λ w. (a j && w) || (c && differ (a j) (b j))) ey in
    let over : cond {A = ℕ} ((x && y) || (c && e)) (2 ^ suc j) 0 ≡ cond {A = ℕ} ((a j && b j) || (c && differ (a j) (b j))) (2 ^ j * 2) 0 =
    ap (λ (w : Bool). cond {A = ℕ} w (2 ^ suc j) 0) carried ∙ ap (λ p. cond {A = ℕ} ((a j && b j) || (c && differ (a j) (b j))) p 0) (pow-suc 2 j) in
    let adder = full_adder (2 ^ j) (a j) (b j) c in
    subst P (sym (add-one j)) (omega arith)

-- the digits of a sum that is known with its carry
pub sum_digit : (m j t : ℕ) (s : Digits) (c : Bool) → number m s + cond {A = ℕ} c (2 ^ m) 0 ≡ t → j < m → s j ≡ digit t j
sum_digit m j t s true total lt = (let e : number m s + 2 ^ m * 1 ≡ t = omega arith in sym (digit_number m j 1 s lt) ∙ ap (λ n. digit n j) e)
sum_digit m j t s false total lt = (let e : number m s + 2 ^ m * 0 ≡ t = omega arith in sym (digit_number m j 0 s lt) ∙ ap (λ n. digit n j) e)

half_adder : (p : ℕ) (a c : Bool) → (cond {A = ℕ} (differ (not a) c) p 0 + cond {A = ℕ} (c && not a) (p * 2) 0) + cond {A = ℕ} a p 0 ≡ cond {A = ℕ} c p 0 + p
half_adder p true true = omega arith
half_adder p true false = omega arith
half_adder p false true = omega arith
half_adder p false false = omega arith

-- one more digit of a negative
pub negative_next : (j : ℕ) (s s' a : Digits) (c x z : Bool) → (number j s + cond {A = ℕ} c (2 ^ j) 0) + number j a ≡ 2 ^ j → SameBelow j s' s →
    x ≡ a j → z ≡ differ (not x) c → s' j ≡ z → (number (j + 1) s' + cond {A = ℕ} (c && not x) (2 ^ (j + 1)) 0) + number (j + 1) a ≡ 2 ^ (j + 1)
negative_next j s s' a c x z total same ex ez is =
    let P : ℕ → Type 0 = λ n. (number n s' + cond {A = ℕ} (c && not x) (2 ^ n) 0) + number n a ≡ 2 ^ n in
    let low = number_same j s' s same in
    let digits : s' j ≡ differ (not (a j)) c = is ∙ ez ∙ ap (λ w. differ (not w) c) ex in
    let top : cond {A = ℕ} (s' j) (2 ^ j) 0 ≡ cond {A = ℕ} (differ (not (a j)) c) (2 ^ j) 0 = ap (λ (w : Bool). cond {A = ℕ} w (2 ^ j) 0) digits in
    let over : cond {A = ℕ} (c && not x) (2 ^ suc j) 0 ≡ cond {A = ℕ} (c && not (a j)) (2 ^ j * 2) 0 =
    ap (λ (w : Bool). cond {A = ℕ} (c && not w) (2 ^ suc j) 0) ex ∙ ap (λ p. cond {A = ℕ} (c && not (a j)) p 0) (pow-suc 2 j) in
    let adder = half_adder (2 ^ j) (a j) c in
    let power = pow-suc 2 j in
    subst P (sym (add-one j)) (omega arith)

same_test : (x y z w : ℕ) → (x < y → z < w) → (z < w → x < y) → nat_lt x y ≡ nat_lt z w
same_test x y z w to from =
    elim (cases_lt x y) [
      | inl lt ↦ lt-ltb x y lt ∙ sym (lt-ltb z w (to lt))
      | inr le ↦ lt-leb (suc x) y (omega arith) ∙ sym (elim (cases_lt z w) [ inl lt ↦ absurd (let h = from lt in omega arith) | inr more ↦ lt-leb (suc z) w (omega arith) ])
    ]

by_top : (x y p : ℕ) (a b : Bool) → x < p → y < p → cond {A = Bool} (differ a b) b (nat_lt x y) ≡ nat_lt (x + cond {A = ℕ} a p 0) (y + cond {A = ℕ} b p 0)
by_top x y p true true lx ly = same_test x y (x + p) (y + p) (λ h. omega arith) (λ h. omega arith)
by_top x y p false false lx ly = same_test x y (x + 0) (y + 0) (λ h. omega arith) (λ h. omega arith)
by_top x y p true false lx ly = sym (lt-leb (suc (x + p)) (y + 0) (omega arith))
by_top x y p false true lx ly = sym (lt-ltb (x + 0) (y + p) (omega arith))

-- one more digit of two numbers that are compared
pub less_next : (j : ℕ) (a b : Digits) (l x y z : Bool) → l ≡ nat_lt (number j a) (number j b) → x ≡ a j → y ≡ b j → z ≡ cond {A = Bool} (differ x y) y l →
    z ≡ nat_lt (number (j + 1) a) (number (j + 1) b)
less_next j a b l x y z el ex ey ez =
    let P : ℕ → Type 0 = λ n. z ≡ nat_lt (number n a) (number n b) in
    subst P (sym (add-one j)) (
    ez ∙ ap (λ w. cond {A = Bool} (differ w y) y l) ex ∙ ap (λ w. cond {A = Bool} (differ (a j) w) w l) ey ∙ ap (λ w. cond {A = Bool} (differ (a j) (b j)) (b j) w) el
    ∙ by_top (number j a) (number j b) (2 ^ j) (a j) (b j) (number_below j a) (number_below j b))

-- the digits of the complement
flipped_bit : (p : ℕ) (b : Bool) → cond {A = ℕ} (not b) p 0 + cond {A = ℕ} b p 0 ≡ p
flipped_bit p true = omega arith
flipped_bit p false = omega arith

pub number_flipped : (m : ℕ) (f : Digits) → (number m (λ i. not (f i)) + number m f) + 1 ≡ 2 ^ m
number_flipped zero f = (let e : 2 ^ zero ≡ 1 = pow-zero 2 in omega arith)
number_flipped (suc m) f =
    let h = number_flipped m f in
    let b = flipped_bit (2 ^ m) (f m) in
    let p = pow-suc 2 m in
    omega arith

-- a difference by the complement
pub minus_by_complement : (m : ℕ) (a b : Digits) → (number m a + number m (λ i. not (b i))) + 1 ≡ (2 ^ m + number m a) - number m b
minus_by_complement m a b = (let h = number_flipped m b in omega arith)
