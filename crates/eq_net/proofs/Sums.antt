-- Digits of sums and differences depend on the bits below them alone.
use Rattle.std.proofs.Common.{◌≡◌, ℕ, zero, suc, ◌+◌, ◌-◌, ◌*◌, ◌/◌, ◌%◌, ◌^◌, ◌<◌, ◌≤◌, Bool, true, false, ◌==◌, cond, min, refl, arith, sym, ap, subst, ◌∙◌, inl, inr}
use Rattle.std.proofs.Math.Nat.{add-mul-div_left, add-mul-mod_self_left, mul_assoc, mul-add, pow-suc, pow-zero}
use Rattle.std.proofs.lemmas.Nat.{pow-add}
use Rattle.std.proofs.lemmas.Bool.{cases_lt}
use Rattle.eq_net.specs.Numbers.{Digits, number, digit, all_ones, some_one, parity}

-- equal below n
abbrev pub SameBelow : ℕ → Digits → Digits → Type 0
SameBelow n f g = (i : ℕ) → i < n → f i ≡ g i

pub number_same : (n : ℕ) (f g : Digits) → SameBelow n f g → number n f ≡ number n g
number_same zero f g h = refl
number_same (suc n) f g h =
    let e = number_same n f g (λ i lt. h i (omega arith)) in
    let k = h n (omega arith) in
    rw (e, k) refl

pub all_ones_same : (n : ℕ) (f g : Digits) → SameBelow n f g → all_ones n f ≡ all_ones n g
all_ones_same zero f g h = refl
all_ones_same (suc n) f g h =
    let e = all_ones_same n f g (λ i lt. h i (omega arith)) in
    let k = h n (omega arith) in
    rw (e, k) refl

pub some_one_same : (n : ℕ) (f g : Digits) → SameBelow n f g → some_one n f ≡ some_one n g
some_one_same zero f g h = refl
some_one_same (suc n) f g h =
    let e = some_one_same n f g (λ i lt. h i (omega arith)) in
    let k = h n (omega arith) in
    rw (e, k) refl

pub parity_same : (n : ℕ) (f g : Digits) → SameBelow n f g → parity n f ≡ parity n g
parity_same zero f g h = refl
parity_same (suc n) f g h =
    let e = parity_same n f g (λ i lt. h i (omega arith)) in
    let k = h n (omega arith) in
    rw (e, k) refl

pub power_positive : (n : ℕ) → 0 < 2 ^ n
power_positive zero = (let e : 2 ^ zero ≡ 1 = pow-zero 2 in omega arith)
power_positive (suc n) = (let h : 0 < 2 ^ n = power_positive n in let e : 2 ^ suc n ≡ 2 ^ n * 2 = pow-suc 2 n in omega arith)

below_next : (n x : ℕ) (b : Bool) → x < 2 ^ n → x + cond {A = ℕ} b (2 ^ n) 0 < 2 ^ suc n
below_next n x true h = (let e : 2 ^ suc n ≡ 2 ^ n * 2 = pow-suc 2 n in omega arith)
below_next n x false h = (let e : 2 ^ suc n ≡ 2 ^ n * 2 = pow-suc 2 n in omega arith)

-- a number of n bits is below 2 ^ n
pub number_below : (n : ℕ) (f : Digits) → number n f < 2 ^ n
number_below zero f = (let e : 2 ^ zero ≡ 1 = pow-zero 2 in omega arith)
number_below (suc n) f = below_next n (number n f) (f n) (number_below n f)

-- a multiple of 2 ^ (j + 1) leaves bit j as it is
pub digit_low : (x z j : ℕ) → digit (x + 2 ^ suc j * z) j ≡ digit x j
digit_low x z j =
    let e : 2 ^ suc j * z ≡ 2 ^ j * (2 * z) = ap (λ p. p * z) (pow-suc 2 j) ∙ mul_assoc (2 ^ j) 2 z in
    let d : (x + 2 ^ j * (2 * z)) / 2 ^ j ≡ x / 2 ^ j + 2 * z = add-mul-div_left x (2 * z) (power_positive j) in
    let m : (x / 2 ^ j + 2 * z) % 2 ≡ (x / 2 ^ j) % 2 = add-mul-mod_self_left (x / 2 ^ j) 2 z in
    ap (λ y. (x + y) / 2 ^ j % 2 == 1) e ∙ ap (λ y. y % 2 == 1) d ∙ ap (λ y. y == 1) m

split_next : (k d x y z : ℕ) (b : Bool) → x ≡ y + 2 ^ k * z → x + cond {A = ℕ} b (2 ^ (k + d)) 0 ≡ y + 2 ^ k * (z + cond {A = ℕ} b (2 ^ d) 0)
split_next k d x y z true h =
    let p : 2 ^ (k + d) ≡ 2 ^ k * 2 ^ d = pow-add 2 k d in
    let m : 2 ^ k * (z + 2 ^ d) ≡ 2 ^ k * z + 2 ^ k * 2 ^ d = mul-add (2 ^ k) z (2 ^ d) in
    omega arith
split_next k d x y z false h =
    let q : z + 0 ≡ z = omega arith in
    let m : 2 ^ k * (z + 0) ≡ 2 ^ k * z = ap (λ n. 2 ^ k * n) q in
    omega arith

-- a number of k + d bits is that of the lowest k and 2 ^ k times that of the others
pub number_split : (k d : ℕ) (f : Digits) → number (k + d) f ≡ number k f + 2 ^ k * number d (λ i. f (k + i))
number_split k zero f =
    let e : k + zero ≡ k = omega arith in
    let s : number k f ≡ number k f + 2 ^ k * zero = omega arith in
    ap (λ n. number n f) e ∙ s
number_split k (suc d) f =
    let e : k + suc d ≡ suc (k + d) = omega arith in
    ap (λ n. number n f) e ∙ split_next k d (number (k + d) f) (number k f) (number d (λ i. f (k + i))) (f (k + d)) (number_split k d f)

-- of a number of m bits: the number of its lowest k, and what stands above them
abbrev pub low : ℕ → ℕ → Digits → ℕ
low m k f = number (min m k) f

abbrev pub high : ℕ → ℕ → Digits → ℕ
high m k f = number (m - k) (λ i. f (k + i))

pub low_high : (m k : ℕ) (f : Digits) → number m f ≡ low m k f + 2 ^ k * high m k f
low_high m k f =
    elim (cases_lt m k) [
      | inl less ↦ (
          let e : min m k ≡ m = omega arith in
          let d : m - k ≡ 0 = omega arith in
          let s : number m f ≡ number m f + 2 ^ k * 0 = omega arith in
          s ∙ ap (λ n. number n f + 2 ^ k * 0) (sym e) ∙ ap (λ n. number (min m k) f + 2 ^ k * number n (λ i. f (k + i))) (sym d))
      | inr more ↦ (
          let e : min m k ≡ k = omega arith in
          let d : k + (m - k) ≡ m = omega arith in
          sym (ap (λ n. number n f) d) ∙ number_split k (m - k) f ∙ ap (λ n. number n f + 2 ^ k * number (m - k) (λ i. f (k + i))) (sym e))
    ]

pub low_same : (m k : ℕ) (f g : Digits) → SameBelow k f g → low m k f ≡ low m k g
low_same m k f g h = number_same (min m k) f g (λ i lt. h i (let e : min m k ≤ k = omega arith in omega arith))

-- ---- sums

sum_low : (m n j : ℕ) (f g : Digits) → digit (number m f + number n g) j ≡ digit (low m (suc j) f + low n (suc j) g) j
sum_low m n j f g =
    let x = low_high m (suc j) f in
    let y = low_high n (suc j) g in
    let p : 2 ^ suc j * (high m (suc j) f + high n (suc j) g) ≡ 2 ^ suc j * high m (suc j) f + 2 ^ suc j * high n (suc j) g = mul-add (2 ^ suc j) (high m (suc j) f) (high n (suc j) g) in
    let e : number m f + number n g ≡ (low m (suc j) f + low n (suc j) g) + 2 ^ suc j * (high m (suc j) f + high n (suc j) g) = omega arith in
    ap (λ n. digit n j) e ∙ digit_low (low m (suc j) f + low n (suc j) g) (high m (suc j) f + high n (suc j) g) j

-- bit j of a sum depends on bits 0 to j alone
pub sum_same : (m n j : ℕ) (f g h k : Digits) → SameBelow (suc j) f h → SameBelow (suc j) g k →
    digit (number m f + number n g) j ≡ digit (number m h + number n k) j
sum_same m n j f g h k sf sg =
    let e = low_same m (suc j) f h sf in
    let d = low_same n (suc j) g k sg in
    sum_low m n j f g ∙ ap (λ x. digit (x + low n (suc j) g) j) e ∙ ap (λ x. digit (low m (suc j) h + x) j) d ∙ sym (sum_low m n j h k)

-- ---- differences

-- a product can only grow with its second factor
scaled : (k x y : ℕ) → x ≤ y → 2 ^ k * x ≤ 2 ^ k * y
scaled k x y le =
    let e : y ≡ x + (y - x) = omega arith in
    let p : 2 ^ k * (x + (y - x)) ≡ 2 ^ k * x + 2 ^ k * (y - x) = mul-add (2 ^ k) x (y - x) in
    let q : 2 ^ k * y ≡ 2 ^ k * (x + (y - x)) = ap (λ n. 2 ^ k * n) e in
    omega arith

-- what is below in a product with a power is below
unscaled : (k x y z : ℕ) → z + 2 ^ k * x < 2 ^ k * y → x < y
unscaled k x y z h = elim (cases_lt x y) [ inl lt ↦ lt | inr le ↦ absurd (let s = scaled k y x le in omega arith) ]

-- 2 ^ m + a - b, of which b is below 2 ^ m: its bits below k are those of 2 ^ k + (a modulo 2 ^ k) - (b modulo 2 ^ k)
minus_low : (k p a b r t x y : ℕ) → a ≡ x + 2 ^ k * r → b ≡ y + 2 ^ k * t → y < 2 ^ k → b < 2 ^ k * p →
    (2 ^ k * p + a) - b ≡ ((2 ^ k + x) - y) + 2 ^ k * ((p + r) - (t + 1))
minus_low k p a b r t x y ea eb small below =
    let less : t < p = unscaled k t p y (let P : ℕ → Type 0 = λ n. n < 2 ^ k * p in subst P eb below) in
    let d : ℕ = (p + r) - (t + 1) in
    let e : p + r ≡ (t + 1) + ((p + r) - (t + 1)) = omega arith in
    let f : 2 ^ k * (p + r) ≡ 2 ^ k * ((t + 1) + ((p + r) - (t + 1))) = ap (λ n. 2 ^ k * n) e in
    let g : 2 ^ k * (p + r) ≡ 2 ^ k * p + 2 ^ k * r = mul-add (2 ^ k) p r in
    let h : 2 ^ k * ((t + 1) + ((p + r) - (t + 1))) ≡ 2 ^ k * (t + 1) + 2 ^ k * ((p + r) - (t + 1)) = mul-add (2 ^ k) (t + 1) ((p + r) - (t + 1)) in
    let i : 2 ^ k * (t + 1) ≡ 2 ^ k * t + 2 ^ k * 1 = mul-add (2 ^ k) t 1 in
    omega arith

minus_wide : (m j : ℕ) (f g : Digits) → suc j ≤ m → digit ((2 ^ m + number m f) - number m g) j ≡ digit ((2 ^ suc j + low m (suc j) f) - low m (suc j) g) j
minus_wide m j f g le =
    let split : suc j + (m - suc j) ≡ m = omega arith in
    let power : 2 ^ m ≡ 2 ^ suc j * 2 ^ (m - suc j) = ap (λ n. 2 ^ n) (sym split) ∙ pow-add 2 (suc j) (m - suc j) in
    let least : min m (suc j) ≡ suc j = omega arith in
    let small : low m (suc j) g < 2 ^ suc j = (let P : ℕ → Type 0 = λ n. number n g < 2 ^ suc j in subst P (sym least) (number_below (suc j) g)) in
    let below : number m g < 2 ^ suc j * 2 ^ (m - suc j) = (let P : ℕ → Type 0 = λ n. number m g < n in subst P power (number_below m g)) in
    let e = minus_low (suc j) (2 ^ (m - suc j)) (number m f) (number m g) (high m (suc j) f) (high m (suc j) g) (low m (suc j) f) (low m (suc j) g)
    (low_high m (suc j) f) (low_high m (suc j) g) small below in
    ap (λ n. digit ((n + number m f) - number m g) j) power ∙ ap (λ n. digit n j) e
    ∙ digit_low ((2 ^ suc j + low m (suc j) f) - low m (suc j) g) ((2 ^ (m - suc j) + high m (suc j) f) - (high m (suc j) g + 1)) j

-- bit j of a difference depends on bits 0 to j alone
pub minus_same : (m j : ℕ) (f g h k : Digits) → SameBelow (suc j) f h → SameBelow (suc j) g k →
    digit ((2 ^ m + number m f) - number m g) j ≡ digit ((2 ^ m + number m h) - number m k) j
minus_same m j f g h k sf sg =
    elim (cases_lt j m) [
      | inl lt ↦ (
          let e = low_same m (suc j) f h sf in
          let d = low_same m (suc j) g k sg in
          minus_wide m j f g (omega arith) ∙ ap (λ x. digit ((2 ^ suc j + x) - low m (suc j) g) j) e ∙ ap (λ x. digit ((2 ^ suc j + low m (suc j) h) - x) j) d
          ∙ sym (minus_wide m j h k (omega arith)))
      | inr le ↦ (
          let e : number m f ≡ number m h = number_same m f h (λ i lt. sf i (omega arith)) in
          let d : number m g ≡ number m k = number_same m g k (λ i lt. sg i (omega arith)) in
          ap (λ x. digit ((2 ^ m + x) - number m g) j) e ∙ ap (λ x. digit ((2 ^ m + number m h) - x) j) d)
    ]

-- no digit is set
pub number_none : (n : ℕ) → number n (λ i. false) ≡ 0
number_none zero = refl
number_none (suc n) = (let h = number_none n in omega arith)

-- bit j of a negative depends on bits 0 to j alone
pub negative_same : (m j : ℕ) (g k : Digits) → SameBelow (suc j) g k → digit (2 ^ m - number m g) j ≡ digit (2 ^ m - number m k) j
negative_same m j g k sg =
    let z = number_none m in
    let one : (2 ^ m + number m (λ i. false)) - number m g ≡ 2 ^ m - number m g = omega arith in
    let two : (2 ^ m + number m (λ i. false)) - number m k ≡ 2 ^ m - number m k = omega arith in
    sym (ap (λ n. digit n j) one) ∙ minus_same m j (λ i. false) g (λ i. false) k (λ i lt. refl) sg ∙ ap (λ n. digit n j) two
