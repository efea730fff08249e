-- Numbers and digits read back: the digits of a number spell it, and the number of digits has them.
use Rattle.std.proofs.Common.{◌≡◌, ℕ, zero, suc, ◌+◌, ◌-◌, ◌*◌, ◌/◌, ◌%◌, ◌^◌, ◌<◌, ◌≤◌, Bool, true, false, nat_lt, ◌&&◌, ◌==◌, cond, min, refl, arith, sym, ap, ◌∙◌}
use Rattle.std.proofs.Math.Nat.{pow-zero, add-mul-div_left, div-eq_of_lt, mul_assoc, mul-add}
use Rattle.std.proofs.Math.Pow.{pow_mono}
use Rattle.std.proofs.lemmas.Nat.{mod-pow-add, pow-add, pow_pos}
use Rattle.std.proofs.lemmas.Bool.{ltb-true, ltb-false}
use Rattle.eq_net.specs.Numbers.{Digits, number, digit}
use Rattle.eq_net.proofs.Sums.{low, high, low_high, number_below, digit_low}

true_or_zero : (y : ℕ) (b : Bool) → (y == 1) ≡ b → y < 2 → cond {A = ℕ} b 1 0 ≡ y
true_or_zero zero b e lt = (let t : b ≡ false = sym e in ap (λ (c : Bool). cond {A = ℕ} c 1 0) t)
true_or_zero (suc zero) b e lt = (let t : b ≡ true = sym e in ap (λ (c : Bool). cond {A = ℕ} c 1 0) t)
true_or_zero (suc (suc y)) b e lt = absurd (omega arith)

scaled_bit : (b : Bool) (p : ℕ) → cond {A = ℕ} b p 0 ≡ cond {A = ℕ} b 1 0 * p
scaled_bit true p = (let e : p ≡ 1 * p = omega arith in e)
scaled_bit false p = (let e : 0 ≡ 0 * p = omega arith in e)

-- the lowest w digits of a number spell the number modulo 2 ^ w
pub number_digit : (w n : ℕ) → number w (digit n) ≡ n % 2 ^ w
number_digit zero n = (let e : 2 ^ zero ≡ 1 = pow-zero 2 in let m : n % 2 ^ zero ≡ n % 1 = ap (λ p. n % p) e in omega arith)
number_digit (suc w) n =
    let h = number_digit w n in
    let two : 2 ^ 1 ≡ 2 = refl in
    let m : n % 2 ^ (1 + w) ≡ (n / 2 ^ w % 2 ^ 1) * 2 ^ w + n % 2 ^ w = mod-pow-add n 1 w in
    let s : 1 + w ≡ suc w = omega arith in
    let k : n % 2 ^ suc w ≡ n % 2 ^ (1 + w) = ap (λ x. n % 2 ^ x) (sym s) in
    let small : n / 2 ^ w % 2 < 2 = omega arith in
    let bit : cond {A = ℕ} (digit n w) 1 0 ≡ n / 2 ^ w % 2 = true_or_zero (n / 2 ^ w % 2) (digit n w) refl small in
    let b : cond {A = ℕ} (digit n w) (2 ^ w) 0 ≡ (n / 2 ^ w % 2) * 2 ^ w = scaled_bit (digit n w) (2 ^ w) ∙ ap (λ x. x * 2 ^ w) bit in
    let u : (n / 2 ^ w % 2 ^ 1) * 2 ^ w ≡ (n / 2 ^ w % 2) * 2 ^ w = ap (λ x. (n / 2 ^ w % x) * 2 ^ w) two in
    omega arith

-- the digit above a number of j digits
top_digit : (j x : ℕ) (b : Bool) → x < 2 ^ j → ((x + cond {A = ℕ} b (2 ^ j) 0) / 2 ^ j % 2 == 1) ≡ b
top_digit j x true lt =
    let p : 0 < 2 ^ j = pow_pos j in
    let one : 2 ^ j ≡ 2 ^ j * 1 = omega arith in
    let d : (x + 2 ^ j * 1) / 2 ^ j ≡ x / 2 ^ j + 1 = add-mul-div_left x 1 p in
    let z : x / 2 ^ j ≡ 0 = div-eq_of_lt lt in
    ap (λ y. (x + y) / 2 ^ j % 2 == 1) one ∙ ap (λ y. y % 2 == 1) d ∙ ap (λ y. (y + 1) % 2 == 1) z
top_digit j x false lt =
    let s : x + 0 ≡ x = omega arith in
    let z : x / 2 ^ j ≡ 0 = div-eq_of_lt lt in
    ap (λ y. y / 2 ^ j % 2 == 1) s ∙ ap (λ y. y % 2 == 1) z

-- a digit below n of the number of n digits, and of a number that has more above them
pub digit_number : (n j z : ℕ) (f : Digits) → j < n → digit (number n f + 2 ^ n * z) j ≡ f j
digit_number n j z f lt =
    let h = low_high n (suc j) f in
    let least : min n (suc j) ≡ suc j = omega arith in
    let split : n ≡ suc j + (n - suc j) = omega arith in
    let power : 2 ^ n ≡ 2 ^ suc j * 2 ^ (n - suc j) = ap (λ k. 2 ^ k) split ∙ pow-add 2 (suc j) (n - suc j) in
    let far : 2 ^ n * z ≡ 2 ^ suc j * (2 ^ (n - suc j) * z) = ap (λ p. p * z) power ∙ mul_assoc (2 ^ suc j) (2 ^ (n - suc j)) z in
    let both : 2 ^ suc j * (high n (suc j) f + 2 ^ (n - suc j) * z) ≡ 2 ^ suc j * high n (suc j) f + 2 ^ suc j * (2 ^ (n - suc j) * z) =
    mul-add (2 ^ suc j) (high n (suc j) f) (2 ^ (n - suc j) * z) in
    let e : number n f + 2 ^ n * z ≡ low n (suc j) f + 2 ^ suc j * (high n (suc j) f + 2 ^ (n - suc j) * z) = omega arith in
    ap (λ x. digit x j) e ∙ digit_low (low n (suc j) f) (high n (suc j) f + 2 ^ (n - suc j) * z) j
    ∙ ap (λ k. digit (number k f) j) least ∙ top_digit j (number j f) (f j) (number_below j f)

-- above its digits a number has zeros
digit_above : (n j : ℕ) (f : Digits) → n ≤ j → digit (number n f) j ≡ false
digit_above n j f le =
    let small = number_below n f in
    let more : 2 ^ n ≤ 2 ^ j = pow_mono le in
    let lt : number n f < 2 ^ j = omega arith in
    let z : number n f / 2 ^ j ≡ 0 = div-eq_of_lt lt in
    ap (λ y. y % 2 == 1) z

guarded : (b x : Bool) (t : Bool) → (t ≡ true → b ≡ x) → (t ≡ false → b ≡ false) → b ≡ (t && x)
guarded b x true h k = h refl
guarded b x false h k = k refl

-- the digits of a number of n digits
pub digit_of_number : (n j : ℕ) (f : Digits) → digit (number n f) j ≡ (nat_lt j n && f j)
digit_of_number n j f =
    guarded (digit (number n f) j) (f j) (nat_lt j n)
    (λ t. (let s : number n f ≡ number n f + 2 ^ n * 0 = omega arith in ap (λ x. digit x j) s ∙ digit_number n j 0 f (ltb-true j n t)))
    (λ t. digit_above n j f (ltb-false j n t))

-- a number of n digits has these digits
pub digit_alone : (n j : ℕ) (f : Digits) → j < n → digit (number n f) j ≡ f j
digit_alone n j f lt = (let s : number n f ≡ number n f + 2 ^ n * 0 = omega arith in ap (λ x. digit x j) s ∙ digit_number n j 0 f lt)
