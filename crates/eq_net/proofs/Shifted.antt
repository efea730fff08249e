-- The digits of a number that is multiplied or divided by a power of two stand elsewhere.
use Rattle.std.proofs.Common.{◌≡◌, ℕ, suc, ◌+◌, ◌-◌, ◌*◌, ◌/◌, ◌^◌, ◌<◌, ◌≤◌, Bool, true, false, nat_lt, nat_le, ◌&&◌, min, arith, sym, ap, ◌∙◌, inl, inr}
use Rattle.std.proofs.Math.Nat.{add-mul-div_left, div-eq_of_lt, mul_comm}
use Rattle.std.proofs.Math.Pow.{pow_mono}
use Rattle.std.proofs.lemmas.Nat.{pow_pos}
use Rattle.std.proofs.lemmas.Bool.{cases_lt, le-leb, lt-leb, lt-ltb}
use Rattle.eq_net.specs.Numbers.{Digits, number, digit}
use Rattle.eq_net.proofs.Sums.{low, high, low_high, number_below, number_none, number_same, number_split}
use Rattle.eq_net.proofs.Wholes.{digit_of_number}

-- the digits of a that stand k places higher
abbrev raised : ℕ → Digits → Digits
raised k a i = nat_le k i && a (i - k)

below_is_none : (k i : ℕ) (a : Digits) → i < k → raised k a i ≡ false
below_is_none k i a lt = (let e : nat_le k i ≡ false = lt-leb k i lt in ap (λ b. b && a (i - k)) e)

above_is_there : (k i : ℕ) (a : Digits) → raised k a (k + i) ≡ a i
above_is_there k i a =
    let e : nat_le k (k + i) ≡ true = le-leb k (k + i) (omega arith) in
    let d : (k + i) - k ≡ i = omega arith in
    ap (λ b. b && a ((k + i) - k)) e ∙ ap a d

multiplied : (m k : ℕ) (a : Digits) → number m a * 2 ^ k ≡ number (k + m) (raised k a)
multiplied m k a =
    let none : number k (raised k a) ≡ 0 = number_same k (raised k a) (λ i. false) (λ i lt. below_is_none k i a lt) ∙ number_none k in
    let rest : number m (λ i. raised k a (k + i)) ≡ number m a = number_same m (λ i. raised k a (k + i)) a (λ i lt. above_is_there k i a) in
    let split = number_split k m (raised k a) in
    let turned : number m a * 2 ^ k ≡ 2 ^ k * number m a = mul_comm (number m a) (2 ^ k) in
    let plain : 2 ^ k * number m a ≡ 0 + 2 ^ k * number m a = omega arith in
    turned ∙ plain ∙ sym (split ∙ ap (λ n. n + 2 ^ k * number m (λ i. raised k a (k + i))) none ∙ ap (λ n. 0 + 2 ^ k * n) rest)

-- a shift to the left by k
pub shifted_up : (m k j : ℕ) (a : Digits) → digit (number m a * 2 ^ k) j ≡ (nat_lt j (k + m) && (nat_le k j && a (j - k)))
shifted_up m k j a = ap (λ n. digit n j) (multiplied m k a) ∙ digit_of_number (k + m) j (raised k a)

divided : (m k : ℕ) (a : Digits) → number m a / 2 ^ k ≡ number (m - k) (λ i. a (k + i))
divided m k a =
    let small : low m k a < 2 ^ k = low_below m k a in
    let z : low m k a / 2 ^ k ≡ 0 = div-eq_of_lt small in
    let plain : 0 + high m k a ≡ high m k a = omega arith in
    ap (λ n. n / 2 ^ k) (low_high m k a) ∙ add-mul-div_left (low m k a) (high m k a) (pow_pos k) ∙ ap (λ n. n + high m k a) z ∙ plain
  where
    low_below : (m k : ℕ) (a : Digits) → low m k a < 2 ^ k
    low_below m k a =
        let b = number_below (min m k) a in
        let le : min m k ≤ k = omega arith in
        let more : 2 ^ min m k ≤ 2 ^ k = pow_mono le in
        omega arith

-- a shift to the right by k
pub shifted_down : (m k j : ℕ) (a : Digits) → digit (number m a / 2 ^ k) j ≡ (nat_lt j (m - k) && a (k + j))
shifted_down m k j a = ap (λ n. digit n j) (divided m k a) ∙ digit_of_number (m - k) j (λ i. a (k + i))

and_true : (x y z : Bool) → x ≡ true → y ≡ z → (x && y) ≡ z
and_true true y z e f = f
and_true false y z e f = absurd (cc)

-- a shift by at least the width moves all digits out
pub up_at_most : (m k j : ℕ) (a : Digits) → j < m → (nat_le (min m k) j && a (j - min m k)) ≡ digit (number m a * 2 ^ k) j
up_at_most m k j a lt =
    sym (shifted_up m k j a ∙ and_true (nat_lt j (k + m)) (nat_le k j && a (j - k)) (nat_le (min m k) j && a (j - min m k)) (lt-ltb j (k + m) (omega arith)) (elim (cases_lt j k) [
      | inl less ↦ (
          let out : nat_le k j ≡ false = lt-leb k j less in
          let far : nat_le (min m k) j ≡ false = lt-leb (min m k) j (omega arith) in
          ap (λ b. b && a (j - k)) out ∙ sym (ap (λ b. b && a (j - min m k)) far))
      | inr more ↦ (let e : k ≡ min m k = omega arith in ap (λ x. nat_le x j && a (j - x)) e)
    ]))

pub down_at_most : (m k j : ℕ) (a : Digits) → (nat_lt j (m - min m k) && a (min m k + j)) ≡ digit (number m a / 2 ^ k) j
down_at_most m k j a =
    sym (shifted_down m k j a ∙ (elim (cases_lt m k) [
      | inl less ↦ (
          let out : nat_lt j (m - k) ≡ false = lt-leb (suc j) (m - k) (omega arith) in
          let far : nat_lt j (m - min m k) ≡ false = lt-leb (suc j) (m - min m k) (omega arith) in
          ap (λ b. b && a (k + j)) out ∙ sym (ap (λ b. b && a (min m k + j)) far))
      | inr more ↦ (let e : k ≡ min m k = omega arith in ap (λ x. nat_lt j (m - x) && a (x + j)) e)
    ]))
