-- The value of digits only grows as more of them are read.
use Rattle.std.proofs.Common.{◌≡◌, ℕ, ◌+◌, ◌*◌, ◌^◌, ◌<◌, ◌≤◌, true, false, cond, eqb, List, [], ◌∷◌, length, get_or, drop, arith}
use Rattle.std.specs.List.{fold}
use Rattle.std.specs.Char.{digit_value}
use Rattle.std.proofs.lemmas.List.{at_drop_more}
use Rattle.std.proofs.Math.Nat.{mul-le-mul_left}
use Rattle.std.proofs.Math.Pow.{pow_mono}
use Rattle.eq_vlex.specs.Numbers.{with_digit, value_of}

grows_by_one : (base v b : ℕ) → 0 < base → v ≤ with_digit base v b
grows_by_one base v b some =
    elim (eqb b 95) as (λ t. v ≤ cond t v (v * base + digit_value b)) [
      | true ↦ omega arith
      | false ↦ let more : v * 1 ≤ v * base = mul-le-mul_left v some in omega arith
    ]

grows : (base v : ℕ) (digits : List ℕ) → 0 < base → v ≤ fold (with_digit base) v digits
grows base v [] some = omega arith
grows base v (b ∷ digits) some =
    let one = grows_by_one base v b some in
    let rest = grows base (with_digit base v b) digits some in
    omega (arith, one, rest)

-- a value that is too large at a digit is too large at the end
pub stays_large : (base v i limit : ℕ) (digits : List ℕ) → 0 < base → i < length digits → fold (with_digit base) v (drop i digits) ≡ value_of base digits
    → (with_digit base v (get_or digits i 0) < limit → ⊥) → value_of base digits < limit → ⊥
stays_large base v i limit digits some lt so_far large small =
    let step : fold (with_digit base) v (drop i digits) ≡ fold (with_digit base) (with_digit base v (get_or digits i 0)) (drop (i + 1) digits) = at_drop_more (fold (with_digit base) v) digits i 0 lt in
    let more = grows base (with_digit base v (get_or digits i 0)) (drop (i + 1) digits) some in
    let below : with_digit base v (get_or digits i 0) < limit = omega (arith, so_far, step, more, small) in
    large below

-- what fits a size fits the widest
pub below_wider : (v size : ℕ) → size ≤ 128 → v < 2 ^ size → v < 2 ^ 128
below_wider v size narrow small = let wider = pow_mono {i = size} {j = 128} narrow in omega (arith, wider)
