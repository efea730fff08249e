-- Counts up to the most that is told: what is told of a sum or a product is told of what is told of its parts.
use Rattle.std.proofs.Common.{◌≡◌, ℕ, zero, suc, ◌+◌, ◌*◌, ◌<◌, ◌≤◌, max, ap, ◌∙◌, arith, ◌⊎◌, inl, inr}
use Rattle.std.proofs.Math.Nat.{mul_comm, mul-suc, mul-zero}
use Rattle.std.proofs.lemmas.Bool.{cases_lt}
use Rattle.eq_verilog.specs.Refusals.{most_told}
use Rattle.eq_cost.specs.Counts.{told}

pub again : (n : ℕ) → told (told n) ≡ told n
again n = omega arith

pub told_of : (a b : ℕ) → a ≡ told b → told a ≡ told b
told_of a b h = omega arith

pub sums : (a b c d : ℕ) → told a ≡ told b → told c ≡ told d → told (a + c) ≡ told (b + d)
sums a b c d h k = omega arith

pub maxima : (a b c d : ℕ) → told a ≡ told b → told c ≡ told d → told (max a c) ≡ told (max b d)
maxima a b c d h k = omega arith

-- a sum as it is counted
pub summed : (a b c d r : ℕ) → r ≡ told (a + c) → told a ≡ told b → told c ≡ told d → told r ≡ told (b + d)
summed a b c d r e h k = omega arith

many : (a b w : ℕ) → most_told ≤ a → most_told ≤ b → told (a * suc w) ≡ told (b * suc w)
many a b w h k =
    let e = mul-suc a w in
    let f = mul-suc b w in
    omega arith

left : (a b w : ℕ) → told a ≡ told b → told (a * w) ≡ told (b * w)
left a b zero h =
    let e = mul-zero a in
    let f = mul-zero b in
    omega arith
left a b (suc w) h = by_order (cases_lt a most_told)
  where
    by_order : (a < most_told) ⊎ (most_told ≤ a) → told (a * suc w) ≡ told (b * suc w)
    by_order (inl less) = let same : a ≡ b = omega arith in ap (λ n. told (n * suc w)) same
    by_order (inr more) = many a b w more (omega arith)

pub products : (a b c d : ℕ) → told a ≡ told b → told c ≡ told d → told (a * c) ≡ told (b * d)
products a b c d h k =
    left a b c h
    ∙ ap (λ n. told n) (mul_comm b c)
    ∙ left c d b k
    ∙ ap (λ n. told n) (mul_comm d b)

-- a product as it is counted
pub multiplied : (a b c d r : ℕ) → r ≡ told (a * c) → told a ≡ told b → told c ≡ told d → told r ≡ told (b * d)
multiplied a b c d r e h k = told_of r (a * c) e ∙ products a b c d h k
