use Rattle.std.proofs.Common.{◌≡◌, ℕ, ◌<◌, ◌≤◌, ◌%◌, ◌^◌, ◌==◌, false, arith, sym, ap}
use Rattle.std.proofs.Math.Nat.{div-eq_of_lt}
use Rattle.std.proofs.Math.Pow.{pow_mono}
use Rattle.eq_net.specs.Numbers.{digit}
use Rattle.eq_drivers.proofs.choosing.digit_at.Goals as goal

-- above its digits a number has zeros
no_digit : (v p : ℕ) → v < 2 ^ 128 → 128 ≤ p → false ≡ digit v p
no_digit v p small le =
    let more : 2 ^ 128 ≤ 2 ^ p = pow_mono {i = 128} {j = p} le in
    let lt : v < 2 ^ p = omega (arith, small, more) in
    sym (ap (λ y. y % 2 == 1) (div-eq_of_lt lt))

pub returns-else-place-lt128 : goal.returns-else-place-lt128
returns-else-place-lt128 c = no_digit c.args.value c.args.place c.ranges.value.fits c.if-place-lt128.false
