-- Digits as numbers, of two values and without a sign (IEEE 1364-2005, 4.3.1 and 5.1).
-- The digits of a value are a function of the position, where 0 is the least significant. How many of them count is said
-- where they are used.
use Rattle.std.specs.Prelude.{ℕ, zero, suc, ◌+◌, ◌/◌, ◌%◌, ◌^◌, Bool, true, false, not, ◌&&◌, ◌||◌, ◌==◌, cond}

-- the binary digits of a value, by position
abbrev pub Digits : Type 0
Digits = ℕ → Bool

-- exclusive or
abbrev pub differ : Bool → Bool → Bool
differ true b = not b
differ false b = b

-- the number that the lowest n bits spell
abbrev pub number : ℕ → Digits → ℕ
number zero f = 0
number (suc n) f = number n f + cond {A = ℕ} (f n) (2 ^ n) 0

-- bit j of a number
abbrev pub digit : ℕ → Digits
digit n j = (n / 2 ^ j) % 2 == 1

-- all of the lowest n bits are 1; some is; an odd number of them is
abbrev pub all_ones : ℕ → Digits → Bool
all_ones zero f = true
all_ones (suc n) f = all_ones n f && f n

abbrev pub some_one : ℕ → Digits → Bool
some_one zero f = false
some_one (suc n) f = some_one n f || f n

abbrev pub parity : ℕ → Digits → Bool
parity zero f = false
parity (suc n) f = differ (parity n f) (f n)
