-- Cited by proofs alone; nothing here has to be believed.
-- Numbers in decimal, as they are read digit by digit.
use Rattle.std.specs.Prelude.{◌≡◌, ℕ, ◌+◌, ◌*◌, ◌-◌, ◌&&◌, Bool, false, nat_le, if◌then◌else◌, List, [], ◌∷◌}

-- the bytes `0` to `9`
abbrev pub is_digit : ℕ → Bool
is_digit byte = nat_le 48 byte && nat_le byte 57

-- the number whose digits are those of a number and then those that a text begins with
abbrev pub value_on : ℕ → List ℕ → ℕ
value_on n [] = n
value_on n (byte ∷ bytes) = if is_digit byte then value_on (10 * n + (byte - 48)) bytes else n

-- no digit stands first
abbrev pub EndsNumber : List ℕ → Type 0
EndsNumber [] = Unit {0}
EndsNumber (byte ∷ bytes) = is_digit byte ≡ false
