-- Decimals and sized constants (IEEE 1364-2005, 3.5.1).
use Rattle.std.specs.Prelude.{◌≡◌, ℕ, ◌+◌, ◌*◌, ◌^◌, ◌<◌, ◌≤◌, Bool, true, false, ◌&&◌, ◌||◌, if◌then◌else◌, ◌==◌, nat_lt, List, [], ◌∷◌, length, drop, slice_index}
use Rattle.std.specs.Char.{digit_value}
use Rattle.std.specs.List.{take_while, fold, list_all, list_any}
use Rattle.eq_vlex.specs.declared.bytes.Class.TheVariants as class
use Rattle.eq_vlex.specs.declared.fault.LexKind.{LexKind}
use Rattle.eq_vlex.specs.declared.fault.LexKind.TheVariants.{BadNumber, XValue, TooWide}
use Rattle.eq_vlex.specs.declared.token.Constant.{Constant}
use Rattle.eq_vlex.specs.declared.token.TokenKind.{TokenKind}
use Rattle.eq_vlex.specs.declared.token.TokenKind.TheVariants as token
use Rattle.eq_vlex.specs.Bytes.{is_in}

-- ---- the text of a number

-- the digits and `_` at the front: a decimal, or the size of a constant
abbrev pub size_part : List ℕ → List ℕ
size_part text = take_while (is_in class.Decimal) text

-- a `'` comes next
abbrev pub is_quoted : List ℕ → Bool
is_quoted text = slice_index text (length (size_part text)) == 39

-- after a `'` the longest run of letters, digits, `_` and `?`
abbrev pub quoted_part : List ℕ → List ℕ
quoted_part text = take_while (is_in class.Value) (drop (length (size_part text) + 1) text)

-- without a `'` the longest run of letters, digits and `_`
abbrev pub plain_part : List ℕ → List ℕ
plain_part text = take_while (is_in class.Word) (drop (length (size_part text)) text)

-- ---- what it says

-- the value of digits in a base, from left to right; `_` is passed over
abbrev pub with_digit : ℕ → ℕ → ℕ → ℕ
with_digit base value b = if b == 95 then value else value * base + digit_value b

abbrev pub value_of : ℕ → List ℕ → ℕ
value_of base digits = fold (with_digit base) 0 digits

-- the base that b, o, d or h names in either case; 0 for no base
abbrev pub base_of : ℕ → ℕ
base_of b = if b == 98 || b == 66 then 2 else (if b == 111 || b == 79 then 8 else (if b == 100 || b == 68 then 10 else (if b == 104 || b == 72 then 16 else 0)))

abbrev pub is_digit_of : ℕ → ℕ → Bool
is_digit_of base b = nat_lt (digit_value b) base

-- x, z or `?` in either case
abbrev pub is_unknown : ℕ → Bool
is_unknown b = b == 120 || b == 88 || b == 122 || b == 90 || b == 63

-- what comes after one s or S
abbrev pub unsigned_part : List ℕ → List ℕ
unsigned_part [] = []
unsigned_part (b ∷ bs) = if b == 115 || b == 83 then bs else b ∷ bs

-- after the `'`, or after one s or S behind it, stands a base, and behind that somewhere an x, z or `?`
abbrev pub has_unknown : List ℕ → Bool
has_unknown tail = nat_lt 0 (base_of (slice_index (unsigned_part tail) 0)) && list_any is_unknown (drop 1 (unsigned_part tail))

-- digits of the base and `_`, with at least one digit
abbrev pub are_digits : ℕ → List ℕ → Bool
are_digits base digits = list_all (λ b. is_digit_of base b || b == 95) digits && list_any (is_digit_of base) digits

-- A size, `'` and a tail are a constant: the size is 1 to 128, and the tail is a base and digits of that base, whose
-- value fits the size.
pub record IsSized (bits : ℕ) (tail : List ℕ) (c : Constant) : Type 0 where
  pub size : c.size ≡ bits
  pub some_bit : 0 < bits
  pub narrow : bits ≤ 128
  pub base : 0 < base_of (slice_index tail 0)
  pub digits : are_digits (base_of (slice_index tail 0)) (drop 1 tail) ≡ true
  pub value : c.value ≡ value_of (base_of (slice_index tail 0)) (drop 1 tail)
  pub fits : c.value < 2 ^ bits

-- what is wrong with a size, `'` and a tail: an unknown digit; or else a size above 128; or else anything
abbrev pub IsBadSized : ℕ → List ℕ → LexKind → Type 0
IsBadSized bits tail XValue = has_unknown tail ≡ true
IsBadSized bits tail TooWide = (has_unknown tail ≡ false) × (128 < bits)
IsBadSized bits tail BadNumber = (has_unknown tail ≡ false) × (bits ≤ 128) × ((c : Constant) → ¬ IsSized bits tail c)
IsBadSized bits tail _ = ⊥

-- a decimal has nothing behind its digits, and is below 2 ^ 31
pub record IsDecimal (front tail : List ℕ) (n : ℕ) : Type 0 where
  pub alone : length tail ≡ 0
  pub value : n ≡ value_of 10 front
  pub small : n < 2 ^ 31

-- ---- numbers at the front of a text

-- a number with a `'` or without has so many bytes and is this token
abbrev pub IsNumberOf : Bool → List ℕ → List ℕ → ℕ → TokenKind → Type 0
IsNumberOf true front tail len (token.Sized c) = (len ≡ length front + 1 + length tail) × IsSized (value_of 10 front) tail c
IsNumberOf false front tail len (token.Decimal n) = (len ≡ length front + length tail) × IsDecimal front tail n
IsNumberOf _ front tail len _ = ⊥

-- what is wrong with it
abbrev pub IsBadNumberOf : Bool → List ℕ → List ℕ → LexKind → Type 0
IsBadNumberOf true front tail fault = IsBadSized (value_of 10 front) tail fault
IsBadNumberOf false front tail fault = (fault ≡ BadNumber) × ((n : ℕ) → ¬ IsDecimal front tail n)

abbrev pub tail_part : Bool → List ℕ → List ℕ
tail_part true text = quoted_part text
tail_part false text = plain_part text

-- the number at the front has so many bytes and is this token
abbrev pub IsNumber : List ℕ → ℕ → TokenKind → Type 0
IsNumber text len kind = IsNumberOf (is_quoted text) (size_part text) (tail_part (is_quoted text) text) len kind

-- what is wrong with the number at the front
abbrev pub IsBadNumber : List ℕ → LexKind → Type 0
IsBadNumber text fault = IsBadNumberOf (is_quoted text) (size_part text) (tail_part (is_quoted text) text) fault
