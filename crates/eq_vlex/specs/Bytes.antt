-- Classes of bytes, and what the first two bytes of a text begin (IEEE 1364-2005, 3.1 to 3.8).
use Rattle.std.specs.Prelude.{ℕ, Bool, not, ◌&&◌, ◌||◌, if◌then◌else◌, ◌==◌, nat_le, List, slice_index}
use Rattle.std.specs.Char.{is_ascii_digit, is_ascii_alphabetic, is_ascii_alphanumeric}
use Rattle.eq_vlex.specs.declared.bytes.Class.{Class}
use Rattle.eq_vlex.specs.declared.bytes.Class.TheVariants as class
use Rattle.eq_vlex.specs.declared.bytes.Start.{Start}
use Rattle.eq_vlex.specs.declared.bytes.Start.TheVariants as start

-- the bytes of each class: 95 is `_`, 36 is `$` and 63 is `?`
abbrev pub is_in : Class → ℕ → Bool
is_in class.White b = b == 32 || b == 9 || b == 13 || b == 10 || b == 12
is_in class.Line b = not (b == 10)
is_in class.Simple b = is_ascii_alphanumeric b || b == 95 || b == 36
is_in class.Visible b = nat_le 0x21 b && nat_le b 0x7E
is_in class.Decimal b = is_ascii_digit b || b == 95
is_in class.Word b = is_ascii_alphanumeric b || b == 95
is_in class.Value b = is_ascii_alphanumeric b || b == 95 || b == 63

-- White space, `//`, `/*` and `(*` begin separators. A letter or `_` begins a simple name, `\` an escaped one,
-- a digit or `'` a number. No byte begins two of these, and what begins with another byte is a mark or nothing.
abbrev pub start_of : ℕ → ℕ → Start
start_of a b =
    if is_in class.White a then start.White
    else (if a == 47 && b == 47 then start.LineComment
    else (if a == 47 && b == 42 then start.BlockComment
    else (if a == 40 && b == 42 then start.Attribute
    else (if is_ascii_alphabetic a || a == 95 then start.SimpleName
    else (if a == 92 then start.EscapedName
    else (if is_ascii_digit a || a == 39 then start.Number
    else start.Other))))))

-- what begins at the front of a text
unfoldable pub begins : List ℕ → Start
begins text = start_of (slice_index text 0) (slice_index text 1)
