-- What the first bytes of a text are, where it begins so.
use Rattle.std.proofs.Common.{◌≡◌, ℕ, suc, ◌≤◌, true, eqb, ◌&&◌, ◌||◌, List, length, get_or, arith, inl, inr}
use Rattle.std.specs.Char.{is_ascii_digit, is_ascii_alphabetic}
use Rattle.std.proofs.lemmas.Bool.{and_parts, eqb-true, cases_lt}
use Rattle.std.proofs.lemmas.List.{get_or_past}
use Rattle.eq_vlex.specs.declared.bytes.Class.TheVariants as class
use Rattle.eq_vlex.specs.declared.bytes.Start.TheVariants as start
use Rattle.eq_vlex.specs.Bytes.{is_in, start_of, begins}

-- ---- the first two bytes

pub white_is : (a b : ℕ) → start_of a b ≡ start.White → is_in class.White a ≡ true
white_is a b e = grind arith

line_is : (a b : ℕ) → start_of a b ≡ start.LineComment → (eqb a 47 && eqb b 47) ≡ true
line_is a b e = grind arith

block_is : (a b : ℕ) → start_of a b ≡ start.BlockComment → (eqb a 47 && eqb b 42) ≡ true
block_is a b e = grind arith

attribute_is : (a b : ℕ) → start_of a b ≡ start.Attribute → (eqb a 40 && eqb b 42) ≡ true
attribute_is a b e = grind arith

simple_is : (a b : ℕ) → start_of a b ≡ start.SimpleName → (is_ascii_alphabetic a || eqb a 95) ≡ true
simple_is a b e = grind arith

number_is : (a b : ℕ) → start_of a b ≡ start.Number → (is_ascii_digit a || eqb a 39) ≡ true
number_is a b e = grind arith

-- ---- what that says of a text

-- a text with a second byte that is not 0 has two
two_bytes : (text : List ℕ) (b : ℕ) → get_or text 1 0 ≡ suc b → 2 ≤ length text
two_bytes text b e =
    elim (cases_lt 1 (length text)) [
      | inl lt ↦ omega arith
      | inr le ↦ let past = get_or_past text 1 0 le in absurd (omega (arith, past, e))
    ]

pub block_two : (text : List ℕ) → begins text ≡ start.BlockComment → 2 ≤ length text
unfolding begins
block_two text e =
    let parts = and_parts (eqb (get_or text 0 0) 47) (eqb (get_or text 1 0) 42) (block_is (get_or text 0 0) (get_or text 1 0) e) in
    two_bytes text 41 (eqb-true (get_or text 1 0) 42 parts.1)

pub attribute_two : (text : List ℕ) → begins text ≡ start.Attribute → 2 ≤ length text
unfolding begins
attribute_two text e =
    let parts = and_parts (eqb (get_or text 0 0) 40) (eqb (get_or text 1 0) 42) (attribute_is (get_or text 0 0) (get_or text 1 0) e) in
    two_bytes text 41 (eqb-true (get_or text 1 0) 42 parts.1)

letter_is_simple : (a : ℕ) → (is_ascii_alphabetic a || eqb a 95) ≡ true → is_in class.Simple a ≡ true
letter_is_simple a e = grind arith

pub simple_first : (text : List ℕ) → begins text ≡ start.SimpleName → is_in class.Simple (get_or text 0 0) ≡ true
unfolding begins
simple_first text e = letter_is_simple (get_or text 0 0) (simple_is (get_or text 0 0) (get_or text 1 0) e)

pub white_first : (text : List ℕ) → begins text ≡ start.White → is_in class.White (get_or text 0 0) ≡ true
unfolding begins
white_first text e = white_is (get_or text 0 0) (get_or text 1 0) e

pub line_first : (text : List ℕ) → begins text ≡ start.LineComment → get_or text 0 0 ≡ 47
unfolding begins
line_first text e = eqb-true (get_or text 0 0) 47 (and_parts (eqb (get_or text 0 0) 47) (eqb (get_or text 1 0) 47) (line_is (get_or text 0 0) (get_or text 1 0) e)).0

pub number_first : (text : List ℕ) → begins text ≡ start.Number → (is_ascii_digit (get_or text 0 0) || eqb (get_or text 0 0) 39) ≡ true
unfolding begins
number_first text e = number_is (get_or text 0 0) (get_or text 1 0) e
