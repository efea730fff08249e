-- Decimals and constants as they are read again.
use Rattle.std.proofs.Common.{◌≡◌, ℕ, suc, ◌+◌, ◌*◌, ◌^◌, ◌<◌, ◌≤◌, Bool, true, false, eqb, ◌||◌, List, [], ◌∷◌, ◌++◌, length, get_or, drop, refl, sym, ap, subst, ◌∙◌, arith, append_assoc}
use Rattle.std.specs.Char.{is_ascii_digit, is_ascii_alphabetic, digit_value}
use Rattle.std.specs.Fmt.{decimal, digits}
use Rattle.std.specs.List.{take_while, fold, list_all, list_any}
use Rattle.std.specs.Str.Parse.{IsNumeral, AllDigits, digits_value_after}
use Rattle.std.proofs.lemmas.Bool.{or_parts, eqb-true, lt-ltb, false_from_ne_true, true≢false}
use Rattle.std.proofs.lemmas.Fmt.{digits_is_IsNumeral, decimal_is_IsNumeral}
use Rattle.std.proofs.lemmas.List.{drop_at, get_or_at, length-append}
use Rattle.std.proofs.Math.Pow.{pow_mono}
use Rattle.eq_vlex.specs.declared.bytes.Class.TheVariants as class
use Rattle.eq_vlex.specs.declared.bytes.Start.{Start}
use Rattle.eq_vlex.specs.declared.bytes.Start.TheVariants as start
use Rattle.eq_vlex.specs.declared.token.Constant.{Constant}
use Rattle.eq_vlex.specs.declared.token.TokenKind.{TokenKind}
use Rattle.eq_vlex.specs.declared.token.TokenKind.TheVariants as kind
use Rattle.eq_vlex.specs.Bytes.{is_in, start_of, begins}
use Rattle.eq_vlex.specs.Numbers.{size_part, is_quoted, tail_part, with_digit, value_of, is_digit_of, are_digits, IsSized, IsNumberOf, IsNumber}
use Rattle.eq_vlex.specs.Pieces.{IsLexeme}
use Rattle.eq_vparse.specs.Layout.{constant_bytes, IsConstant}
use Rattle.eq_vparse.proofs.TextPieces.{Reads, put_token, run_is}

-- ---- digits

no_digit : (base c x : ℕ) → base ≤ 16 → digit_value c < base → 16 ≤ digit_value x → eqb c x ≡ false
no_digit base c x small digit wide = false_from_ne_true (eqb c x) (λ same. absurd (omega (arith, digit, wide, ap digit_value (eqb-true c x same))))

pub decimal_byte : (c : ℕ) → digit_value c < 10 → is_ascii_digit c ≡ true
decimal_byte c h = grind arith

value_byte : (c : ℕ) → digit_value c < 16 → is_in class.Value c ≡ true
value_byte c h = grind arith

all_decimal : (ds : List ℕ) → AllDigits 10 ds → list_all (is_in class.Decimal) ds ≡ true
all_decimal [] h = refl
all_decimal (c ∷ ds) h = rw (decimal_byte c h.0, all_decimal ds h.1) refl

all_value : (ds : List ℕ) → AllDigits 16 ds → list_all (is_in class.Value) ds ≡ true
all_value [] h = refl
all_value (c ∷ ds) h = rw (value_byte c h.0, all_value ds h.1) refl

value_after : (base v : ℕ) (ds : List ℕ) → base ≤ 16 → AllDigits base ds → fold (with_digit base) v ds ≡ digits_value_after base v ds
value_after base v [] small h = refl
value_after base v (c ∷ ds) small h =
    let other : with_digit base v c ≡ v * base + digit_value c = rw (no_digit base c 95 small h.0 (omega arith)) refl in
    ap (λ (x : ℕ). fold (with_digit base) x ds) other ∙ value_after base (v * base + digit_value c) ds small h.1

all_digits : (base : ℕ) (ds : List ℕ) → AllDigits base ds → list_all (λ b. is_digit_of base b || eqb b 95) ds ≡ true
all_digits base [] h = refl
all_digits base (c ∷ ds) h = rw (lt-ltb (digit_value c) base h.0, all_digits base ds h.1) refl

some_digit : (base : ℕ) (ds : List ℕ) → IsNumeral base ds → list_any (is_digit_of base) ds ≡ true
some_digit base [] h = absurd (omega (arith, h.0))
some_digit base (c ∷ ds) h = rw (lt-ltb (digit_value c) base h.1.0) refl

digits_are : (base : ℕ) (ds : List ℕ) → IsNumeral base ds → are_digits base ds ≡ true
digits_are base ds h = rw (all_digits base ds h.1, some_digit base ds h) refl

-- ---- the front of a number

not_digit : (a c : ℕ) → is_ascii_digit a ≡ true → is_ascii_digit c ≡ false → eqb a c ≡ false
not_digit a c first other = false_from_ne_true (eqb a c) (λ same. true≢false (sym (subst (λ (x : ℕ). is_ascii_digit x ≡ true) (eqb-true a c same) first) ∙ other))

not_letter : (a : ℕ) → is_ascii_digit a ≡ true → is_ascii_alphabetic a ≡ false
not_letter a first = grind arith

digit_begins : (a b : ℕ) → is_ascii_digit a ≡ true → start_of a b ≡ start.Number
digit_begins a b first =
    let white : is_in class.White a ≡ false = rw (not_digit a 32 first refl, not_digit a 9 first refl, not_digit a 13 first refl, not_digit a 10 first refl, not_digit a 12 first refl) refl in
    rw (white, not_digit a 47 first refl, not_digit a 40 first refl, not_letter a first, not_digit a 95 first refl, not_digit a 92 first refl, first) refl

digits_begin : (ds rest : List ℕ) → IsNumeral 10 ds → begins (ds ++ rest) ≡ start.Number
unfolding begins
digits_begin [] rest h = absurd (omega (arith, h.0))
digits_begin (c ∷ ds) rest h = digit_begins c (get_or (ds ++ rest) 0 0) (decimal_byte c h.1.0)

-- the parts of a number say what it is
number_is : (text front tail : List ℕ) (quoted : Bool) (len : ℕ) (t : TokenKind) → begins text ≡ start.Number → size_part text ≡ front → is_quoted text ≡ quoted → tail_part quoted text ≡ tail
    → IsNumberOf quoted front tail len t → IsLexeme (begins text) text len t
number_is text front tail quoted len t start-is front-is quoted-is tail-is h =
    let with_tail : IsNumberOf quoted front (tail_part quoted text) len t = subst (λ (x : List ℕ). IsNumberOf quoted front x len t) (sym tail-is) h in
    let with_front : IsNumberOf quoted (size_part text) (tail_part quoted text) len t = subst (λ (x : List ℕ). IsNumberOf quoted x (tail_part quoted text) len t) (sym front-is) with_tail in
    let with_test : IsNumber text len t = subst (λ (q : Bool). IsNumberOf q (size_part text) (tail_part q text) len t) (sym quoted-is) with_front in
    subst (λ (s : Start). IsLexeme s text len t) (sym start-is) with_test

-- ---- decimals

plain_decimal : (b : ℕ) → is_in class.Word b ≡ false → is_in class.Decimal b ≡ false
plain_decimal b e = grind arith

decimal_value : (n : ℕ) → n < 2 ^ 31 → n ≡ value_of 10 (decimal n)
decimal_value n small = let is = decimal_is_IsNumeral n (omega arith) in sym (value_after 10 0 (decimal n) (omega arith) is.0.1 ∙ is.1)

pub put_decimal : (n : ℕ) (rest : List ℕ) (kinds : List TokenKind) → n < 2 ^ 31 → (is_in class.Word (get_or rest 0 0) || eqb (get_or rest 0 0) 39) ≡ false → Reads rest kinds → Reads (decimal n ++ rest) (kind.Decimal n ∷ kinds)
put_decimal n rest kinds small stops h =
    let ds : List ℕ = decimal n in
    let text : List ℕ = ds ++ rest in
    let is = decimal_is_IsNumeral n (omega arith) in
    let apart = or_parts (is_in class.Word (get_or rest 0 0)) (eqb (get_or rest 0 0) 39) stops in
    let front : size_part text ≡ ds = run_is (is_in class.Decimal) ds rest (all_decimal ds is.0.1) (plain_decimal (get_or rest 0 0) apart.0) in
    let behind : drop (length (size_part text)) text ≡ rest = rw front (drop_at ds rest (length ds) refl) in
    let next : get_or text (length (size_part text)) 0 ≡ get_or rest 0 0 = rw front (at_end ds rest) in
    let plain : is_quoted text ≡ false = ap (λ (b : ℕ). eqb b 39) next ∙ apart.1 in
    let tail : tail_part false text ≡ [] = ap (take_while (is_in class.Word)) behind ∙ run_is (is_in class.Word) [] rest refl apart.0 in
    let number : IsNumberOf false ds [] (length ds) (kind.Decimal n) = (omega arith, record { alone = refl; value = decimal_value n small; small = small }) in
    put_token ds rest (kind.Decimal n) kinds (number_is text ds [] false (length ds) (kind.Decimal n) (digits_begin ds rest is.0) front plain tail number) h
  where
    at_end : (xs ys : List ℕ) → get_or (xs ++ ys) (length xs) 0 ≡ get_or ys 0 0
    at_end [] ys = refl
    at_end (x ∷ xs) ys = at_end xs ys

-- ---- constants

size_value : (n : ℕ) → n ≤ 128 → n ≡ value_of 10 (decimal n)
size_value n narrow = decimal_value n (omega arith)

wide_value : (c : Constant) → IsConstant c → c.value < 16 ^ 64
wide_value c h =
    let wider = pow_mono {i = c.size} {j = 128} h.narrow in
    let fits = h.fits in
    omega (arith, wider, fits)

constant_is : (c : Constant) → IsConstant c → IsSized (value_of 10 (decimal c.size)) (104 ∷ digits 16 false c.value) c
constant_is c h =
    let hex : List ℕ = digits 16 false c.value in
    let is = digits_is_IsNumeral 16 false (omega arith) (omega arith) c.value (wide_value c h) in
    let size = size_value c.size h.narrow in
    record {
      size = size;
      some_bit = omega (arith, size, h.some_bit);
      narrow = omega (arith, size, h.narrow);
      base = omega arith;
      digits = digits_are 16 hex is.0;
      value = sym (value_after 16 0 hex (omega arith) is.0.1 ∙ is.1);
      fits = subst (λ (n : ℕ). c.value < 2 ^ n) size h.fits;
    }

-- a constant's bytes, and what follows, from its `'` on
constant_text : (c : Constant) (rest : List ℕ) → constant_bytes c ++ rest ≡ decimal c.size ++ 39 ∷ 104 ∷ (digits 16 false c.value ++ rest)
constant_text c rest =
    let hex : List ℕ = digits 16 false c.value in
    append_assoc (decimal c.size ++ 39 ∷ 104 ∷ []) hex rest ∙ append_assoc (decimal c.size) (39 ∷ 104 ∷ []) (hex ++ rest)

-- what stands behind the byte after some digits
drop_one : (xs ys : List ℕ) → drop (suc (length xs)) (xs ++ 39 ∷ ys) ≡ ys
drop_one [] ys = refl
drop_one (x ∷ xs) ys = drop_one xs ys

behind_quote : (xs ys : List ℕ) → drop (length xs + 1) (xs ++ 39 ∷ ys) ≡ ys
behind_quote xs ys =
    let one : length xs + 1 ≡ suc (length xs) = omega arith in
    ap (λ (n : ℕ). drop n (xs ++ 39 ∷ ys)) one ∙ drop_one xs ys

pub put_constant : (c : Constant) (rest : List ℕ) (kinds : List TokenKind) → IsConstant c → is_in class.Value (get_or rest 0 0) ≡ false → Reads rest kinds → Reads (constant_bytes c ++ rest) (kind.Sized c ∷ kinds)
put_constant c rest kinds h stops more =
    let ds : List ℕ = decimal c.size in
    let hex : List ℕ = digits 16 false c.value in
    let text : List ℕ = ds ++ 39 ∷ 104 ∷ (hex ++ rest) in
    let is = decimal_is_IsNumeral c.size (omega (arith, h.narrow)) in
    let value = digits_is_IsNumeral 16 false (omega arith) (omega arith) c.value (wide_value c h) in
    let front : size_part text ≡ ds = run_is (is_in class.Decimal) ds (39 ∷ 104 ∷ (hex ++ rest)) (all_decimal ds is.0.1) refl in
    let next : get_or text (length (size_part text)) 0 ≡ 39 = rw front (get_or_at ds 39 (104 ∷ (hex ++ rest)) 0 (length ds) refl) in
    let quoted : is_quoted text ≡ true = ap (λ (b : ℕ). eqb b 39) next in
    let behind : drop (length (size_part text) + 1) text ≡ 104 ∷ (hex ++ rest) = rw front (behind_quote ds (104 ∷ (hex ++ rest))) in
    let tail : tail_part true text ≡ 104 ∷ hex = ap (take_while (is_in class.Value)) behind ∙ run_is (is_in class.Value) (104 ∷ hex) rest (all_value hex value.0.1) stops in
    let len : length (constant_bytes c) ≡ length ds + 1 + length (104 ∷ hex) = omega (arith, length-append (ds ++ 39 ∷ 104 ∷ []) hex, length-append ds (39 ∷ 104 ∷ [])) in
    let number : IsNumberOf true ds (104 ∷ hex) (length (constant_bytes c)) (kind.Sized c) = (len, constant_is c h) in
    let lexeme : IsLexeme (begins text) text (length (constant_bytes c)) (kind.Sized c) = number_is text ds (104 ∷ hex) true (length (constant_bytes c)) (kind.Sized c) (digits_begin ds (39 ∷ 104 ∷ (hex ++ rest)) is.0) front quoted tail number in
    put_token (constant_bytes c) rest (kind.Sized c) kinds (subst (λ (t : List ℕ). IsLexeme (begins t) t (length (constant_bytes c)) (kind.Sized c)) (sym (constant_text c rest)) lexeme) more
