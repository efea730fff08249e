-- A word of digits that doesn't begin with `0` is the decimal of its value, and no other word is one.
use Rattle.std.proofs.Common.{◌≡◌, ℕ, ◌+◌, ◌*◌, ◌-◌, ◌^◌, ◌<◌, ◌≤◌, List, [], ◌∷◌, ◌++◌, length, get_or, take, drop, arith, refl, sym, ap, ◌∙◌, subst}
use Rattle.std.specs.Prelude.{fold}
use Rattle.std.specs.Int.{IsInRange}
use Rattle.std.specs.Fmt.{decimal}
use Rattle.std.proofs.lemmas.Fmt.{digits_decimal, decimal-digits_value, first_decimal, length-decimal-le}
use Rattle.std.proofs.lemmas.Str.Parse.{IsNumeralModel, FoldsDigits, numerals_by_fold, tells_by_index}
use Rattle.std.proofs.lemmas.List.{take-append-drop}
use Rattle.std.proofs.lemmas.List.Sums.{fold-append, fold_more}
use Rattle.eq_config.specs.Words.{IsShort, IsNumber, OneWord, value_of}
use Rattle.eq_config.specs.Entries.{IsOtherThan}

-- all bytes are digits
abbrev pub AreDigits : List ℕ → Type 0
AreDigits digits = (i : ℕ) → i < length digits → IsInRange 48 57 (get_or digits i 0)

-- the value of digits behind a number
abbrev pub value_on : ℕ → List ℕ → ℕ
value_on value digits = fold (λ value digit. 10 * value + (digit - 48)) value digits

-- digits and their value are what std calls a numeral
pub own : IsNumeralModel AreDigits value_of
own =
    let folds : FoldsDigits value_on = record {
      empty = λ n. refl;
      more = λ n c cs h. let same : 10 * n + (c - 48) ≡ n * 10 + (c - 48) = omega arith in ap (λ (m : ℕ). value_on m cs) same;
    } in
    numerals_by_fold AreDigits tells_by_index value_on folds

-- more digits make no smaller number
pub value_on-le : (n : ℕ) (digits : List ℕ) → n ≤ value_on n digits
value_on-le n [] = omega arith
value_on-le n (d ∷ digits) = omega (arith, value_on-le (10 * n + (d - 48)) digits)

pub value-le : (word : List ℕ) (i : ℕ) → value_of (take i word) ≤ value_of word
value-le word i =
    let whole : value_of (take i word ++ drop i word) ≡ value_on (value_of (take i word)) (drop i word) = fold-append (λ value digit. 10 * value + (digit - 48)) 0 (take i word) (drop i word) in
    let same : value_of (take i word ++ drop i word) ≡ value_of word = ap value_of (take-append-drop i word) in
    omega (arith, value_on-le (value_of (take i word)) (drop i word))

-- a digit more
pub value_more : (word : List ℕ) (i : ℕ) → i < length word → value_of (take (i + 1) word) ≡ 10 * value_of (take i word) + (get_or word i 0 - 48)
value_more word i within = fold_more (λ value digit. 10 * value + (digit - 48)) 0 word i 0 within

pub digits_more : (word : List ℕ) (i : ℕ) → ((k : ℕ) → k < i → IsInRange 48 57 (get_or word k 0)) → IsInRange 48 57 (get_or word i 0) → (k : ℕ) → k < i + 1 → IsInRange 48 57 (get_or word k 0)
digits_more word i before here = Rattle.std.proofs.Common.below_more (λ k. IsInRange 48 57 (get_or word k 0)) i before here

-- digits that don't begin with `0` are a number
pub is_number : (most : ℕ) (word : List ℕ) → most < 2 ^ 64 → AreDigits word → (get_or word 0 0 ≡ 48 → ⊥) → 1 ≤ value_of word → value_of word ≤ most → IsNumber most word
is_number most word fits digits first some within = record {
  spelled = sym (decimal-digits_value own word digits (long word some) (λ zero'. absurd (first zero')) (omega arith));
  some = some;
  within = within;
}
  where
    long : (word : List ℕ) → 1 ≤ value_of word → 0 < length word
    long [] some = absurd (omega arith)
    long (d ∷ ds) some = omega arith

-- and a number has digits alone
pub number_digits : (most : ℕ) (word : List ℕ) → most < 2 ^ 64 → IsNumber most word → AreDigits word
number_digits most word fits h = subst AreDigits (sym h.spelled) (digits_decimal own (value_of word) (let within = h.within in omega arith))

-- and doesn't begin with `0`
pub number_first : (most : ℕ) (word : List ℕ) → most < 2 ^ 64 → IsNumber most word → get_or word 0 0 ≡ 48 → ⊥
number_first most word fits h zero' =
    let some = h.some in
    let within = h.within in
    let begins = first_decimal (value_of word) (omega arith) (omega arith) in
    let same : get_or word 0 0 ≡ get_or (decimal (value_of word)) 0 0 = ap (λ (w : List ℕ). get_or w 0 0) h.spelled in
    omega arith

-- a number is a short word
pub number_short : (most : ℕ) (word : List ℕ) → most ≤ 200_000 → IsNumber most word → IsShort word
number_short most word fits h =
    let within = h.within in
    let least = length-decimal-le 6 (value_of word) (omega arith) (omega arith) (omega arith) in
    omega (arith, least, ap (λ (w : List ℕ). length w) h.spelled)

-- so one long word is neither a number nor another word for a number's place
pub no_long_number : (most : ℕ) (words : List (List ℕ)) (word : List ℕ) → most ≤ 200_000 → words ≡ word ∷ [] → ¬ IsShort word → (¬ OneWord (IsNumber most) words) × ¬ IsOtherThan most words
no_long_number most words word fits is long =
    let P : List (List ℕ) → Type 0 = λ ws. (¬ OneWord (IsNumber most) ws) × ¬ IsOtherThan most ws in
    subst P (sym is) ((λ h. long (number_short most word fits h)), (λ h. long h.0))
