-- A text of lines is divided into its words in one way: by a function from texts to lines of words.
use Rattle.std.proofs.Common.{◌≡◌, ℕ, ◌+◌, ◌%◌, ◌^◌, ◌<◌, Bool, true, false, cond, List, [], ◌∷◌, ◌++◌, map, arith, refl, ap, ◌∙◌, append_assoc}
use Rattle.std.specs.Prelude.{◌==◌, nat_le}
use Rattle.std.specs.Fmt.{decimal}
use Rattle.std.specs.List.{AllByRecursion}
use Rattle.std.proofs.lemmas.Bool.Decides.{nat_tests}
use Rattle.std.proofs.lemmas.Fmt.{decimal_by_steps}
use Rattle.std.proofs.lemmas.List.Elements.{recursion_from_All}
use Rattle.eq_names.specs.Name.{IsName}
use Rattle.eq_wit.specs.Line.{Field, Line, spaced_fields, field_text, line_text, lines_text}

-- neither a blank nor a line feed
abbrev pub stays : ℕ → Bool
stays b = nat_le 33 b

abbrev pub IsWord : List ℕ → Type 0
IsWord word = AllByRecursion (λ b. stays b ≡ true) word

pub IsWord-name : (name : List ℕ) → IsName name → IsWord name
IsWord-name name h = recursion_from_All (λ b. stays b ≡ true) name (λ k d less.
    let fits = h.bytes k d less in grind (arith, nat_tests, fits.0))

pub IsWord-append : (a b : List ℕ) → IsWord a → IsWord b → IsWord (a ++ b)
IsWord-append [] b h k = k
IsWord-append (x ∷ a) b h k = (h.0, IsWord-append a b h.1 k)

digit_stays : (d : ℕ) → stays (48 + d) ≡ true
digit_stays d = grind (arith, nat_tests)

pub IsWord-decimal : (n : ℕ) → n < 2 ^ 64 → IsWord (decimal n)
IsWord-decimal n h =
    let P : ℕ → List ℕ → Type 0 = λ n ds. IsWord ds in
    decimal_by_steps P (λ n small. (digit_stays n, tt))
    (λ n ds big before. IsWord-append ds ((48 + n % 10) ∷ []) before (digit_stays (n % 10), tt)) n h

-- ---- dividing

abbrev pub Words : Type 0
Words = List (List ℕ)

-- a byte more at the front of the first word of the first line
abbrev with_byte : ℕ → List Words → List Words
with_byte b [] = []
with_byte b ([] ∷ lines) = [] ∷ lines
with_byte b ((word ∷ words) ∷ lines) = ((b ∷ word) ∷ words) ∷ lines

-- an empty word more at the front of the first line
abbrev with_word : List Words → List Words
with_word [] = []
with_word (words ∷ lines) = ([] ∷ words) ∷ lines

abbrev pub divided : List ℕ → List Words
divided [] = ([] ∷ []) ∷ []
divided (b ∷ bytes) = cond (b == 10) (([] ∷ []) ∷ divided bytes)
    (cond (b == 32) (with_word (divided bytes)) (with_byte b (divided bytes)))

-- the words of a line
abbrev pub words_of : Line → Words
words_of line = map field_text line

abbrev pub AreWords : Line → Type 0
AreWords line = AllByRecursion (λ field. IsWord (field_text field)) line

-- a line has a field, and each is a word
abbrev pub IsPlainLine : Line → Type 0
IsPlainLine [] = ⊥
IsPlainLine (field ∷ fields) = AreWords (field ∷ fields)

divided_byte : (b : ℕ) (bytes : List ℕ) → stays b ≡ true → divided (b ∷ bytes) ≡ with_byte b (divided bytes)
divided_byte b bytes h =
    let feed : (b == 10) ≡ false = grind (arith, nat_tests, h) in
    let blank : (b == 32) ≡ false = grind (arith, nat_tests, h) in
    ap (λ (t : Bool). cond t (([] ∷ []) ∷ divided bytes) (cond (b == 32) (with_word (divided bytes)) (with_byte b (divided bytes)))) feed
    ∙ ap (λ (t : Bool). cond t (with_word (divided bytes)) (with_byte b (divided bytes))) blank

-- a word before what divides into a line that begins with an empty word
divided_word : (word rest : List ℕ) (words : Words) (lines : List Words) → IsWord word →
    divided rest ≡ ([] ∷ words) ∷ lines → divided (word ++ rest) ≡ (word ∷ words) ∷ lines
divided_word [] rest words lines h e = e
divided_word (b ∷ word) rest words lines h e =
    divided_byte b (word ++ rest) h.0 ∙ ap (with_byte b) (divided_word word rest words lines h.1 e)

divided_blanks : (fields : List Field) (rest : List ℕ) → AreWords fields →
    divided (spaced_fields fields ++ 10 ∷ rest) ≡ ([] ∷ words_of fields) ∷ divided rest
divided_blanks [] rest h = refl
divided_blanks (field ∷ fields) rest h =
    ap divided (append_assoc (32 ∷ field_text field) (spaced_fields fields) (10 ∷ rest))
    ∙ ap with_word (divided_word (field_text field) (spaced_fields fields ++ 10 ∷ rest) (words_of fields) (divided rest)
    h.0 (divided_blanks fields rest h.1))

pub divided_line : (line : Line) (rest : List ℕ) → IsPlainLine line →
    divided (line_text line ++ rest) ≡ words_of line ∷ divided rest
divided_line [] rest h = absurd h
divided_line (field ∷ fields) rest h =
    ap divided (append_assoc (field_text field) (spaced_fields fields ++ 10 ∷ []) rest
    ∙ ap (λ (t : List ℕ). field_text field ++ t) (append_assoc (spaced_fields fields) (10 ∷ []) rest))
    ∙ divided_word (field_text field) (spaced_fields fields ++ 10 ∷ rest) (words_of fields) (divided rest) h.0
    (divided_blanks fields rest h.1)

-- a text of plain lines divides into their words
pub divided_lines : (lines : List Line) → AllByRecursion IsPlainLine lines →
    divided (lines_text lines) ≡ map words_of lines ++ ([] ∷ []) ∷ []
divided_lines [] h = refl
divided_lines (line ∷ lines) h = divided_line line (lines_text lines) h.0
    ∙ ap (λ (ls : List Words). words_of line ∷ ls) (divided_lines lines h.1)
