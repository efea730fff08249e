-- A piece has a byte, and its bytes are in the text.
use Rattle.std.proofs.Common.{◌≡◌, ℕ, suc, ◌+◌, ◌<◌, ◌≤◌, Bool, true, false, eqb, ◌||◌, List, [], ◌∷◌, length, get_or, drop, Option, Some, None, refl, sym, subst, ◌∙◌, arith, inl, inr}
use Rattle.std.specs.List.{prefix_len, take_while}
use Rattle.std.specs.Char.{is_ascii_digit}
use Rattle.std.proofs.lemmas.Bool.{cases_lt, eqb-true, or_left, or_cases, false≢true}
use Rattle.std.proofs.lemmas.List.{get_or_past, length-take, length-drop}
use Rattle.std.proofs.lemmas.List.Sums.{prefix_len-le-length}
use Rattle.eq_vlex.specs.declared.bytes.Class.{Class}
use Rattle.eq_vlex.specs.declared.bytes.Class.TheVariants as class
use Rattle.eq_vlex.specs.declared.bytes.Start.{Start}
use Rattle.eq_vlex.specs.declared.bytes.Start.TheVariants as start
use Rattle.eq_vlex.specs.declared.mark.Mark.{Mark}
use Rattle.eq_vlex.specs.declared.piece.Piece.{Piece}
use Rattle.eq_vlex.specs.declared.token.TokenKind.{TokenKind}
use Rattle.eq_vlex.specs.declared.token.TokenKind.TheVariants as token
use Rattle.eq_vlex.specs.Bytes.{is_in, begins}
use Rattle.eq_vlex.specs.Words.{escaped_name, IsEscapedName}
use Rattle.eq_vlex.specs.Marks.{marks, mark_at}
use Rattle.eq_vlex.specs.Numbers.{size_part, is_quoted, quoted_part, plain_part, tail_part, IsNumberOf}
use Rattle.eq_vlex.specs.Pieces.{IsKind, IsPiece}
use Rattle.eq_vlex.proofs.Beginnings.{white_first, line_first, simple_first, number_first}
use Rattle.eq_vlex.proofs.Naming.{run_some}
use Rattle.eq_vlex.proofs.Tables.{row_within}

abbrev Within : List ℕ → ℕ → Type 0
Within text len = (0 < len) × (len ≤ length text)

-- the length of a run
length_run : (c : Class) (text : List ℕ) → length (take_while (is_in c) text) ≡ prefix_len (is_in c) text
length_run c text =
    let fits = prefix_len-le-length (is_in c) text in
    omega (arith, length-take (prefix_len (is_in c) text) text)

run_within : (c : Class) (text : List ℕ) (len : ℕ) → len ≡ prefix_len (is_in c) text → 0 < prefix_len (is_in c) text → Within text len
run_within c text len len-is some = (omega arith, omega (arith, prefix_len-le-length (is_in c) text))

-- a byte that is not 0 stands in the list
pub stands : (text : List ℕ) (k b : ℕ) → get_or text k 0 ≡ suc b → k < length text
stands text k b e =
    elim (cases_lt k (length text)) [
      | inl lt ↦ lt
      | inr le ↦ let past = get_or_past text k 0 le in absurd (omega (arith, past, e))
    ]

closed_within : (text : List ℕ) (k b len : ℕ) → get_or (drop 2 text) (k + 1) 0 ≡ suc b → len ≡ k + 4 → Within text len
closed_within text k b len e len-is =
    let inside = stands (drop 2 text) (k + 1) b e in
    (omega arith, omega (arith, inside, length-drop 2 text))

escaped_within : (text : List ℕ) (len : ℕ) → IsEscapedName text → len ≡ length (escaped_name text) + 1 → Within text len
escaped_within text len escaped len-is =
    let run = length_run class.Visible (drop 1 text) in
    let fits = prefix_len-le-length (is_in class.Visible) (drop 1 text) in
    let some = escaped.some in
    (omega arith, omega (arith, run, fits, some, length-drop 1 text))

quoted_within : (text : List ℕ) (len : ℕ) → is_quoted text ≡ true → len ≡ length (size_part text) + 1 + length (quoted_part text) → Within text len
quoted_within text len quoted len-is =
    let n : ℕ = length (size_part text) in
    let inside = stands text n 38 (eqb-true (get_or text n 0) 39 quoted) in
    let run = length_run class.Value (drop (n + 1) text) in
    let fits = prefix_len-le-length (is_in class.Value) (drop (n + 1) text) in
    (omega arith, omega (arith, inside, run, fits, length-drop (n + 1) text))

plain_within : (text : List ℕ) (len : ℕ) → 0 < prefix_len (is_in class.Decimal) text → len ≡ length (size_part text) + length (plain_part text) → Within text len
plain_within text len some len-is =
    let n : ℕ = length (size_part text) in
    let front = length_run class.Decimal text in
    let within = prefix_len-le-length (is_in class.Decimal) text in
    let run = length_run class.Word (drop n text) in
    let fits = prefix_len-le-length (is_in class.Word) (drop n text) in
    (omega (arith, front, some), omega (arith, front, within, run, fits, length-drop n text))

-- a text that begins with `/` begins with a byte that is no line feed
line_some : (text : List ℕ) → get_or text 0 0 ≡ 47 → 0 < prefix_len (is_in class.Line) text
line_some [] e = absurd (omega arith)
line_some (b ∷ bs) e = rw e (omega arith)

-- a number without a `'` begins with a digit
decimal_some : (text : List ℕ) → (is_ascii_digit (get_or text 0 0) || eqb (get_or text 0 0) 39) ≡ true → is_quoted text ≡ false → 0 < prefix_len (is_in class.Decimal) text
decimal_some [] first plain = absurd cc
decimal_some (b ∷ bs) first plain =
    elim (or_cases (is_ascii_digit b) (eqb b 39) first) [
      | inl digit ↦ let decimal : is_in class.Decimal b ≡ true = or_left (is_ascii_digit b) (eqb b 95) digit in rw decimal (omega arith)
      | inr quote ↦ let quoted : true ≡ false = subst (λ (x : ℕ). is_quoted (x ∷ bs) ≡ false) (eqb-true b 39 quote) plain in absurd (false≢true (sym quoted))
    ]

number_within : (text : List ℕ) (len : ℕ) (kind : TokenKind) (quoted : Bool) → is_quoted text ≡ quoted → begins text ≡ start.Number → IsNumberOf quoted (size_part text) (tail_part quoted text) len kind → Within text len
number_within text len (token.Sized c) true is e h = quoted_within text len is h.0
number_within text len (token.Decimal n) false is e h = plain_within text len (decimal_some text (number_first text e) is) h.0
number_within text len _ true is e h = absurd h
number_within text len _ false is e h = absurd h

mark_bytes : (text : List ℕ) (m : Mark) (len : ℕ) → mark_at text ≡ Some (m, len) → Within text len
unfolding mark_at
mark_bytes text m len e = row_within marks text m len refl e

kind_within : (s : Start) (text : List ℕ) (len : ℕ) (kind : Option TokenKind) → begins text ≡ s → IsKind s text len kind → Within text len
kind_within start.White text len None e h = run_within class.White text len h (run_some class.White text refl (white_first text e))
kind_within start.LineComment text len None e h = run_within class.Line text len h (line_some text (line_first text e))
kind_within start.BlockComment text len None e h = closed_within text h.0 46 len h.1.here.1 h.2
kind_within start.Attribute text len None e h = closed_within text h.0 40 len h.1.here.1 h.2
kind_within start.SimpleName text len (Some kind) e h = run_within class.Simple text len (h.0 ∙ length_run class.Simple text) (run_some class.Simple text refl (simple_first text e))
kind_within start.EscapedName text len (Some kind) e h = escaped_within text len h.0 h.1
kind_within start.Number text len (Some kind) e h = number_within text len kind (is_quoted text) refl e h
kind_within start.Other text len (Some kind) e h = mark_bytes text h.0 len h.1
kind_within _ text len _ e h = absurd h

-- a piece has a byte, and its bytes are in the text
pub piece_within : (text : List ℕ) (p : Piece) → IsPiece text p → (0 < p.len) × (p.len ≤ length text)
piece_within text p h = kind_within (begins text) text p.len p.kind refl h
