-- Each text has tokens or a fault.
use Rattle.std.proofs.Common.{◌≡◌, ℕ, zero, suc, ◌+◌, ◌^◌, ◌<◌, ◌≤◌, Bool, true, false, ◌⊎◌, List, [], ◌∷◌, length, get_or, take, drop, Option, Some, None, refl, sym, subst, arith, inl, inr}
use Rattle.std.specs.List.{prefix_len}
use Rattle.std.proofs.lemmas.Bool.{cases_lt, cases_eq, cases_Bool, both_ways}
use Rattle.std.proofs.lemmas.List.{nil_from_length, length-drop}
use Rattle.eq_vlex.specs.declared.bytes.Class.TheVariants as class
use Rattle.eq_vlex.specs.declared.bytes.Start.{Start}
use Rattle.eq_vlex.specs.declared.bytes.Start.TheVariants as start
use Rattle.eq_vlex.specs.declared.fault.LexKind.{LexKind}
use Rattle.eq_vlex.specs.declared.fault.LexKind.TheVariants.{BadByte, OpenComment, OpenAttribute, BadNumber, XValue, TooWide}
use Rattle.eq_vlex.specs.declared.piece.Piece.{Piece}
use Rattle.eq_vlex.specs.declared.separator.Place.{Place}
use Rattle.eq_vlex.specs.declared.separator.Place.TheVariants.{Outside, Inside, Escaped}
use Rattle.eq_vlex.specs.declared.token.Constant.{Constant}
use Rattle.eq_vlex.specs.declared.token.Token.{Token}
use Rattle.eq_vlex.specs.declared.token.TokenKind.{TokenKind}
use Rattle.eq_vlex.specs.declared.token.TokenKind.TheVariants as token
use Rattle.eq_vlex.specs.Bytes.{is_in, begins}
use Rattle.eq_vlex.specs.Separators.{ClosesComment, ClosesAttribute, place_after, IsFirst}
use Rattle.eq_vlex.specs.Words.{key_of, word_or_key, simple_name, escaped_name, IsEscapedName}
use Rattle.eq_vlex.specs.Marks.{mark_at}
use Rattle.eq_vlex.specs.Numbers.{base_of, value_of, are_digits, has_unknown, IsSized, is_quoted, size_part, tail_part, IsNumberOf, IsBadNumberOf}
use Rattle.eq_vlex.specs.Pieces.{IsKind, IsFault, IsFront, BeginsFault}
use Rattle.eq_vlex.specs.Tokens.{tokens_from, bytes_in, HasTokens, HasFault}
use Rattle.eq_vlex.proofs.Moves.{stands, piece_within}

-- ---- what can be decided

abbrev Decided : Type 0 → Type 0
Decided P = P ⊎ (P → ⊥)

both : (P Q : Type 0) → Decided P → Decided Q → Decided (P × Q)
both P Q (inl p) (inl q) = inl (p, q)
both P Q (inl p) (inr never) = inr (λ h. never h.1)
both P Q (inr never) _ = inr (λ h. never h.0)

comment_decided : (body : List ℕ) (k : ℕ) → Decided (ClosesComment body k)
comment_decided body k = both (get_or body k 0 ≡ 42) (get_or body (k + 1) 0 ≡ 47) (cases_eq (get_or body k 0) 42) (cases_eq (get_or body (k + 1) 0) 47)

outside_decided : (p : Place) → Decided (p ≡ Outside)
outside_decided Outside = inl refl
outside_decided Inside = inr (λ e. absurd (cc))
outside_decided Escaped = inr (λ e. absurd (cc))

attribute_decided : (body : List ℕ) (k : ℕ) → Decided (ClosesAttribute body k)
attribute_decided body k =
    elim (both (get_or body k 0 ≡ 42) (get_or body (k + 1) 0 ≡ 41) (cases_eq (get_or body k 0) 42) (cases_eq (get_or body (k + 1) 0) 41)) [
      | inl bytes ↦ elim (outside_decided (place_after (take k body))) [
        | inl outside ↦ inl (bytes.0, bytes.1, outside)
        | inr never ↦ inr (λ h. never h.2)
      ]
      | inr never ↦ inr (λ h. never (h.0, h.1))
    ]

first_or_none : (P : ℕ → Type 0) → ((k : ℕ) → Decided (P k)) → (n : ℕ) → ((k : ℕ) × IsFirst P k) ⊎ ((k : ℕ) → k < n → P k → ⊥)
first_or_none P decided zero = inr (λ k below here. absurd (omega arith))
first_or_none P decided (suc n) =
    elim (first_or_none P decided n) [
      | inl found ↦ inl found
      | inr none ↦ elim (decided n) [
        | inl here ↦ inl (n, record { here = here; none_before = none })
        | inr never ↦ inr (λ k below. elim (cases_eq k n) [
          | inl same ↦ subst (λ (j : ℕ). P j → ⊥) (sym same) never
          | inr other ↦ none k (omega arith)
        ])
      ]
    ]

option_cases : {X : Type 0} (o : Option X) → ((x : X) × (o ≡ Some x)) ⊎ (o ≡ None)
option_cases None = inr refl
option_cases (Some x) = inl (x, refl)

-- ---- numbers

abbrev SizedOrNot : ℕ → List ℕ → Type 0
SizedOrNot bits tail = ((c : Constant) × IsSized bits tail c) ⊎ ((c : Constant) → IsSized bits tail c → ⊥)

digits_or_not : (bits : ℕ) (tail : List ℕ) → bits ≤ 128 → 0 < bits → 0 < base_of (get_or tail 0 0) → SizedOrNot bits tail
digits_or_not bits tail narrow some base =
    let digits : List ℕ = drop 1 tail in
    let value : ℕ = value_of (base_of (get_or tail 0 0)) digits in
    elim (cases_Bool (are_digits (base_of (get_or tail 0 0)) digits)) [
      | inr other ↦ inr (λ c h. both_ways (are_digits (base_of (get_or tail 0 0)) digits) other h.digits)
      | inl all ↦ elim (cases_lt value (2 ^ bits)) [
        | inl small ↦ inl (record { size = bits; value = value }, record { size = refl; some_bit = some; narrow = narrow; base = base; digits = all; value = refl; fits = small })
        | inr large ↦ inr (λ c h. let is = h.value in let fits = h.fits in absurd (omega (arith, is, fits, large)))
      ]
    ]

sized_or_not : (bits : ℕ) (tail : List ℕ) → bits ≤ 128 → SizedOrNot bits tail
sized_or_not bits tail narrow =
    elim (cases_lt 0 bits) [
      | inr none ↦ inr (λ c h. let some = h.some_bit in absurd (omega (arith, some, none)))
      | inl some ↦ elim (cases_lt 0 (base_of (get_or tail 0 0))) [
        | inl base ↦ digits_or_not bits tail narrow some base
        | inr none ↦ inr (λ c h. let base = h.base in absurd (omega (arith, base, none)))
      ]
    ]

number_or_fault : (quoted : Bool) (front tail : List ℕ) → ((len : ℕ) × (kind : TokenKind) × IsNumberOf quoted front tail len kind) ⊎ ((f : LexKind) × IsBadNumberOf quoted front tail f)
number_or_fault false front tail =
    elim (cases_eq (length tail) 0) [
      | inr more ↦ inr (BadNumber, (refl, λ n h. more h.alone))
      | inl alone ↦ elim (cases_lt (value_of 10 front) (2 ^ 31)) [
        | inl small ↦ inl (length front + length tail, token.Decimal (value_of 10 front), (refl, record { alone = alone; value = refl; small = small }))
        | inr large ↦ inr (BadNumber, (refl, λ n h. let is = h.value in let small = h.small in absurd (omega (arith, is, small, large))))
      ]
    ]
number_or_fault true front tail =
    elim (cases_Bool (has_unknown tail)) [
      | inl unknown ↦ inr (XValue, unknown)
      | inr known ↦ elim (cases_lt 128 (value_of 10 front)) [
        | inl wide ↦ inr (TooWide, (known, wide))
        | inr narrow ↦ elim (sized_or_not (value_of 10 front) tail narrow) [
          | inl sized ↦ inl (length front + 1 + length tail, token.Sized sized.0, (refl, sized.1))
          | inr never ↦ inr (BadNumber, (known, narrow, never))
        ]
      ]
    ]

-- ---- pieces

abbrev PieceOrFault : Start → List ℕ → Type 0
PieceOrFault s text = ((len : ℕ) × (kind : Option TokenKind) × IsKind s text len kind) ⊎ ((f : LexKind) × IsFault s text f)

escaped_decided : (text : List ℕ) → Decided (IsEscapedName text)
escaped_decided text =
    let n : ℕ = length (escaped_name text) in
    elim (cases_lt 0 n) [
      | inr none ↦ inr (λ h. let some = h.some in absurd (omega (arith, some, none)))
      | inl some ↦ elim (cases_Bool (is_in class.White (get_or text (n + 1) 0))) [
        | inl white ↦ inl (record { some = some; ends = λ more. white })
        | inr other ↦ elim (cases_lt (n + 1) (length text)) [
          | inl more ↦ inr (λ h. both_ways (is_in class.White (get_or text (n + 1) 0)) other (h.ends more))
          | inr end ↦ inl (record { some = some; ends = λ more. absurd (omega (arith, more, end)) })
        ]
      ]
    ]

piece_or_fault : (s : Start) (text : List ℕ) → PieceOrFault s text
piece_or_fault start.White text = inl (prefix_len (is_in class.White) text, None, refl)
piece_or_fault start.LineComment text = inl (prefix_len (is_in class.Line) text, None, refl)
piece_or_fault start.BlockComment text =
    elim (first_or_none (ClosesComment (drop 2 text)) (comment_decided (drop 2 text)) (length (drop 2 text))) [
      | inl found ↦ inl (found.0 + 4, None, (found.0, found.1, refl))
      | inr none ↦ inr (OpenComment, (refl, λ k h. none k (stands (drop 2 text) k 41 h.0) h))
    ]
piece_or_fault start.Attribute text =
    elim (first_or_none (ClosesAttribute (drop 2 text)) (attribute_decided (drop 2 text)) (length (drop 2 text))) [
      | inl found ↦ inl (found.0 + 4, None, (found.0, found.1, refl))
      | inr none ↦ inr (OpenAttribute, (refl, λ k h. none k (stands (drop 2 text) k 41 h.0) h))
    ]
piece_or_fault start.SimpleName text = inl (length (simple_name text), Some (word_or_key (key_of (simple_name text)) (simple_name text)), (refl, refl))
piece_or_fault start.EscapedName text =
    elim (escaped_decided text) [
      | inl escaped ↦ inl (length (escaped_name text) + 1, Some (token.Word (escaped_name text)), (escaped, refl, refl))
      | inr never ↦ inr (BadByte, (refl, never))
    ]
piece_or_fault start.Number text =
    elim (number_or_fault (is_quoted text) (size_part text) (tail_part (is_quoted text) text)) [
      | inl found ↦ inl (found.0, Some found.1, found.2)
      | inr bad ↦ inr (bad.0, bad.1)
    ]
piece_or_fault start.Other text =
    elim (option_cases (mark_at text)) [
      | inl found ↦ inl (found.0.1, Some (token.Mark found.0.0), (found.0.0, found.1, refl))
      | inr none ↦ inr (BadByte, (refl, none))
    ]

-- ---- texts

abbrev WholeOrFault : List ℕ → Type 0
WholeOrFault text = ((ps : List Piece) × IsFront ps text []) ⊎ ((ps : List Piece) × (rest : List ℕ) × (f : LexKind) × IsFront ps text rest × BeginsFault rest f)

pieces_or_fault : (n : ℕ) (text : List ℕ) → length text ≤ n → WholeOrFault text
pieces_or_fault zero text le = inl ([], nil_from_length text (omega arith))
pieces_or_fault (suc n) text le =
    elim (cases_lt 0 (length text)) [
      | inr none ↦ inl ([], nil_from_length text (omega arith))
      | inl some ↦ elim (piece_or_fault (begins text) text) [
        | inr bad ↦ inr ([], text, bad.0, refl, (some, bad.1))
        | inl found ↦
            let piece : Piece = record { len = found.0; kind = found.1 } in
            let inside = piece_within text piece found.2 in
            elim (pieces_or_fault n (drop found.0 text) (omega (arith, inside, length-drop found.0 text))) [
              | inl whole ↦ inl (piece ∷ whole.0, (found.2, whole.1))
              | inr bad ↦ inr (piece ∷ bad.0, bad.1, bad.2, (found.2, bad.3), bad.4)
            ]
      ]
    ]

pub tokens_or_fault : (text : List ℕ) → ((ts : List Token) × HasTokens text ts) ⊎ ((at : ℕ) × (f : LexKind) × HasFault text at f)
tokens_or_fault text =
    elim (pieces_or_fault (length text) text (omega arith)) [
      | inl whole ↦ inl (tokens_from 0 whole.0, record { pieces = whole.0; whole = whole.1; tokens_are = refl })
      | inr bad ↦ inr (bytes_in bad.0, bad.2, record { pieces = bad.0; rest = bad.1; front = bad.3; at_is = refl; fault_is = bad.4 })
    ]
