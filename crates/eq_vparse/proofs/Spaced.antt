-- Tokens that may follow one another are legible with spaces between words.
use Rattle.std.proofs.Common.{◌≡◌, ℕ, ◌^◌, ◌<◌, Bool, true, false, cond, not, eqb, ◌&&◌, ◌||◌, List, [], ◌∷◌, ◌++◌, length, get_or, map, refl, sym, ap, subst, ◌∙◌, arith, inl, inr}
use Rattle.std.specs.Char.{is_ascii_digit, is_ascii_alphabetic}
use Rattle.std.specs.Fmt.{decimal, digits}
use Rattle.std.specs.List.{list_all, list_any, AllByRecursion}
use Rattle.std.proofs.lemmas.Bool.{cases_Bool, and_parts, or_right, or_left, eqb-true, false_from_ne_true, true≢false}
use Rattle.std.proofs.lemmas.Fmt.{decimal_is_IsNumeral}
use Rattle.std.proofs.lemmas.List.{length-append}
use Rattle.std.specs.Str.Parse.{IsNumeral}
use Rattle.eq_vlex.specs.declared.bytes.Class.TheVariants as class
use Rattle.eq_vlex.specs.declared.mark.Mark.{Mark}
use Rattle.eq_vlex.specs.declared.mark.Mark.TheVariants as mark
use Rattle.eq_vlex.specs.declared.token.Constant.{Constant}
use Rattle.eq_vlex.specs.declared.token.Token.{Token}
use Rattle.eq_vlex.specs.declared.token.TokenKind.{TokenKind}
use Rattle.eq_vlex.specs.declared.token.TokenKind.TheVariants as kind
use Rattle.eq_vlex.specs.Bytes.{is_in}
use Rattle.eq_vlex.specs.Tokens.{HasTokens}
use Rattle.eq_vparse.specs.Layout.{Written, token, space, line, begins_simple, is_simple, name_bytes, key_bytes, mark_bytes, constant_bytes, spelled, bytes_of, tokens_of, lengthening, may_touch, IsConstant, IsPrintable, IsLegible, is_word, is_open, begins_word, spaced, may_follow, follows, all_follow}
use Rattle.eq_vparse.proofs.TextPieces.{first_stays}
use Rattle.eq_vparse.proofs.NumberPieces.{decimal_byte}
use Rattle.eq_vparse.proofs.WordPieces.{some_bytes, key_first}
use Rattle.eq_vparse.proofs.Legible.{legible}

-- ---- the first byte of a word

-- a letter, a digit, `_` or `\`
abbrev is_first : ℕ → Bool
is_first b = is_ascii_alphabetic b || eqb b 95 || is_ascii_digit b || eqb b 92

digit_first : (b : ℕ) → is_ascii_digit b ≡ true → is_first b ≡ true
digit_first b e = or_left (is_ascii_alphabetic b || eqb b 95 || is_ascii_digit b) (eqb b 92) (or_right (is_ascii_alphabetic b || eqb b 95) (is_ascii_digit b) e)

letter_first : (b : ℕ) → (is_ascii_alphabetic b || eqb b 95) ≡ true → is_first b ≡ true
letter_first b e = or_left (is_ascii_alphabetic b || eqb b 95 || is_ascii_digit b) (eqb b 92) (or_left (is_ascii_alphabetic b || eqb b 95) (is_ascii_digit b) e)

decimal_first : (n : ℕ) → n < 2 ^ 31 → (0 < length (decimal n)) × (is_first (get_or (decimal n) 0 0) ≡ true)
decimal_first n small = by (decimal n) (decimal_is_IsNumeral n (omega arith)).0
  where
    by : (ds : List ℕ) → IsNumeral 10 ds → (0 < length ds) × (is_first (get_or ds 0 0) ≡ true)
    by [] h = absurd (omega (arith, h.0))
    by (d ∷ ds) h = (omega arith, digit_first d (decimal_byte d h.1.0))

name_first : (name : List ℕ) → (0 < length (name_bytes name)) × (is_first (get_or (name_bytes name) 0 0) ≡ true)
unfolding is_simple
name_first name =
    let P : Bool → Type 0 = λ s. (0 < length (cond s name (92 ∷ name ++ 32 ∷ []))) × (is_first (get_or (cond s name (92 ∷ name ++ 32 ∷ [])) 0 0) ≡ true) in
    elim (cases_Bool (is_simple name)) [
      | inl simple ↦
          let first : begins_simple name ≡ true = (and_parts (begins_simple name) (list_all (is_in class.Simple) name) (and_parts (begins_simple name && list_all (is_in class.Simple) name) _ simple).0).0 in
          subst P (sym simple) (some_bytes name first, letter_first (get_or name 0 0) first)
      | inr other ↦ subst P (sym other) (omega arith, refl)
    ]

constant_first : (c : Constant) → IsConstant c → (0 < length (constant_bytes c)) × (is_first (get_or (constant_bytes c) 0 0) ≡ true)
constant_first c h =
    let size : List ℕ = decimal c.size in
    let hex : List ℕ = digits 16 false c.value in
    let first = decimal_first c.size (omega (arith, h.narrow)) in
    let more : 0 < length (size ++ 39 ∷ 104 ∷ []) = omega (arith, length-append size (39 ∷ 104 ∷ []), first.0) in
    let same : get_or (constant_bytes c) 0 0 ≡ get_or size 0 0 = first_stays (size ++ 39 ∷ 104 ∷ []) hex more ∙ first_stays size (39 ∷ 104 ∷ []) first.0 in
    (omega (arith, length-append (size ++ 39 ∷ 104 ∷ []) hex, more), ap is_first same ∙ first.1)

word_first : (t : TokenKind) → IsPrintable t → is_word t ≡ true → (0 < length (spelled t)) × (is_first (get_or (spelled t) 0 0) ≡ true)
word_first (kind.Word name) h w = name_first name
word_first (kind.Key k) h w = (some_bytes (key_bytes k) (key_first k h), letter_first (get_or (key_bytes k) 0 0) (key_first k h))
word_first (kind.Decimal n) h w = decimal_first n h
word_first (kind.Sized c) h w = constant_first c h
word_first (kind.Mark m) h w = absurd cc

-- ---- marks

not_first : (b c : ℕ) → is_first b ≡ true → is_first c ≡ false → eqb b c ≡ false
not_first b c first other = false_from_ne_true (eqb b c) (λ same. true≢false (sym (subst (λ (x : ℕ). is_first x ≡ true) (eqb-true b c same) first) ∙ other))

-- no mark goes on with the first byte of a word
first_apart : (m : Mark) (b : ℕ) → is_first b ≡ true → list_any (λ x. eqb b x) (lengthening m) ≡ false
first_apart mark.Assign b e = rw (not_first b 61 e refl) refl
first_apart mark.Exclamation b e = rw (not_first b 61 e refl) refl
first_apart mark.Less b e = rw (not_first b 61 e refl, not_first b 60 e refl) refl
first_apart mark.Greater b e = rw (not_first b 61 e refl, not_first b 62 e refl) refl
first_apart mark.And b e = rw (not_first b 38 e refl) refl
first_apart mark.Or b e = rw (not_first b 124 e refl) refl
first_apart mark.Tilde b e = rw (not_first b 38 e refl, not_first b 124 e refl, not_first b 94 e refl) refl
first_apart mark.Xor b e = rw (not_first b 126 e refl) refl
first_apart mark.Equal b e = rw (not_first b 61 e refl) refl
first_apart mark.NotEqual b e = rw (not_first b 61 e refl) refl
first_apart mark.LeftParen b e = rw (not_first b 42 e refl) refl
first_apart _ b e = refl

mark_some : (m : Mark) → 0 < length (mark_bytes m)
mark_some mark.Assign = omega arith
mark_some _ = omega arith

simple_apart : (n : Mark) → is_in class.Simple (get_or (mark_bytes n) 0 0) ≡ false
simple_apart mark.Assign = refl
simple_apart _ = refl

number_apart : (n : Mark) → (is_in class.Word (get_or (mark_bytes n) 0 0) || eqb (get_or (mark_bytes n) 0 0) 39) ≡ false
number_apart mark.Assign = refl
number_apart _ = refl

value_apart : (c : Constant) (n : Mark) → may_follow (kind.Sized c) (kind.Mark n) ≡ true → is_in class.Value (get_or (mark_bytes n) 0 0) ≡ false
value_apart c mark.Question e = absurd cc
value_apart c _ e = refl

-- ---- one token behind another

spelled_some : (t : TokenKind) → IsPrintable t → 0 < length (spelled t)
spelled_some (kind.Mark m) h = mark_some m
spelled_some (kind.Word name) h = (word_first (kind.Word name) h refl).0
spelled_some (kind.Key k) h = (word_first (kind.Key k) h refl).0
spelled_some (kind.Decimal n) h = (word_first (kind.Decimal n) h refl).0
spelled_some (kind.Sized c) h = (word_first (kind.Sized c) h refl).0

not_and_false : (b : Bool) → not (b && false) ≡ true
not_and_false true = refl
not_and_false false = refl

no_and_true : (b : Bool) → (b && true) ≡ false → b ≡ false
no_and_true true e = absurd cc
no_and_true false e = refl

-- a name with a `\` may stand before each byte
escaped_touches : (name : List ℕ) (b : ℕ) → is_simple name ≡ false → may_touch (kind.Word name) b ≡ true
escaped_touches name b e = ap (λ (s : Bool). not (s && is_in class.Simple b)) e

mark_touches : (m : Mark) (u : TokenKind) → IsPrintable u → is_word u ≡ true → may_touch (kind.Mark m) (get_or (spelled u) 0 0) ≡ true
mark_touches m u h w = ap not (first_apart m (get_or (spelled u) 0 0) (word_first u h w).1)

touches_mark : (t : TokenKind) (n : Mark) → may_follow t (kind.Mark n) ≡ true → may_touch t (get_or (mark_bytes n) 0 0) ≡ true
touches_mark (kind.Word name) n e = ap (λ (b : Bool). not (is_simple name && b)) (simple_apart n) ∙ not_and_false (is_simple name)
touches_mark (kind.Key k) n e = ap not (simple_apart n)
touches_mark (kind.Decimal d) n e = ap not (number_apart n)
touches_mark (kind.Sized c) n e = ap not (value_apart c n e)
touches_mark (kind.Mark m) n e = e

touches_word : (t u : TokenKind) → IsPrintable u → is_word u ≡ true → (is_open t && true) ≡ false → may_touch t (get_or (spelled u) 0 0) ≡ true
touches_word (kind.Word name) u h w gap = escaped_touches name (get_or (spelled u) 0 0) (no_and_true (is_simple name) gap)
touches_word (kind.Key k) u h w gap = absurd cc
touches_word (kind.Decimal d) u h w gap = absurd cc
touches_word (kind.Sized c) u h w gap = absurd cc
touches_word (kind.Mark m) u h w gap = mark_touches m u h w

touches : (t u : TokenKind) → IsPrintable u → (is_open t && is_word u) ≡ false → may_follow t u ≡ true → may_touch t (get_or (spelled u) 0 0) ≡ true
touches t (kind.Mark n) h gap e = touches_mark t n e
touches t (kind.Word name) h gap e = touches_word t (kind.Word name) h refl gap
touches t (kind.Key k) h gap e = touches_word t (kind.Key k) h refl gap
touches t (kind.Decimal d) h gap e = touches_word t (kind.Decimal d) h refl gap
touches t (kind.Sized c) h gap e = touches_word t (kind.Sized c) h refl gap

mark_before : (m : Mark) → (may_touch (kind.Mark m) 0 ≡ true) × (may_touch (kind.Mark m) 10 ≡ true) × (may_touch (kind.Mark m) 32 ≡ true)
mark_before mark.Assign = (refl, refl, refl)
mark_before _ = (refl, refl, refl)

-- the end of the text, the end of a line and a space may stand behind each token
before_white : (t : TokenKind) → (may_touch t 0 ≡ true) × (may_touch t 10 ≡ true) × (may_touch t 32 ≡ true)
before_white (kind.Word name) = (not_and_false (is_simple name), not_and_false (is_simple name), not_and_false (is_simple name))
before_white (kind.Key k) = (refl, refl, refl)
before_white (kind.Decimal d) = (refl, refl, refl)
before_white (kind.Sized c) = (refl, refl, refl)
before_white (kind.Mark m) = mark_before m

-- ---- texts

next_touches : (t : TokenKind) (ws : List Written) → (is_open t && begins_word ws) ≡ false → AllByRecursion IsPrintable (tokens_of ws) → follows t (tokens_of ws) ≡ true → may_touch t (get_or (bytes_of (spaced ws)) 0 0) ≡ true
next_touches t [] gap all e = (before_white t).0
next_touches t (token u ∷ ws) gap all e =
    let same = first_stays (spelled u) (bytes_of (cond (is_open u && begins_word ws) (space ∷ spaced ws) (spaced ws))) (spelled_some u all.0) in
    ap (may_touch t) same ∙ touches t u all.0 gap e
next_touches t (space ∷ ws) gap all e = (before_white t).2
next_touches t (line ∷ ws) gap all e = (before_white t).1

legible_spaced : (ws : List Written) → AllByRecursion IsPrintable (tokens_of ws) → all_follow (tokens_of ws) ≡ true → IsLegible (spaced ws)
legible_spaced [] all e = tt
legible_spaced (token t ∷ ws) all e =
    let parts = and_parts (follows t (tokens_of ws)) (all_follow (tokens_of ws)) e in
    let rest = legible_spaced ws all.1 parts.1 in
    let P : Bool → Type 0 = λ b. IsLegible (token t ∷ cond b (space ∷ spaced ws) (spaced ws)) in
    elim (cases_Bool (is_open t && begins_word ws)) [
      | inl gap ↦ subst P (sym gap) (all.0, (before_white t).2, rest)
      | inr none ↦ subst P (sym none) (all.0, next_touches t ws none all.1 parts.0, rest)
    ]
legible_spaced (space ∷ ws) all e = legible_spaced ws all e
legible_spaced (line ∷ ws) all e = legible_spaced ws all e

tokens_spaced : (ws : List Written) → tokens_of (spaced ws) ≡ tokens_of ws
tokens_spaced [] = refl
tokens_spaced (token t ∷ ws) = ap (λ (ts : List TokenKind). t ∷ ts) (by (is_open t && begins_word ws) ∙ tokens_spaced ws)
  where
    by : (b : Bool) → tokens_of (cond b (space ∷ spaced ws) (spaced ws)) ≡ tokens_of (spaced ws)
    by true = refl
    by false = refl
tokens_spaced (space ∷ ws) = tokens_spaced ws
tokens_spaced (line ∷ ws) = tokens_spaced ws

pub spaced_read : (ws : List Written) → AllByRecursion IsPrintable (tokens_of ws) → all_follow (tokens_of ws) ≡ true → (ts : List Token) × HasTokens (bytes_of (spaced ws)) ts × (map (λ (t : Token). t.kind) ts ≡ tokens_of ws)
spaced_read ws all e =
    let read = legible (spaced ws) (legible_spaced ws all e) in
    (read.0, read.1, read.2 ∙ tokens_spaced ws)
