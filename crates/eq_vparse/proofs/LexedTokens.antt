-- What is known of a token that was read from a text.
use Rattle.std.proofs.Common.{◌≡◌, ℕ, ◌-◌, ◌^◌, ◌<◌, Bool, true, false, List, [], ◌∷◌, ◌++◌, drop, map, Option, Some, None, refl, sym, subst, arith}
use Rattle.std.specs.List.{AllByRecursion}
use Rattle.std.proofs.lemmas.List.Folds.{length-prefix_len}
use Rattle.eq_names.specs.Name.{IsName}
use Rattle.eq_vlex.specs.declared.bytes.Class.TheVariants as class
use Rattle.eq_vlex.specs.declared.bytes.Start.{Start}
use Rattle.eq_vlex.specs.declared.bytes.Start.TheVariants as start
use Rattle.eq_vlex.specs.declared.key.Key.{Key}
use Rattle.eq_vlex.specs.declared.token.Constant.{Constant}
use Rattle.eq_vlex.specs.declared.token.Token.{Token}
use Rattle.eq_vlex.specs.declared.token.TokenKind.{TokenKind}
use Rattle.eq_vlex.specs.declared.token.TokenKind.TheVariants as kind
use Rattle.eq_vlex.specs.Bytes.{is_in, begins}
use Rattle.eq_vlex.specs.Words.{key_of, word_or_key, simple_name, escaped_name}
use Rattle.eq_vlex.specs.Numbers.{IsSized, IsNumberOf, size_part, is_quoted, tail_part}
use Rattle.eq_vlex.specs.Pieces.{IsLexeme}
use Rattle.eq_vlex.specs.Tokens.{HasTokens}
use Rattle.eq_vlex.proofs.Beginnings.{simple_first}
use Rattle.eq_vlex.proofs.Naming.{simple_visible, visible_visible, run_some, run_is_name}
use Rattle.eq_vlex.proofs.Whole.{tokens_stand}
use Rattle.eq_vparse.specs.Layout.{IsConstant}

-- a name, a number of its range, or a key or mark
abbrev pub IsLexed : TokenKind → Type 0
IsLexed (kind.Word name) = IsName name
IsLexed (kind.Key k) = Unit {0}
IsLexed (kind.Decimal n) = n < 2 ^ 31
IsLexed (kind.Sized c) = IsConstant c
IsLexed (kind.Mark m) = Unit {0}

abbrev pub AreLexed : List TokenKind → Type 0
AreLexed ts = AllByRecursion IsLexed ts

pub lexed_split : (ts us vs : List TokenKind) → ts ≡ us ++ vs → AreLexed ts → AreLexed us × AreLexed vs
lexed_split ts us vs e h = by us vs (subst AreLexed e h)
  where
    by : (us vs : List TokenKind) → AreLexed (us ++ vs) → AreLexed us × AreLexed vs
    by [] vs h = (tt, h)
    by (u ∷ us) vs h = let rest = by us vs h.1 in ((h.0, rest.0), rest.1)

-- ---- from a text

simple_is_name : (text : List ℕ) → begins text ≡ start.SimpleName → IsName (simple_name text)
simple_is_name text e =
    let some = run_some class.Simple text refl (simple_first text e) in
    run_is_name class.Simple simple_visible text (simple_name text) refl (omega (arith, length-prefix_len (is_in class.Simple) text, some))

word_lexed : (o : Option Key) (name : List ℕ) → IsName name → IsLexed (word_or_key o name)
word_lexed None name h = h
word_lexed (Some k) name h = tt

sized_lexed : (bits : ℕ) (tail : List ℕ) (c : Constant) → IsSized bits tail c → IsConstant c
sized_lexed bits tail c h =
    let size = h.size in
    record {
      some_bit = omega (arith, size, h.some_bit);
      narrow = omega (arith, size, h.narrow);
      fits = subst (λ (n : ℕ). c.value < 2 ^ n) (sym size) h.fits;
    }

number_lexed : (quoted : Bool) (front tail : List ℕ) (len : ℕ) (t : TokenKind) → IsNumberOf quoted front tail len t → IsLexed t
number_lexed true front tail len (kind.Sized c) h = sized_lexed _ tail c h.1
number_lexed false front tail len (kind.Decimal n) h = h.1.small
number_lexed true front tail len _ h = absurd h
number_lexed false front tail len _ h = absurd h

lexeme_lexed : (s : Start) (text : List ℕ) (len : ℕ) (t : TokenKind) → begins text ≡ s → IsLexeme s text len t → IsLexed t
lexeme_lexed start.SimpleName text len t e h = subst IsLexed (sym h.1) (word_lexed (key_of (simple_name text)) (simple_name text) (simple_is_name text e))
lexeme_lexed start.EscapedName text len t e h = subst IsLexed (sym h.2) (run_is_name class.Visible visible_visible (drop 1 text) (escaped_name text) refl h.0.some)
lexeme_lexed start.Number text len t e h = number_lexed (is_quoted text) (size_part text) (tail_part (is_quoted text) text) len t h
lexeme_lexed start.Other text len t e h = subst IsLexed (sym h.2) tt
lexeme_lexed _ text len t e h = absurd h

all_lexed : (text : List ℕ) (ts : List Token) → AllByRecursion (λ t. IsLexeme (begins (drop t.start text)) (drop t.start text) (t.end - t.start) t.kind) ts → AreLexed (map (λ (t : Token). t.kind) ts)
all_lexed text [] h = tt
all_lexed text (t ∷ ts) h = (lexeme_lexed (begins (drop t.start text)) (drop t.start text) (t.end - t.start) t.kind refl h.0, all_lexed text ts h.1)

pub tokens_lexed : (text : List ℕ) (ts : List Token) → HasTokens text ts → AreLexed (map (λ (t : Token). t.kind) ts)
tokens_lexed text ts h = all_lexed text ts (tokens_stand text ts h)
