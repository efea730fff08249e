-- A legible text is read back as the tokens that were written.
use Rattle.std.proofs.Common.{◌≡◌, ℕ, Bool, true, false, cond, ◌&&◌, List, [], ◌∷◌, ◌++◌, get_or, map, Option, Some, None, refl, sym, ap, subst, ◌∙◌, inl, inr, eqb, ◌||◌}
use Rattle.std.specs.Char.{is_ascii_alphabetic}
use Rattle.std.specs.List.{list_all, list_any}
use Rattle.std.specs.Option.{is_none}
use Rattle.std.proofs.lemmas.Bool.{cases_Bool, and_parts, not-true}
use Rattle.eq_vlex.specs.declared.bytes.Class.TheVariants as class
use Rattle.eq_vlex.specs.declared.key.Key.{Key}
use Rattle.eq_vlex.specs.declared.token.Token.{Token}
use Rattle.eq_vlex.specs.declared.token.TokenKind.{TokenKind}
use Rattle.eq_vlex.specs.declared.token.TokenKind.TheVariants as kind
use Rattle.eq_vlex.specs.Bytes.{is_in}
use Rattle.eq_vlex.specs.Words.{key_of, word_or_key}
use Rattle.eq_vlex.specs.Tokens.{HasTokens}
use Rattle.eq_vparse.specs.Layout.{Written, token, space, line, is_simple, name_bytes, spelled, bytes_of, tokens_of, lengthening, may_touch, IsPrintable, IsLegible}
use Rattle.eq_vparse.proofs.TextPieces.{Reads, tokens_read, nothing_read, put_white}
use Rattle.eq_vparse.proofs.WordPieces.{put_simple, put_key, put_escaped}
use Rattle.eq_vparse.proofs.NumberPieces.{put_decimal, put_constant}
use Rattle.eq_vparse.proofs.MarkPieces.{put_mark}

-- ---- names

no_key : (o : Option Key) → is_none o ≡ true → o ≡ None
no_key None e = refl
no_key (Some k) e = absurd cc

put_plain : (name rest : List ℕ) (kinds : List TokenKind) → is_simple name ≡ true → is_in class.Simple (get_or rest 0 0) ≡ false → Reads rest kinds → Reads (name ++ rest) (kind.Word name ∷ kinds)
unfolding is_simple
put_plain name rest kinds e stops h =
    let one = and_parts ((is_ascii_alphabetic (get_or name 0 0) || eqb (get_or name 0 0) 95) && list_all (is_in class.Simple) name) (is_none (key_of name)) e in
    let two = and_parts (is_ascii_alphabetic (get_or name 0 0) || eqb (get_or name 0 0) 95) (list_all (is_in class.Simple) name) one.0 in
    let is : kind.Word name ≡ word_or_key (key_of name) name = ap (λ (o : Option Key). word_or_key o name) (sym (no_key (key_of name) one.1)) in
    put_simple name rest (kind.Word name) kinds two.0 two.1 is stops h

put_word : (name rest : List ℕ) (kinds : List TokenKind) → IsPrintable (kind.Word name) → may_touch (kind.Word name) (get_or rest 0 0) ≡ true → Reads rest kinds → Reads (name_bytes name ++ rest) (kind.Word name ∷ kinds)
put_word name rest kinds printable touch h =
    let P : Bool → Type 0 = λ s. Reads (cond s name (92 ∷ name ++ 32 ∷ []) ++ rest) (kind.Word name ∷ kinds) in
    elim (cases_Bool (is_simple name)) [
      | inl simple ↦
          let apart : (is_simple name && is_in class.Simple (get_or rest 0 0)) ≡ false = not-true (is_simple name && is_in class.Simple (get_or rest 0 0)) touch in
          let stops : is_in class.Simple (get_or rest 0 0) ≡ false = sym (ap (λ (s : Bool). s && is_in class.Simple (get_or rest 0 0)) simple) ∙ apart in
          subst P (sym simple) (put_plain name rest kinds simple stops h)
      | inr other ↦ subst P (sym other) (put_escaped name rest kinds printable h)
    ]

-- ---- texts

put_written : (t : TokenKind) (rest : List ℕ) (kinds : List TokenKind) → IsPrintable t → may_touch t (get_or rest 0 0) ≡ true → Reads rest kinds → Reads (spelled t ++ rest) (t ∷ kinds)
put_written (kind.Word name) rest kinds printable touch h = put_word name rest kinds printable touch h
put_written (kind.Key k) rest kinds printable touch h = put_key k rest kinds printable (not-true (is_in class.Simple (get_or rest 0 0)) touch) h
put_written (kind.Decimal n) rest kinds printable touch h = put_decimal n rest kinds printable (not-true (is_in class.Word (get_or rest 0 0) || eqb (get_or rest 0 0) 39) touch) h
put_written (kind.Sized c) rest kinds printable touch h = put_constant c rest kinds printable (not-true (is_in class.Value (get_or rest 0 0)) touch) h
put_written (kind.Mark m) rest kinds printable touch h = put_mark m rest kinds (not-true (list_any (λ x. eqb (get_or rest 0 0) x) (lengthening m)) touch) h

all_read : (ws : List Written) → IsLegible ws → Reads (bytes_of ws) (tokens_of ws)
all_read [] h = nothing_read
all_read (token t ∷ ws) h = put_written t (bytes_of ws) (tokens_of ws) h.0 h.1 (all_read ws h.2)
all_read (space ∷ ws) h = put_white 32 (bytes_of ws) (tokens_of ws) refl (all_read ws h)
all_read (line ∷ ws) h = put_white 10 (bytes_of ws) (tokens_of ws) refl (all_read ws h)

pub legible : (ws : List Written) → IsLegible ws → (ts : List Token) × HasTokens (bytes_of ws) ts × (map (λ (t : Token). t.kind) ts ≡ tokens_of ws)
legible ws h = tokens_read (bytes_of ws) (tokens_of ws) (all_read ws h)
