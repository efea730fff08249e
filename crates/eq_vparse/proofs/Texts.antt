-- Tokens put one behind the other, and the bytes of such a text.
use Rattle.std.proofs.Common.{◌≡◌, ℕ, Bool, true, false, cond, ◌&&◌, List, [], ◌∷◌, ◌++◌, refl, sym, ap, ◌∙◌, append_assoc}
use Rattle.std.proofs.lemmas.List.{append-nil}
use Rattle.eq_vlex.specs.declared.key.Key.TheVariants as key
use Rattle.eq_vlex.specs.declared.token.TokenKind.{TokenKind}
use Rattle.eq_vlex.specs.declared.token.TokenKind.TheVariants as kind
use Rattle.eq_vparse.specs.declared.text.Text.{Text}
use Rattle.eq_vparse.specs.Layout.{Written, token, space, line, spelled, bytes_of, is_word, is_open, begins_word, spaced}
use Rattle.eq_vparse.specs.declared.tree.Item.{Item}
use Rattle.eq_vparse.specs.declared.tree.Module.{Module}
use Rattle.eq_vparse.specs.Printing.{line_of, item_tokens, header_tokens, item_written, items_written, module_written, modules_written}
use Rattle.eq_vparse.specs.Text.{gap, put, put_line, put_all, put_written}

pub put_append : (text : Text) (ts us : List TokenKind) → put_all text (ts ++ us) ≡ put_all (put_all text ts) us
put_append text [] us = refl
put_append text (t ∷ ts) us = put_append (put text t) ts us

pub written_append : (text : Text) (ws vs : List Written) → put_written text (ws ++ vs) ≡ put_written (put_written text ws) vs
written_append text [] vs = refl
written_append text (token t ∷ ws) vs = written_append (put text t) ws vs
written_append text (space ∷ ws) vs = written_append text ws vs
written_append text (line ∷ ws) vs = written_append (put_line text) ws vs

-- a line is its tokens and its end
pub put_line_of : (text : Text) (ts : List TokenKind) → put_line (put_all text ts) ≡ put_written text (line_of ts)
put_line_of text [] = refl
put_line_of text (t ∷ ts) = put_line_of (put text t) ts

-- ---- the bytes

-- the space that comes before what is written
abbrev before : Bool → List Written → List ℕ
before behind ws = gap (behind && begins_word ws)

-- what is written behind a text, which has no spaces of its own
abbrev IsPlain : List Written → Type 0
IsPlain [] = Unit {0}
IsPlain (token t ∷ ws) = IsPlain ws
IsPlain (space ∷ ws) = ⊥
IsPlain (line ∷ ws) = IsPlain ws

spaced_token : (t : TokenKind) (ws : List Written) → bytes_of (spaced (token t ∷ ws)) ≡ spelled t ++ (before (is_open t) ws ++ bytes_of (spaced ws))
spaced_token t ws = by (is_open t && begins_word ws)
  where
    by : (b : Bool) → bytes_of (token t ∷ cond b (space ∷ spaced ws) (spaced ws)) ≡ spelled t ++ (gap b ++ bytes_of (spaced ws))
    by true = refl
    by false = refl

and_false : (b : Bool) → (b && false) ≡ false
and_false true = refl
and_false false = refl

no_gap : (b : Bool) → gap (b && false) ≡ []
no_gap b = ap gap (and_false b)

bytes_put : (text : Text) (ws : List Written) → IsPlain ws → (put_written text ws).bytes ≡ text.bytes ++ (before text.after_word ws ++ bytes_of (spaced ws))
unfolding put put_line
bytes_put text [] plain = sym (append-nil text.bytes) ∙ ap (λ (x : List ℕ). text.bytes ++ (x ++ [])) (sym (no_gap text.after_word))
bytes_put text (token t ∷ ws) plain =
    let here : List ℕ = gap (text.after_word && is_word t) in
    let rest : List ℕ = before (is_open t) ws ++ bytes_of (spaced ws) in
    bytes_put (put text t) ws plain ∙ append_assoc (text.bytes ++ here) (spelled t) rest ∙ append_assoc text.bytes here (spelled t ++ rest)
    ∙ ap (λ (x : List ℕ). text.bytes ++ (here ++ x)) (sym (spaced_token t ws))
bytes_put text (space ∷ ws) plain = absurd plain
bytes_put text (line ∷ ws) plain =
    bytes_put (put_line text) ws plain ∙ append_assoc text.bytes (10 ∷ []) (bytes_of (spaced ws))
    ∙ ap (λ (x : List ℕ). text.bytes ++ (x ++ 10 ∷ bytes_of (spaced ws))) (sym (no_gap text.after_word))

-- ---- the text of a tree

plain_append : (ws vs : List Written) → IsPlain ws → IsPlain vs → IsPlain (ws ++ vs)
plain_append [] vs p q = q
plain_append (token t ∷ ws) vs p q = plain_append ws vs p q
plain_append (space ∷ ws) vs p q = absurd p
plain_append (line ∷ ws) vs p q = plain_append ws vs p q

plain_line : (ts : List TokenKind) → IsPlain (line_of ts)
plain_line [] = tt
plain_line (t ∷ ts) = plain_line ts

plain_items : (is : List Item) → IsPlain (items_written is)
plain_items [] = tt
plain_items (i ∷ is) = plain_append (item_written i) (items_written is) (plain_line (item_tokens i)) (plain_items is)

plain_module : (m : Module) → IsPlain (module_written m)
plain_module m =
    plain_append (line_of (header_tokens m.name m.ports)) (items_written m.items ++ line_of (kind.Key key.Endmodule ∷ [])) (plain_line (header_tokens m.name m.ports))
    (plain_append (items_written m.items) (line_of (kind.Key key.Endmodule ∷ [])) (plain_items m.items) tt)

plain_modules : (ms : List Module) → IsPlain (modules_written ms)
plain_modules [] = tt
plain_modules (m ∷ ms) = plain_append (module_written m) (modules_written ms) (plain_module m) (plain_modules ms)

pub text_is : (ms : List Module) → (put_written (record { bytes = []; after_word = false }) (modules_written ms)).bytes ≡ bytes_of (spaced (modules_written ms))
text_is ms = bytes_put (record { bytes = []; after_word = false }) (modules_written ms) (plain_modules ms)
