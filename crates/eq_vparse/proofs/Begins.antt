-- Each expression begins with a token that begins an operand, and where none stands, none is read.
use Rattle.std.proofs.Common.{◌≡◌, ◌≢◌, ℕ, true, false, List, [], ◌∷◌, ◌++◌, Option, Some, None, refl, sym, ap, ◌∙◌, append_assoc}
use Rattle.std.specs.Option.{is_some}
use Rattle.std.proofs.lemmas.List.{append-nil}
use Rattle.eq_vlex.specs.declared.mark.Mark.{Mark}
use Rattle.eq_vlex.specs.declared.mark.Mark.TheVariants as mark
use Rattle.eq_vlex.specs.declared.token.TokenKind.{TokenKind}
use Rattle.eq_vlex.specs.declared.token.TokenKind.TheVariants as token
use Rattle.eq_vparse.specs.declared.tree.UnOp.{UnOp}
use Rattle.eq_vparse.specs.declared.tree.Expr.{Expr}
use Rattle.eq_vparse.specs.declared.machine.Waiting.{Waiting}
use Rattle.eq_vparse.specs.declared.machine.State.TheVariants.{Wanted}
use Rattle.eq_vparse.specs.Operators.{unary_of}
use Rattle.eq_vparse.specs.Phrases.{Phrase, const, net, bit, part, grouped, concat, repeat, unary, binary, cond as cond_phrase, tokens_of, IsGrouped, expr}
use Rattle.eq_vparse.specs.Reading.{wrong}
use Rattle.eq_vparse.specs.Machine.{waiting, begin_unary, begin_mark, begin_at, step_at, expr_at, begins_with, begins_expr}
use Rattle.eq_vparse.proofs.Progress.{reads_by}

pub unary_begins : (m : Mark) (o : UnOp) → unary_of m ≡ Some o → begins_with m ≡ true
unary_begins mark.LeftParen o e = refl
unary_begins mark.LeftBrace o e = refl
unary_begins m o e = ap is_some e

phrase_begins : (p : Phrase) (us : List TokenKind) → IsGrouped p → begins_expr (tokens_of p ++ us) ≡ true
unfolding begins_expr
phrase_begins (const c) us g = refl
phrase_begins (net n) us g = refl
phrase_begins (bit n d) us g = refl
phrase_begins (part n l r) us g = refl
phrase_begins (grouped p) us g = refl
phrase_begins (concat qs) us g = refl
phrase_begins (repeat d qs) us g = refl
phrase_begins (unary m o p) us g = unary_begins m o g.0
phrase_begins (binary m o p q) us g = ap begins_expr (append_assoc (tokens_of p) (token.Mark m ∷ tokens_of q) us) ∙ phrase_begins p (token.Mark m ∷ (tokens_of q ++ us)) g.1
phrase_begins (cond_phrase c p q) us g =
    let rest = tokens_of p ++ token.Mark mark.Colon ∷ tokens_of q in
    ap begins_expr (append_assoc (tokens_of c) (token.Mark mark.Question ∷ rest) us) ∙ phrase_begins c (token.Mark mark.Question ∷ (rest ++ us)) g.0

pub expr_begins : (us : List TokenKind) (e : Expr) (r : List TokenKind) → expr.sentence us e → begins_expr (us ++ r) ≡ true
expr_begins us e r h = ap (λ (ts : List TokenKind). begins_expr (ts ++ r)) h.tokens ∙ phrase_begins h.phrase r h.grouping

pub expr_some : (us : List TokenKind) (e : Expr) → expr.sentence us e → us ≢ []
unfolding begins_expr
expr_some us e h none =
    let begun : begins_expr us ≡ true = ap begins_expr (sym (append-nil us)) ∙ expr_begins us e [] h in
    absurd (true-is-false (sym begun ∙ ap begins_expr none))
  where
    true-is-false : true ≡ false → ⊥
    true-is-false e = cc

-- ---- where no operand begins, reading stops at once

unary_not : (o : Option UnOp) (w : Waiting) (ts : List TokenKind) → is_some o ≡ false → begin_unary o w ts ≡ wrong ts
unfolding begin_unary
unary_not None w ts e = refl
unary_not (Some o) w ts e = absurd cc

mark_not : (m : Mark) (w : Waiting) (ts : List TokenKind) → begins_with m ≡ false → begin_mark m w ts ≡ wrong ts
unfolding begin_mark
mark_not mark.LeftParen w ts e = absurd cc
mark_not mark.LeftBrace w ts e = absurd cc
mark_not m w ts e = unary_not (unary_of m) w ts e

begin_not : (w : Waiting) (ts : List TokenKind) → begins_expr ts ≡ false → begin_at w ts ≡ wrong ts
unfolding begin_at begins_expr
begin_not w (token.Word n ∷ ts) e = absurd cc
begin_not w (token.Sized c ∷ ts) e = absurd cc
begin_not w (token.Mark m ∷ ts) e = mark_not m w (token.Mark m ∷ ts) e
begin_not w _ e = refl

pub expr_wrong : (k : ℕ) (ts : List TokenKind) → begins_expr ts ≡ false → expr_at k ts ≡ wrong ts
unfolding expr_at step_at
expr_wrong k ts e = reads_by (Wanted (waiting k [])) ts (wrong ts) (begin_not (waiting k []) ts e)
