-- The constants of an expression whose tokens were read of a text have at most 128 bits.
use Rattle.std.proofs.Common.{◌≤◌, List, [], ◌∷◌, ◌++◌, map, refl, sym, subst, arith}
use Rattle.eq_vlex.specs.declared.mark.Mark.TheVariants as mark
use Rattle.eq_vlex.specs.declared.token.Constant.{Constant}
use Rattle.eq_vlex.specs.declared.token.TokenKind.{TokenKind}
use Rattle.eq_vlex.specs.declared.token.TokenKind.TheVariants as kind
use Rattle.eq_vparse.specs.declared.tree.Expr.{Expr}
use Rattle.eq_vparse.specs.Layout.{IsConstant, IsPrintable}
use Rattle.eq_vparse.specs.Phrases.{Phrase, Phrases, const, net, bit, part, grouped, concat, repeat, unary, binary, cond, last, before, tokens_of, all_tokens_of, tree_of, trees_of, IsExpr}
use Rattle.eq_vparse.proofs.ExprAgain.{IsAgain, written_expr}
use Rattle.eq_vparse.proofs.LexedTokens.{IsLexed, AreLexed, lexed_split}
use Rattle.eq_vparse.proofs.Parts.{ArePrintable}
use Rattle.eq_verilog.specs.ModuleRefusals.{most_size}
use Rattle.eq_verilog.specs.Trees.{expr_tree, join_all}
use Rattle.eq_verilog.proofs.PureTrees.{of_const, of_net, of_bit, of_part, of_concat, of_repeat, of_unary, of_binary, of_choice}
use Rattle.eq_flatten.specs.Spelled.{HasSizes}

-- ---- what is known of tokens

lexed_from : (t : TokenKind) → IsPrintable t → IsLexed t
lexed_from (kind.Word n) h = h
lexed_from (kind.Key k) h = tt
lexed_from (kind.Decimal n) h = h
lexed_from (kind.Sized c) h = h
lexed_from (kind.Mark m) h = tt

-- what can be written is as tokens of a text are
pub printable_lexed : (ts : List TokenKind) → ArePrintable ts → AreLexed ts
printable_lexed [] h = tt
printable_lexed (t ∷ ts) h = (lexed_from t h.0, printable_lexed ts h.1)

small_enough : (c : Constant) → IsConstant c → c.size ≤ most_size
small_enough c h = let narrow = h.narrow in omega (arith, narrow)

-- ---- phrases

mutual
  phrase_sizes : (p : Phrase) → AreLexed (tokens_of p) → HasSizes (expr_tree (tree_of p))
  phrase_sizes (const c) l = subst HasSizes (sym (of_const c)) (small_enough c l.0)
  phrase_sizes (net n) l = subst HasSizes (sym (of_net n)) tt
  phrase_sizes (bit n d) l = subst HasSizes (sym (of_bit n d)) tt
  phrase_sizes (part n left right) l = subst HasSizes (sym (of_part n left right)) tt
  phrase_sizes (grouped p) l =
      let close : List TokenKind = kind.Mark mark.RightParen ∷ [] in
      phrase_sizes p (lexed_split (tokens_of p ++ close) (tokens_of p) close refl l.1).0
  phrase_sizes (concat ps) l =
      let close : List TokenKind = kind.Mark mark.RightBrace ∷ [] in
      let inner = (lexed_split (all_tokens_of ps ++ close) (all_tokens_of ps) close refl l.1).0 in
      subst HasSizes (sym (of_concat (trees_of ps))) (phrases_sizes ps inner)
  phrase_sizes (repeat d ps) l =
      let close : List TokenKind = kind.Mark mark.RightBrace ∷ kind.Mark mark.RightBrace ∷ [] in
      let inner = (lexed_split (all_tokens_of ps ++ close) (all_tokens_of ps) close refl l.1.1.1).0 in
      subst HasSizes (sym (of_repeat d (trees_of ps))) (phrases_sizes ps inner)
  phrase_sizes (unary m o p) l = subst HasSizes (sym (of_unary o (tree_of p))) (phrase_sizes p l.1)
  phrase_sizes (binary m o p q) l =
      let behind : List TokenKind = kind.Mark m ∷ tokens_of q in
      let parts = lexed_split (tokens_of p ++ behind) (tokens_of p) behind refl l in
      subst HasSizes (sym (of_binary o (tree_of p) (tree_of q))) (phrase_sizes p parts.0, phrase_sizes q parts.1.1)
  phrase_sizes (cond c p q) l =
      let other : List TokenKind = kind.Mark mark.Colon ∷ tokens_of q in
      let behind : List TokenKind = kind.Mark mark.Question ∷ (tokens_of p ++ other) in
      let parts = lexed_split (tokens_of c ++ behind) (tokens_of c) behind refl l in
      let sides = lexed_split (tokens_of p ++ other) (tokens_of p) other refl parts.1.1 in
      subst HasSizes (sym (of_choice (tree_of c) (tree_of p) (tree_of q)))
      (phrase_sizes c parts.0, (phrase_sizes p sides.0, phrase_sizes q sides.1.1))

  phrases_sizes : (ps : Phrases) → AreLexed (all_tokens_of ps) → HasSizes (join_all (map expr_tree (trees_of ps)))
  phrases_sizes (last p) l = (phrase_sizes p l, tt)
  phrases_sizes (before p ps) l =
      let behind : List TokenKind = kind.Mark mark.Comma ∷ all_tokens_of ps in
      let parts = lexed_split (tokens_of p ++ behind) (tokens_of p) behind refl l in
      (phrase_sizes p parts.0, phrases_sizes ps parts.1.1)

-- ---- expressions

-- an expression of a text's tokens has small constants
pub expr_sizes : (ts : List TokenKind) (e : Expr) → AreLexed ts → IsExpr ts e → HasSizes (expr_tree e)
expr_sizes ts e l is =
    subst (λ (x : Expr). HasSizes (expr_tree x)) (sym is.tree) (phrase_sizes is.phrase (subst AreLexed is.tokens l))

-- so has an expression of which it is known that it is read again as it is written
pub again_sizes : (e : Expr) → IsAgain e → HasSizes (expr_tree e)
again_sizes e a = let is = written_expr e a in expr_sizes _ e (printable_lexed _ a.printable) is
