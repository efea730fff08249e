-- What is written of an expression is an expression with the same tree.
use Rattle.std.proofs.Common.{◌≡◌, ℕ, ◌^◌, ◌<◌, ◌≤◌, Bool, List, [], ◌∷◌, ◌++◌, Some, refl, sym, ap, subst, ◌∙◌, append_assoc, arith}
use Rattle.std.specs.Prelude.{◌≢◌}
use Rattle.std.proofs.lemmas.List.{append-nil}
use Rattle.eq_vlex.specs.declared.mark.Mark.TheVariants as mark
use Rattle.eq_vlex.specs.declared.token.TokenKind.{TokenKind}
use Rattle.eq_vlex.specs.declared.token.TokenKind.TheVariants as kind
use Rattle.eq_vparse.specs.declared.shape.Form.{Form}
use Rattle.eq_vparse.specs.declared.shape.Form.TheVariants as form
use Rattle.eq_vparse.specs.declared.tree.UnOp.{UnOp}
use Rattle.eq_vparse.specs.declared.tree.UnOp.TheVariants as un
use Rattle.eq_vparse.specs.declared.tree.BinOp.{BinOp}
use Rattle.eq_vparse.specs.declared.tree.BinOp.TheVariants as bin
use Rattle.eq_vparse.specs.declared.tree.Expr.{Expr}
use Rattle.eq_vparse.specs.declared.tree.Expr.TheVariants.{Const, Net, Bit, Part as NetPart}
use Rattle.eq_vparse.specs.declared.tree.Expr.TheViews.{Concat, Repeat, Unary, Binary, Cond}
use Rattle.eq_vparse.specs.Operators.{unary_of, binary_of, strength_of}
use Rattle.eq_vparse.specs.Phrases.{Phrase, Phrases, const, net, bit, part, grouped, concat, repeat, unary, binary, cond, last, before, index_tokens, range_tokens, tokens_of, all_tokens_of, strength, IsGrouped, AreGrouped, tree_of, trees_of, IsExpr}
use Rattle.eq_vparse.specs.Printing.{parenthesized, braced, unary_mark, binary_mark, Shown, as_operand, as_condition, shown, expr_tokens, operand_tokens, condition_tokens, exprs_tokens}
use Rattle.eq_vparse.proofs.LexedTokens.{AreLexed, lexed_split}
use Rattle.eq_vparse.proofs.Parts.{ArePrintable, printable_append, any_token, any_list, opens, no_question, Part, HasShape, shape_part, operand_part, condition_part, comma_part, sized_part, name_part, bit_part, part_part, brace_part, repeat_part, unary_part, binary_part, cond_part, separated_part}
use Rattle.eq_vparse.proofs.Printed.{shown_const, shown_net, shown_bit, shown_part, shown_concat, shown_repeat, shown_unary, shown_binary, shown_cond}

pub record IsAgain (e : Expr) : Type 0 where
  pub phrase : Phrase
  pub grouping : IsGrouped phrase
  pub tokens : expr_tokens e ≡ tokens_of phrase
  pub tree : e ≡ tree_of phrase
  pub printable : ArePrintable (expr_tokens e)
  pub shape : HasShape (shown e).0 (expr_tokens e)
  pub strong : (shown e).0 ≢ form.Operation → 11 ≤ strength phrase

-- one or more expressions
pub record AreAgain (es : List Expr) : Type 0 where
  pub phrases : Phrases
  pub grouping : AreGrouped phrases
  pub tokens : exprs_tokens es ≡ all_tokens_of phrases
  pub trees : es ≡ trees_of phrases
  pub printable : ArePrintable (exprs_tokens es)
  pub part : Part opens no_question (exprs_tokens es)

-- tokens that are an operand or a condition
record IsStrong (behind : List TokenKind → Bool) (us : List TokenKind) (e : Expr) : Type 0 where
  pub phrase : Phrase
  pub grouping : IsGrouped phrase
  pub tokens : us ≡ tokens_of phrase
  pub tree : e ≡ tree_of phrase
  pub strong : 11 ≤ strength phrase
  pub printable : ArePrintable us
  pub part : Part any_token behind us

again_from : (e : Expr) (f : Form) (ts : List TokenKind) (p : Phrase) → shown e ≡ (f, ts) → IsGrouped p → ts ≡ tokens_of p → e ≡ tree_of p → ArePrintable ts → HasShape f ts → (f ≢ form.Operation → 11 ≤ strength p) → IsAgain e
again_from e f ts p is grouping tokens tree printable shape strong =
    let P : Shown → Type 0 = λ s. ArePrintable s.1 in
    let S : Shown → Type 0 = λ s. HasShape s.0 s.1 in
    let T : Shown → Type 0 = λ s. s.0 ≢ form.Operation → 11 ≤ strength p in
    let there : ◌≡◌ {A = Shown} (f, ts) (shown e) = sym is in
    record {
      phrase = p;
      grouping = grouping;
      tokens = ap (λ (s : Shown). s.1) is ∙ tokens;
      tree = tree;
      printable = subst P there printable;
      shape = subst S there shape;
      strong = subst T there strong;
    }

-- ---- operands and conditions

constant_other : form.Constant ≢ form.Operation
constant_other e = absurd cc

primary_other : form.Primary ≢ form.Operation
primary_other e = absurd cc

paren_tokens : (ts : List TokenKind) (p : Phrase) → ts ≡ tokens_of p → parenthesized ts ≡ tokens_of (grouped p)
paren_tokens ts p e = ap (λ (x : List TokenKind). kind.Mark mark.LeftParen ∷ (x ++ kind.Mark mark.RightParen ∷ [])) e

paren_printable : (ts : List TokenKind) → ArePrintable ts → ArePrintable (parenthesized ts)
paren_printable ts h = (tt, printable_append ts (kind.Mark mark.RightParen ∷ []) h (tt, tt))

operand_from : (f : Form) (ts : List TokenKind) (e : Expr) (p : Phrase) → IsGrouped p → ts ≡ tokens_of p → e ≡ tree_of p → ArePrintable ts → HasShape f ts → (f ≢ form.Operation → 11 ≤ strength p) → IsStrong no_question (as_operand f ts) e
operand_from form.Constant ts e p g t tree h shape strong = record { phrase = p; grouping = g; tokens = t; tree = tree; strong = strong constant_other; printable = h; part = operand_part form.Constant ts shape }
operand_from form.Primary ts e p g t tree h shape strong = record { phrase = p; grouping = g; tokens = t; tree = tree; strong = strong primary_other; printable = h; part = operand_part form.Primary ts shape }
operand_from form.Operation ts e p g t tree h shape strong = record { phrase = grouped p; grouping = g; tokens = paren_tokens ts p t; tree = tree; strong = omega arith; printable = paren_printable ts h; part = operand_part form.Operation ts shape }

condition_from : (f : Form) (ts : List TokenKind) (e : Expr) (p : Phrase) → IsGrouped p → ts ≡ tokens_of p → e ≡ tree_of p → ArePrintable ts → HasShape f ts → (f ≢ form.Operation → 11 ≤ strength p) → IsStrong any_list (as_condition f ts) e
condition_from form.Constant ts e p g t tree h shape strong = record { phrase = grouped p; grouping = g; tokens = paren_tokens ts p t; tree = tree; strong = omega arith; printable = paren_printable ts h; part = condition_part form.Constant ts shape }
condition_from form.Primary ts e p g t tree h shape strong = record { phrase = p; grouping = g; tokens = t; tree = tree; strong = strong primary_other; printable = h; part = condition_part form.Primary ts shape }
condition_from form.Operation ts e p g t tree h shape strong = record { phrase = grouped p; grouping = g; tokens = paren_tokens ts p t; tree = tree; strong = omega arith; printable = paren_printable ts h; part = condition_part form.Operation ts shape }

operand_again : (e : Expr) → IsAgain e → IsStrong no_question (operand_tokens e) e
operand_again e a = operand_from (shown e).0 (expr_tokens e) e a.phrase a.grouping a.tokens a.tree a.printable a.shape a.strong

condition_again : (e : Expr) → IsAgain e → IsStrong any_list (condition_tokens e) e
condition_again e a = condition_from (shown e).0 (expr_tokens e) e a.phrase a.grouping a.tokens a.tree a.printable a.shape a.strong

-- ---- operators

unary_written : (op : UnOp) → unary_of (unary_mark op) ≡ Some op
unary_written un.Not = refl
unary_written _ = refl

binary_written : (op : BinOp) → binary_of (binary_mark op) ≡ Some op
binary_written bin.Add = refl
binary_written _ = refl

weaker : (op : BinOp) → strength_of op ≤ 10
weaker bin.Add = omega arith
weaker _ = omega arith

not_operation : {X : Type 0} → form.Operation ≢ form.Operation → X
not_operation other = absurd (other refl)

unary_again : (op : UnOp) (e : Expr) → IsStrong no_question (operand_tokens e) e → IsAgain (Unary op e)
unary_again op e a =
    again_from (Unary op e) form.Operation (kind.Mark (unary_mark op) ∷ operand_tokens e) (unary (unary_mark op) op a.phrase) (shown_unary op e)
    (unary_written op, a.grouping, a.strong) (ap (λ (ts : List TokenKind). kind.Mark (unary_mark op) ∷ ts) a.tokens) (ap (Unary op) a.tree) (tt, a.printable) (unary_part op (operand_tokens e) a.part) not_operation

binary_again : (op : BinOp) (d e : Expr) → IsStrong no_question (operand_tokens d) d → IsStrong no_question (operand_tokens e) e → IsAgain (Binary op d e)
binary_again op d e a b =
    let low = weaker op in
    let left = a.strong in
    let right = b.strong in
    again_from (Binary op d e) form.Operation (operand_tokens d ++ kind.Mark (binary_mark op) ∷ operand_tokens e) (binary (binary_mark op) op a.phrase b.phrase) (shown_binary op d e)
    (binary_written op, a.grouping, b.grouping, omega (arith, low, left), omega (arith, low, right))
    (λ i. a.tokens i ++ kind.Mark (binary_mark op) ∷ b.tokens i) (λ i. Binary op (a.tree i) (b.tree i))
    (printable_append (operand_tokens d) (kind.Mark (binary_mark op) ∷ operand_tokens e) a.printable (tt, b.printable))
    (shape_of (binary_part op (operand_tokens d) (operand_tokens e) a.part b.part)) not_operation
  where
    shape_of : Part any_token no_question (operand_tokens d ++ kind.Mark (binary_mark op) ∷ operand_tokens e) → Part opens no_question (operand_tokens d ++ kind.Mark (binary_mark op) ∷ operand_tokens e)
    shape_of p = shape_part form.Constant (operand_tokens d ++ kind.Mark (binary_mark op) ∷ operand_tokens e) p

cond_again : (c d e : Expr) → IsStrong any_list (condition_tokens c) c → IsStrong no_question (operand_tokens d) d → IsStrong no_question (operand_tokens e) e → IsAgain (Cond c d e)
cond_again c d e h a b =
    let ts : List TokenKind = condition_tokens c ++ kind.Mark mark.Question ∷ (operand_tokens d ++ kind.Mark mark.Colon ∷ operand_tokens e) in
    let strong = h.strong in
    again_from (Cond c d e) form.Operation ts (cond h.phrase a.phrase b.phrase) (shown_cond c d e)
    (h.grouping, a.grouping, b.grouping, omega (arith, strong))
    (λ i. h.tokens i ++ kind.Mark mark.Question ∷ (a.tokens i ++ kind.Mark mark.Colon ∷ b.tokens i)) (λ i. Cond (h.tree i) (a.tree i) (b.tree i))
    (printable_append (condition_tokens c) (kind.Mark mark.Question ∷ (operand_tokens d ++ kind.Mark mark.Colon ∷ operand_tokens e)) h.printable (tt, printable_append (operand_tokens d) (kind.Mark mark.Colon ∷ operand_tokens e) a.printable (tt, b.printable)))
    (shape_part form.Constant ts (cond_part (condition_tokens c) (operand_tokens d) (operand_tokens e) h.part a.part b.part)) not_operation

-- ---- lists

concat_again : (es : List Expr) → AreAgain es → IsAgain (Concat es)
concat_again es a =
    again_from (Concat es) form.Primary (braced (exprs_tokens es)) (concat a.phrases) (shown_concat es) a.grouping
    (ap braced a.tokens) (ap Concat a.trees) (tt, printable_append (exprs_tokens es) (kind.Mark mark.RightBrace ∷ []) a.printable (tt, tt))
    (brace_part (exprs_tokens es) a.part) (λ other. omega arith)

repeat_again : (d : ℕ) (es : List Expr) → d < 2 ^ 31 → AreAgain es → IsAgain (Repeat d es)
repeat_again d es small a =
    let ts : List TokenKind = exprs_tokens es in
    let brace : List TokenKind = kind.Mark mark.RightBrace ∷ [] in
    again_from (Repeat d es) form.Primary (braced (kind.Decimal d ∷ braced ts)) (repeat d a.phrases) (shown_repeat d es) a.grouping
    (ap (λ (x : List TokenKind). kind.Mark mark.LeftBrace ∷ kind.Decimal d ∷ kind.Mark mark.LeftBrace ∷ x) (append_assoc ts brace brace ∙ ap (λ (x : List TokenKind). x ++ kind.Mark mark.RightBrace ∷ kind.Mark mark.RightBrace ∷ []) a.tokens))
    (ap (Repeat d) a.trees) (tt, (small, (tt, printable_append (ts ++ brace) brace (printable_append ts brace a.printable (tt, tt)) (tt, tt))))
    (repeat_part d ts a.part) (λ other. omega arith)

one_again : (e : Expr) → IsAgain e → AreAgain (e ∷ [])
one_again e a =
    record {
      phrases = last a.phrase;
      grouping = a.grouping;
      tokens = append-nil (expr_tokens e) ∙ a.tokens;
      trees = ap (λ (x : Expr). x ∷ []) a.tree;
      printable = printable_append (expr_tokens e) [] a.printable tt;
      part = separated_part opens no_question refl (λ ts. refl) (expr_tokens e) [] (shape_part (shown e).0 (expr_tokens e) a.shape) tt;
    }

more_again : (e : Expr) (es : List Expr) → exprs_tokens (e ∷ es) ≡ expr_tokens e ++ kind.Mark mark.Comma ∷ exprs_tokens es → IsAgain e → AreAgain es → AreAgain (e ∷ es)
more_again e es is a b =
    let there = sym is in
    record {
      phrases = before a.phrase b.phrases;
      grouping = (a.grouping, b.grouping);
      tokens = is ∙ (λ i. a.tokens i ++ kind.Mark mark.Comma ∷ b.tokens i);
      trees = λ i. a.tree i ∷ b.trees i;
      printable = subst ArePrintable there (printable_append (expr_tokens e) (kind.Mark mark.Comma ∷ exprs_tokens es) a.printable (tt, b.printable));
      part = subst (Part opens no_question) there (comma_part opens no_question (expr_tokens e) (exprs_tokens es) refl (λ ts. refl) (shape_part (shown e).0 (expr_tokens e) a.shape) b.part);
    }

comma_between : (e : Expr) (ps : Phrases) → exprs_tokens (e ∷ trees_of ps) ≡ expr_tokens e ++ kind.Mark mark.Comma ∷ exprs_tokens (trees_of ps)
comma_between e (last p) = refl
comma_between e (before p ps) = refl

-- ---- phrases

mutual
  pub again : (p : Phrase) → IsGrouped p → AreLexed (tokens_of p) → IsAgain (tree_of p)
  again (const c) g l = again_from (Const c) form.Constant (kind.Sized c ∷ []) (const c) (shown_const c) tt refl refl l (sized_part c) (λ other. omega arith)
  again (net n) g l = again_from (Net n) form.Primary (kind.Word n ∷ []) (net n) (shown_net n) tt refl refl l (name_part n) (λ other. omega arith)
  again (bit n d) g l = again_from (Bit n d) form.Primary (kind.Word n ∷ index_tokens d) (bit n d) (shown_bit n d) tt refl refl l (bit_part n d) (λ other. omega arith)
  again (part n left right) g l = again_from (NetPart n left right) form.Primary (kind.Word n ∷ range_tokens left right) (part n left right) (shown_part n left right) tt refl refl l (part_part n left right) (λ other. omega arith)
  again (grouped p) g l = again p g (lexed_split (tokens_of p ++ kind.Mark mark.RightParen ∷ []) (tokens_of p) (kind.Mark mark.RightParen ∷ []) refl l.1).0
  again (concat ps) g l = concat_again (trees_of ps) (all_again ps g (lexed_split (all_tokens_of ps ++ kind.Mark mark.RightBrace ∷ []) (all_tokens_of ps) (kind.Mark mark.RightBrace ∷ []) refl l.1).0)
  again (repeat d ps) g l =
      repeat_again d (trees_of ps) l.1.0 (all_again ps g (lexed_split (all_tokens_of ps ++ kind.Mark mark.RightBrace ∷ kind.Mark mark.RightBrace ∷ []) (all_tokens_of ps) (kind.Mark mark.RightBrace ∷ kind.Mark mark.RightBrace ∷ []) refl l.1.1.1).0)
  again (unary m o p) g l = unary_again o (tree_of p) (operand_again (tree_of p) (again p g.1 l.1))
  again (binary m o p q) g l =
      let parts = lexed_split (tokens_of p ++ kind.Mark m ∷ tokens_of q) (tokens_of p) (kind.Mark m ∷ tokens_of q) refl l in
      binary_again o (tree_of p) (tree_of q) (operand_again (tree_of p) (again p g.1 parts.0)) (operand_again (tree_of q) (again q g.2 parts.1.1))
  again (cond c p q) g l =
      let parts = lexed_split (tokens_of c ++ kind.Mark mark.Question ∷ (tokens_of p ++ kind.Mark mark.Colon ∷ tokens_of q)) (tokens_of c) (kind.Mark mark.Question ∷ (tokens_of p ++ kind.Mark mark.Colon ∷ tokens_of q)) refl l in
      let sides = lexed_split (tokens_of p ++ kind.Mark mark.Colon ∷ tokens_of q) (tokens_of p) (kind.Mark mark.Colon ∷ tokens_of q) refl parts.1.1 in
      cond_again (tree_of c) (tree_of p) (tree_of q) (condition_again (tree_of c) (again c g.0 parts.0)) (operand_again (tree_of p) (again p g.1 sides.0)) (operand_again (tree_of q) (again q g.2 sides.1.1))

  pub all_again : (ps : Phrases) → AreGrouped ps → AreLexed (all_tokens_of ps) → AreAgain (trees_of ps)
  all_again (last p) g l = one_again (tree_of p) (again p g l)
  all_again (before p ps) g l =
      let parts = lexed_split (tokens_of p ++ kind.Mark mark.Comma ∷ all_tokens_of ps) (tokens_of p) (kind.Mark mark.Comma ∷ all_tokens_of ps) refl l in
      more_again (tree_of p) (trees_of ps) (comma_between (tree_of p) ps) (again p g.0 parts.0) (all_again ps g.1 parts.1.1)

-- an expression of lexed tokens is written as one with the same tree
pub expr_again : (ts : List TokenKind) (e : Expr) → AreLexed ts → IsExpr ts e → IsAgain e
expr_again ts e l is = subst IsAgain (sym is.tree) (again is.phrase is.grouping (subst AreLexed is.tokens l))

pub written_expr : (e : Expr) → IsAgain e → IsExpr (expr_tokens e) e
written_expr e a = record { phrase = a.phrase; grouping = a.grouping; tokens = a.tokens; tree = a.tree }

pub expr_part : (e : Expr) → IsAgain e → Part opens no_question (expr_tokens e)
expr_part e a = shape_part (shown e).0 (expr_tokens e) a.shape
