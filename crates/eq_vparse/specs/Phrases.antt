-- Expressions as they are written, with their parentheses (IEEE 1364-2005, A.8.3, A.8.4 and 5.1.2).
use Rattle.std.specs.Prelude.{◌≡◌, ℕ, zero, suc, ◌+◌, ◌≤◌, Bool, true, false, ◌||◌, List, [], ◌∷◌, ◌++◌, Option, Some, count_by, ◌⊎◌}
use Rattle.std.specs.Option.{is_some}
use Rattle.eq_vlex.specs.declared.mark.Mark.{Mark}
use Rattle.eq_vlex.specs.declared.mark.Mark.TheVariants as mark
use Rattle.eq_vlex.specs.declared.token.Constant.{Constant}
use Rattle.eq_vlex.specs.declared.token.TokenKind.{TokenKind}
use Rattle.eq_vlex.specs.declared.token.TokenKind.TheVariants as token
use Rattle.eq_vparse.specs.declared.tree.UnOp.{UnOp}
use Rattle.eq_vparse.specs.declared.tree.BinOp.{BinOp}
use Rattle.eq_vparse.specs.declared.tree.Expr.{Expr}
use Rattle.eq_vparse.specs.declared.tree.Expr.TheVariants.{Const, Net, Bit, Part}
use Rattle.eq_vparse.specs.declared.tree.Expr.TheViews.{Concat, Repeat, Unary, Binary, Cond}
use Rattle.eq_vparse.specs.Operators.{unary_of, binary_of, strength_of}
use Rattle.eq_vparse.specs.Rules.{Rule, ◌>>=◌, ◌or◌, name, decimal, sized, mark as mark_rule, give, many, maybe, separated, nothing}

mutual
  pub data Phrase : Type 0 where
    const : Constant → Phrase
    net : List ℕ → Phrase
    bit : List ℕ → ℕ → Phrase
    part : List ℕ → ℕ → ℕ → Phrase
    grouped : Phrase → Phrase
    concat : Phrases → Phrase
    repeat : ℕ → Phrases → Phrase
    -- an operator with the mark that writes it
    unary : Mark → UnOp → Phrase → Phrase
    binary : Mark → BinOp → Phrase → Phrase → Phrase
    cond : Phrase → Phrase → Phrase → Phrase

  -- one or more
  pub data Phrases : Type 0 where
    last : Phrase → Phrases
    before : Phrase → Phrases → Phrases

-- `[d]` and `[l:r]`
abbrev pub index_tokens : ℕ → List TokenKind
index_tokens d = token.Mark mark.LeftBracket ∷ token.Decimal d ∷ token.Mark mark.RightBracket ∷ []

abbrev pub range_tokens : ℕ → ℕ → List TokenKind
range_tokens l r = token.Mark mark.LeftBracket ∷ token.Decimal l ∷ token.Mark mark.Colon ∷ token.Decimal r ∷ token.Mark mark.RightBracket ∷ []

abbrev mutual
  pub tokens_of : Phrase → List TokenKind
  tokens_of (const c) = token.Sized c ∷ []
  tokens_of (net n) = token.Word n ∷ []
  tokens_of (bit n d) = token.Word n ∷ index_tokens d
  tokens_of (part n l r) = token.Word n ∷ range_tokens l r
  tokens_of (grouped p) = token.Mark mark.LeftParen ∷ (tokens_of p ++ token.Mark mark.RightParen ∷ [])
  tokens_of (concat ps) = token.Mark mark.LeftBrace ∷ (all_tokens_of ps ++ token.Mark mark.RightBrace ∷ [])
  tokens_of (repeat d ps) =
      token.Mark mark.LeftBrace ∷ token.Decimal d ∷ token.Mark mark.LeftBrace ∷ (all_tokens_of ps ++ token.Mark mark.RightBrace ∷ token.Mark mark.RightBrace ∷ [])
  tokens_of (unary m o p) = token.Mark m ∷ tokens_of p
  tokens_of (binary m o p q) = tokens_of p ++ token.Mark m ∷ tokens_of q
  tokens_of (cond c p q) = tokens_of c ++ token.Mark mark.Question ∷ (tokens_of p ++ token.Mark mark.Colon ∷ tokens_of q)

  pub all_tokens_of : Phrases → List TokenKind
  all_tokens_of (last p) = tokens_of p
  all_tokens_of (before p ps) = tokens_of p ++ token.Mark mark.Comma ∷ all_tokens_of ps

-- how strongly a phrase's outermost operator binds; all that is no binary operator and no `?:` binds most strongly
abbrev pub strength : Phrase → ℕ
strength (binary m o p q) = strength_of o
strength (cond c p q) = 1
strength _ = 11

-- Each mark writes its operator, and parentheses stand where they are needed: an operand of a unary operator binds as
-- strongly as that; the left operand of a binary operator binds as strongly as the operator and the right one more
-- strongly, so operators of one strength associate to the left; the condition of `?:` binds more strongly, and behind
-- `?` and `:` stands any expression, so `?:` associates to the right.
abbrev mutual
  pub IsGrouped : Phrase → Type 0
  IsGrouped (const c) = Unit {0}
  IsGrouped (net n) = Unit {0}
  IsGrouped (bit n d) = Unit {0}
  IsGrouped (part n l r) = Unit {0}
  IsGrouped (grouped p) = IsGrouped p
  IsGrouped (concat ps) = AreGrouped ps
  IsGrouped (repeat d ps) = AreGrouped ps
  IsGrouped (unary m o p) = (unary_of m ≡ Some o) × IsGrouped p × (11 ≤ strength p)
  IsGrouped (binary m o p q) = (binary_of m ≡ Some o) × IsGrouped p × IsGrouped q × (strength_of o ≤ strength p) × (strength_of o + 1 ≤ strength q)
  IsGrouped (cond c p q) = IsGrouped c × IsGrouped p × IsGrouped q × (2 ≤ strength c)

  pub AreGrouped : Phrases → Type 0
  AreGrouped (last p) = IsGrouped p
  AreGrouped (before p ps) = IsGrouped p × AreGrouped ps

-- the tree of a phrase
abbrev mutual
  pub tree_of : Phrase → Expr
  tree_of (const c) = Const c
  tree_of (net n) = Net n
  tree_of (bit n d) = Bit n d
  tree_of (part n l r) = Part n l r
  tree_of (grouped p) = tree_of p
  tree_of (concat ps) = Concat (trees_of ps)
  tree_of (repeat d ps) = Repeat d (trees_of ps)
  tree_of (unary m o p) = Unary o (tree_of p)
  tree_of (binary m o p q) = Binary o (tree_of p) (tree_of q)
  tree_of (cond c p q) = Cond (tree_of c) (tree_of p) (tree_of q)

  pub trees_of : Phrases → List Expr
  trees_of (last p) = tree_of p ∷ []
  trees_of (before p ps) = tree_of p ∷ trees_of ps

-- these tokens are an expression with this tree
pub record IsExpr (ts : List TokenKind) (e : Expr) : Type 0 where
  pub phrase : Phrase
  pub grouping : IsGrouped phrase
  pub tokens : ts ≡ tokens_of phrase
  pub tree : e ≡ tree_of phrase

-- ---- fronts
-- For its fronts an expression is a primary with unary operators before it; behind it stands nothing, or a binary
-- operator and an expression, or `?`, an expression, `:` and an expression. The number says how many expressions may
-- stand in one another.

-- any token that is an operator
abbrev pub operator : {O : Type 0} → (Mark → Option O) → Rule (Unit {0})
operator of = record {
  sentence = λ ts a. (m : Mark) × (o : _) × (of m ≡ Some o) × (ts ≡ token.Mark m ∷ []);
  front = λ ts. (ts ≡ []) ⊎ ((m : Mark) × (o : _) × (of m ≡ Some o) × (ts ≡ token.Mark m ∷ []));
}

abbrev pub primary : Rule (Unit {0}) → Rule (Unit {0})
primary inner =
    (sized >>= λ _. give tt)
    or (name >>= λ _. give tt)
    or (do
      _ ← name
      _ ← mark_rule mark.LeftBracket
      _ ← decimal
      mark_rule mark.RightBracket)
    or (do
      _ ← name
      _ ← mark_rule mark.LeftBracket
      _ ← decimal
      _ ← mark_rule mark.Colon
      _ ← decimal
      mark_rule mark.RightBracket)
    or (do
      _ ← mark_rule mark.LeftParen
      _ ← inner
      mark_rule mark.RightParen)
    or (do
      _ ← mark_rule mark.LeftBrace
      _ ← separated inner
      mark_rule mark.RightBrace)
    or (do
      _ ← mark_rule mark.LeftBrace
      _ ← decimal
      _ ← mark_rule mark.LeftBrace
      _ ← separated inner
      _ ← mark_rule mark.RightBrace
      mark_rule mark.RightBrace)

abbrev pub shape : ℕ → Rule (Unit {0})
shape zero = nothing
shape (suc n) = do
  _ ← many (operator unary_of)
  _ ← primary (shape n)
  _ ← maybe ((operator binary_of >>= λ _. shape n) or (do
    _ ← mark_rule mark.Question
    _ ← shape n
    _ ← mark_rule mark.Colon
    shape n))
  give tt

abbrev pub expr : Rule Expr
expr = record { sentence = IsExpr; front = λ ts. (n : ℕ) × (shape n).front ts }

-- ---- counted marks

-- `(`, `{`, `?`, and each operator
abbrev pub is_counted_mark : Mark → Bool
is_counted_mark mark.LeftParen = true
is_counted_mark mark.LeftBrace = true
is_counted_mark mark.Question = true
is_counted_mark m = is_some (unary_of m) || is_some (binary_of m)

abbrev pub is_counted : TokenKind → Bool
is_counted (token.Mark m) = is_counted_mark m
is_counted _ = false

abbrev pub counted_marks : List TokenKind → ℕ
counted_marks ts = count_by is_counted ts
