-- Statements as they are written (IEEE 1364-2005, A.6.4).
use Rattle.std.specs.Prelude.{ℕ, zero, suc, Bool, true, false, Some, None}
use Rattle.eq_vlex.specs.declared.key.Key.TheVariants.{Begin, End, If as IfWord, Else}
use Rattle.eq_vlex.specs.declared.mark.Mark.TheVariants.{Semicolon, LessEqual, LeftParen, RightParen}
use Rattle.eq_vparse.specs.declared.tree.Expr.{Expr}
use Rattle.eq_vparse.specs.declared.tree.Stmt.{Stmt}
use Rattle.eq_vparse.specs.declared.tree.Stmt.TheVariants.{Empty, Set}
use Rattle.eq_vparse.specs.declared.tree.Stmt.TheViews.{Block, If}
use Rattle.eq_vparse.specs.declared.tree.Target.{Target}
use Rattle.eq_vparse.specs.Rules.{Rule, ◌>>=◌, ◌or◌, key, mark, give, many, nothing, limited}
use Rattle.eq_vparse.specs.Limits.{Limits}
use Rattle.eq_vparse.specs.Phrases.{expr, counted_marks}
use Rattle.eq_vparse.specs.Targets.{target, braces}

-- an outermost expression, and an outermost target
abbrev pub expr_within : Limits → Rule Expr
expr_within l = limited counted_marks l.marks expr

abbrev pub target_within : Limits → Rule Target
target_within l = limited braces l.marks target

-- `if (condition)`
abbrev pub condition : Limits → Rule Expr
condition l = do
  _ ← key IfWord
  _ ← mark LeftParen
  c ← expr_within l
  _ ← mark RightParen
  give c

-- only where this is so
abbrev pub provided : {A : Type 0} → Bool → Rule A → Rule A
provided true g = g
provided false g = nothing

-- Statements in which at most so many stand in one another; a dangling one may end with an `if` that has no `else`. Each `else` belongs to the nearest `if`: what
-- stands between an `if` and its `else` does not end with an `if` that has none, and so is not dangling.
abbrev pub stmt_up_to : Limits → ℕ → Bool → Rule Stmt
stmt_up_to l zero dangling = nothing
stmt_up_to l (suc n) dangling =
    (do
      _ ← mark Semicolon
      give Empty)
    or (do
      t ← target_within l
      _ ← mark LessEqual
      e ← expr_within l
      _ ← mark Semicolon
      give (Set t e))
    or (do
      _ ← key Begin
      body ← many (stmt_up_to l n true)
      _ ← key End
      give (Block body))
    or (do
      c ← condition l
      s ← stmt_up_to l n false
      _ ← key Else
      t ← stmt_up_to l n dangling
      give (If c s (Some t)))
    or provided dangling (do
      c ← condition l
      s ← stmt_up_to l n true
      give (If c s None))

abbrev pub stmt : Limits → Rule Stmt
stmt l = stmt_up_to l (suc l.levels) true
