-- How deep what is written of a tree is.
use Rattle.std.specs.Prelude.{ℕ, suc, ◌≤◌, max, List, [], ◌∷◌, map, Option, Some, None}
use Rattle.std.specs.List.{AllByRecursion}
use Rattle.eq_vparse.specs.declared.tree.Conns.{Conns}
use Rattle.eq_vparse.specs.declared.tree.Conns.TheVariants.{ByOrder, ByName}
use Rattle.eq_vparse.specs.declared.tree.Expr.{Expr}
use Rattle.eq_vparse.specs.declared.tree.Item.{Item}
use Rattle.eq_vparse.specs.declared.tree.Item.TheVariants as item
use Rattle.eq_vparse.specs.declared.tree.Module.{Module}
use Rattle.eq_vparse.specs.declared.tree.Named.{Named}
use Rattle.eq_vparse.specs.declared.tree.Source.{Source}
use Rattle.eq_vparse.specs.declared.tree.Stmt.{Stmt}
use Rattle.eq_vparse.specs.declared.tree.Stmt.TheOpen.{Stmt-F, Empty, Set, Block, If}
use Rattle.eq_vparse.specs.declared.tree.Stmt.TheFolds.{fold-Stmt}
use Rattle.eq_vparse.specs.declared.tree.Target.{Target}
use Rattle.eq_vparse.specs.Limits.{Limits}
use Rattle.eq_vparse.specs.Phrases.{counted_marks}
use Rattle.eq_vparse.specs.Targets.{braces}
use Rattle.eq_vparse.specs.Printing.{expr_tokens, target_tokens}

-- the largest of some numbers
abbrev pub largest : List ℕ → ℕ
largest [] = 0
largest (n ∷ ns) = max n (largest ns)

-- ---- counted marks: the most of one outermost expression or target

abbrev pub expr_marks : Expr → ℕ
expr_marks e = counted_marks (expr_tokens e)

abbrev pub target_marks : Target → ℕ
target_marks t = braces (target_tokens t)

abbrev pub maybe_marks : Option Expr → ℕ
maybe_marks None = 0
maybe_marks (Some e) = expr_marks e

abbrev pub or_none : Option ℕ → ℕ
or_none None = 0
or_none (Some n) = n

abbrev pub stmt_marks_layer : Stmt-F ℕ → ℕ
stmt_marks_layer Empty = 0
stmt_marks_layer (Set t e) = max (target_marks t) (expr_marks e)
stmt_marks_layer (Block all) = largest all
stmt_marks_layer (If c a b) = max (expr_marks c) (max a (or_none b))

abbrev pub stmt_marks : Stmt → ℕ
stmt_marks = fold-Stmt ℕ stmt_marks_layer

abbrev pub conns_marks : Conns → ℕ
conns_marks (ByOrder all) = largest (map maybe_marks all)
conns_marks (ByName all) = largest (map (λ (n : Named). maybe_marks n.expr) all)

abbrev pub item_marks : Item → ℕ
item_marks (item.Decl k r n) = 0
item_marks (item.Assign t e) = max (target_marks t) (expr_marks e)
item_marks (item.Gate k n terms) = largest (map expr_marks terms)
item_marks (item.Instance m n conns) = conns_marks conns
item_marks (item.Always clock body) = stmt_marks body
item_marks (item.Init t value) = target_marks t

-- ---- statements: how many stand in one another

abbrev pub height_layer : Stmt-F ℕ → ℕ
height_layer Empty = 1
height_layer (Set t e) = 1
height_layer (Block all) = suc (largest all)
height_layer (If c a b) = suc (max a (or_none b))

abbrev pub height : Stmt → ℕ
height = fold-Stmt ℕ height_layer

abbrev pub item_height : Item → ℕ
item_height (item.Always clock body) = height body
item_height _ = 0

-- ---- within limits

-- no outermost expression or target has more counted marks, and no statement a higher level
pub record Fits (l : Limits) (i : Item) : Type 0 where
  pub marks : item_marks i ≤ l.marks
  pub levels : item_height i ≤ suc l.levels

abbrev pub IsWithin : Limits → Source → Type 0
IsWithin l s = AllByRecursion (λ (m : Module). AllByRecursion (Fits l) m.items) s.modules
