-- Reading what one entry of a declaration or of an assignment says, behind the items that are there already.
use Rattle.std.specs.Prelude.{ℕ, List, [], ◌∷◌, ◌++◌, Option, Some, None}
use Rattle.eq_vlex.specs.declared.mark.Mark.TheVariants.{Assign as Equals}
use Rattle.eq_vlex.specs.declared.token.Constant.{Constant}
use Rattle.eq_vlex.specs.declared.token.TokenKind.{TokenKind}
use Rattle.eq_vparse.specs.declared.tree.DeclKind.{DeclKind}
use Rattle.eq_vparse.specs.declared.tree.DeclKind.TheVariants.{Output, Wire, Reg}
use Rattle.eq_vparse.specs.declared.tree.Expr.{Expr}
use Rattle.eq_vparse.specs.declared.tree.Item.{Item}
use Rattle.eq_vparse.specs.declared.tree.Item.TheVariants.{Decl, Assign, Init}
use Rattle.eq_vparse.specs.declared.tree.Range.{Range}
use Rattle.eq_vparse.specs.declared.tree.Target.TheVariants.{Net}
use Rattle.eq_vparse.specs.Limits.{Limits}
use Rattle.eq_vparse.specs.Reading.{Reading, ◌>>=◌, done, name_at, sized_at, expect, behind}
use Rattle.eq_vparse.specs.Machine.{expr_at}
use Rattle.eq_vparse.specs.TargetReading.{target_at}

unfoldable pub maybe_value_at : List TokenKind → Reading (Option Constant)
maybe_value_at = behind Equals sized_at

unfoldable pub maybe_driver_at : Limits → List TokenKind → Reading (Option Expr)
maybe_driver_at l = behind Equals (expr_at l.marks)

-- with one declaration more
abbrev pub with_decl : List Item → DeclKind → Option Range → List ℕ → List Item
with_decl items k r n = items ++ Decl k r n ∷ []

-- with the value that a register has at first, where there is one
abbrev pub with_init : List Item → List ℕ → Option Constant → List Item
with_init items n None = items
with_init items n (Some c) = items ++ Init (Net n) c ∷ []

-- with a register
unfoldable pub with_reg : List Item → Option Range → List ℕ → Option Constant → List Item
with_reg items r n c = with_init (with_decl items Reg r n) n c

-- with the expression that drives a net, where there is one
abbrev pub with_assign : List Item → List ℕ → Option Expr → List Item
with_assign items n None = items
with_assign items n (Some e) = items ++ Assign (Net n) e ∷ []

unfoldable pub port_at : DeclKind → Option Range → List Item → List TokenKind → Reading (List Item)
port_at k r items = do
  n ← name_at
  done (with_decl items k r n)

unfoldable pub reg_at : Option Range → List Item → List TokenKind → Reading (List Item)
reg_at r items = do
  n ← name_at
  c ← maybe_value_at
  done (with_reg items r n c)

unfoldable pub output_reg_at : Option Range → List Item → List TokenKind → Reading (List Item)
output_reg_at r items = do
  n ← name_at
  c ← maybe_value_at
  done (with_reg (with_decl items Output r n) r n c)

unfoldable pub wire_at : Limits → Option Range → List Item → List TokenKind → Reading (List Item)
wire_at l r items = do
  n ← name_at
  e ← maybe_driver_at l
  done (with_assign (with_decl items Wire r n) n e)

unfoldable pub assignment_at : Limits → List Item → List TokenKind → Reading (List Item)
assignment_at l items = do
  t ← target_at l.marks
  _ ← expect Equals
  e ← expr_at l.marks
  done (items ++ Assign t e ∷ [])
