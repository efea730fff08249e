-- Reading the terminals of gates and the connections of instances.
use Rattle.std.specs.Prelude.{ℕ, List, [], ◌∷◌, ◌++◌, Bool, true, false, ◌||◌, Option, if◌then◌else◌}
use Rattle.eq_vlex.specs.declared.mark.Mark.TheVariants.{LeftParen, RightParen, Comma, Dot}
use Rattle.eq_vlex.specs.declared.token.TokenKind.{TokenKind}
use Rattle.eq_vparse.specs.declared.tree.Conns.{Conns}
use Rattle.eq_vparse.specs.declared.tree.Conns.TheVariants.{ByOrder, ByName}
use Rattle.eq_vparse.specs.declared.tree.Expr.{Expr}
use Rattle.eq_vparse.specs.declared.tree.GateKind.{GateKind}
use Rattle.eq_vparse.specs.declared.tree.Item.{Item}
use Rattle.eq_vparse.specs.declared.tree.Item.TheVariants.{Gate, Instance}
use Rattle.eq_vparse.specs.declared.tree.Named.{Named}
use Rattle.eq_vparse.specs.Limits.{Limits}
use Rattle.eq_vparse.specs.Tests.{is_mark, is_word}
use Rattle.eq_vparse.specs.Reading.{Reading, read, ◌>>=◌, done, name_at, expect, some_if, unless}
use Rattle.eq_vparse.specs.Looping.{comma_list}
use Rattle.eq_vparse.specs.Machine.{expr_at}

-- ---- terminals

unfoldable pub term_at : Limits → List Expr → List TokenKind → Reading (List Expr)
term_at l past = do
  e ← expr_at l.marks
  done (past ++ e ∷ [])

unfoldable pub terms_at : Limits → List TokenKind → Reading (List Expr)
terms_at l ts = comma_list (term_at l) [] ts

unfoldable pub maybe_name_at : List TokenKind → Reading (Option (List ℕ))
maybe_name_at ts = some_if name_at (is_word ts) ts

unfoldable pub gate_at : Limits → GateKind → List Item → List TokenKind → Reading (List Item)
gate_at l kind items = do
  n ← maybe_name_at
  _ ← expect LeftParen
  es ← terms_at l
  _ ← expect RightParen
  done (items ++ Gate kind n es ∷ [])

-- ---- connections

abbrev pub ends_connection : List TokenKind → Bool
ends_connection ts = is_mark Comma ts || is_mark RightParen ts

unfoldable pub maybe_expr_at : Limits → List TokenKind → Reading (Option Expr)
maybe_expr_at l = unless ends_connection (expr_at l.marks)

unfoldable pub ordered_at : Limits → List (Option Expr) → List TokenKind → Reading (List (Option Expr))
ordered_at l past = do
  e ← maybe_expr_at l
  done (past ++ e ∷ [])

unfoldable pub named_at : Limits → List TokenKind → Reading Named
named_at l = do
  _ ← expect Dot
  p ← name_at
  _ ← expect LeftParen
  e ← maybe_expr_at l
  _ ← expect RightParen
  done (record { port = p; expr = e })

unfoldable pub more_named_at : Limits → List Named → List TokenKind → Reading (List Named)
more_named_at l past = do
  n ← named_at l
  done (past ++ n ∷ [])

unfoldable pub by_order_at : Limits → List TokenKind → Reading (List (Option Expr))
by_order_at l ts = comma_list (ordered_at l) [] ts

unfoldable pub by_name_at : Limits → List TokenKind → Reading (List Named)
by_name_at l ts = comma_list (more_named_at l) [] ts

unfoldable pub some_conns_at : Limits → Bool → List TokenKind → Reading Conns
some_conns_at l true = by_name_at l >>= λ ns. done (ByName ns)
some_conns_at l false = by_order_at l >>= λ es. done (ByOrder es)

unfoldable pub conns_at : Limits → List TokenKind → Reading Conns
conns_at l ts = if is_mark RightParen ts then read (ByName []) ts else some_conns_at l (is_mark Dot ts) ts

unfoldable pub instance_at : Limits → List ℕ → List Item → List TokenKind → Reading (List Item)
instance_at l m items = do
  n ← name_at
  _ ← expect LeftParen
  cs ← conns_at l
  _ ← expect RightParen
  done (items ++ Instance m n cs ∷ [])
