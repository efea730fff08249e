-- What holds of all names of a list holds of each name of an expression, of a statement and of an item.
use Rattle.std.proofs.Common.{◌≡◌, true, List, [], ◌∷◌, ◌++◌, Option, Some, None, subst}
use Rattle.std.specs.Prelude.{flat_map}
use Rattle.std.specs.List.{cons_option}
use Rattle.std.proofs.lemmas.List.Concat.{flat_map-append}
use Rattle.eq_verilog.specs.Trees.{Name, ExprTree, const, net, bit, part, empty, joined, repeated, unary, binary, choice, StmtTree, idle, set, sequence, branch}
use Rattle.eq_verilog.specs.Declarations.{has, names_in, names_of_whole, wholes_of_stmt}
use Rattle.eq_flatten.proofs.Faultless.{first_name, in_back, in_front}
use Rattle.eq_flatten.proofs.SameNamed.{names_all}

-- the names of a statement
abbrev pub stmt_names : StmtTree → List Name
stmt_names b = flat_map names_of_whole (wholes_of_stmt b)

module _ (P : Name → Type 0) where
  abbrev pub OfAll : List Name → Type 0
  OfAll ns = (n : Name) → has ns n ≡ true → P n

  pub in_first : (xs ys : List Name) → OfAll (xs ++ ys) → OfAll xs
  in_first xs ys h n i = h n (in_front xs ys n i)

  pub in_second : (xs ys : List Name) → OfAll (xs ++ ys) → OfAll ys
  in_second xs ys h n i = h n (in_back xs ys n i)

  abbrev pub InExpr : ExprTree → Type 0
  InExpr (const c) = Unit {0}
  InExpr (net n) = P n
  InExpr (bit n i) = P n
  InExpr (part n l r) = P n
  InExpr empty = Unit {0}
  InExpr (joined a b) = InExpr a × InExpr b
  InExpr (repeated n a) = InExpr a
  InExpr (unary op a) = InExpr a
  InExpr (binary op a b) = InExpr a × InExpr b
  InExpr (choice c a b) = InExpr c × InExpr a × InExpr b

  pub in_expr : (e : ExprTree) → OfAll (names_in e) → InExpr e
  in_expr (const c) h = tt
  in_expr (net n) h = h n (first_name n [])
  in_expr (bit n i) h = h n (first_name n [])
  in_expr (part n l r) h = h n (first_name n [])
  in_expr empty h = tt
  in_expr (joined a b) h =
      (in_expr a (in_first (names_in a) (names_in b) h), in_expr b (in_second (names_in a) (names_in b) h))
  in_expr (repeated n a) h = in_expr a h
  in_expr (unary op a) h = in_expr a h
  in_expr (binary op a b) h =
      (in_expr a (in_first (names_in a) (names_in b) h), in_expr b (in_second (names_in a) (names_in b) h))
  in_expr (choice c a b) h =
      let both = in_first (names_in c ++ names_in a) (names_in b) h in (
        in_expr c (in_first (names_in c) (names_in a) both),
        in_expr a (in_second (names_in c) (names_in a) both),
        in_expr b (in_second (names_in c ++ names_in a) (names_in b) h),
      )

  abbrev pub InExprs : List ExprTree → Type 0
  InExprs [] = Unit {0}
  InExprs (e ∷ es) = InExpr e × InExprs es

  pub in_exprs : (es : List ExprTree) → OfAll (names_all es) → InExprs es
  in_exprs [] h = tt
  in_exprs (e ∷ es) h =
      (in_expr e (in_first (names_in e) (names_all es) h), in_exprs es (in_second (names_in e) (names_all es) h))

  abbrev pub InOption : Option ExprTree → Type 0
  InOption None = Unit {0}
  InOption (Some e) = InExpr e

  pub option_first : (o : Option ExprTree) (es : List ExprTree) → OfAll (names_all (cons_option o es)) → InOption o
  option_first None es h = tt
  option_first (Some e) es h = in_expr e (in_first (names_in e) (names_all es) h)

  pub option_rest : (o : Option ExprTree) (es : List ExprTree) → OfAll (names_all (cons_option o es)) →
      OfAll (names_all es)
  option_rest None es h = h
  option_rest (Some e) es h = in_second (names_in e) (names_all es) h

  abbrev pub InStmt : StmtTree → Type 0
  InStmt idle = Unit {0}
  InStmt (set t e) = InExpr t × InExpr e
  InStmt (sequence a b) = InStmt a × InStmt b
  InStmt (branch c a b) = InExpr c × InStmt a × InStmt b

  two : (a b : StmtTree) → OfAll (flat_map names_of_whole (wholes_of_stmt a ++ wholes_of_stmt b)) →
      OfAll (stmt_names a ++ stmt_names b)
  two a b h = subst OfAll (flat_map-append names_of_whole (wholes_of_stmt a) (wholes_of_stmt b)) h

  pub in_stmt : (b : StmtTree) → OfAll (stmt_names b) → InStmt b
  in_stmt idle h = tt
  in_stmt (set t e) h =
      let other = in_second (names_in t) (names_in e ++ []) h in
      (in_expr t (in_first (names_in t) (names_in e ++ []) h), in_expr e (in_first (names_in e) [] other))
  in_stmt (sequence a b) h =
      let both = two a b h in
      let first = in_first (stmt_names a) (stmt_names b) both in
      (in_stmt a first, in_stmt b (in_second (stmt_names a) (stmt_names b) both))
  in_stmt (branch c a b) h =
      let inner = flat_map names_of_whole (wholes_of_stmt a ++ wholes_of_stmt b) in
      let both = two a b (in_second (names_in c) inner h) in (
        in_expr c (in_first (names_in c) inner h),
        in_stmt a (in_first (stmt_names a) (stmt_names b) both),
        in_stmt b (in_second (stmt_names a) (stmt_names b) both),
      )
