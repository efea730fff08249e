-- The expressions and targets of a statement whose tokens were read of a text are spelled.
use Rattle.std.proofs.Common.{ℕ, zero, suc, Bool, true, false, List, [], ◌∷◌, ◌++◌, map, sym, subst, arith, inl, inr}
use Rattle.std.specs.List.{AllByRecursion}
use Rattle.eq_vlex.specs.declared.token.TokenKind.{TokenKind}
use Rattle.eq_vparse.specs.declared.tree.Expr.{Expr}
use Rattle.eq_vparse.specs.declared.tree.Stmt.{Stmt}
use Rattle.eq_vparse.specs.Depths.{height, stmt_marks}
use Rattle.eq_vparse.specs.Limits.{Limits}
use Rattle.eq_vparse.specs.Printing.{stmt_tokens}
use Rattle.eq_vparse.specs.Statements.{condition, stmt_up_to}
use Rattle.eq_vparse.proofs.LexedTokens.{AreLexed, lexed_split}
use Rattle.eq_vparse.proofs.RuleParts.{each_of_many}
use Rattle.eq_vparse.proofs.StmtAgain.{IsStmt}
use Rattle.eq_verilog.specs.Declarations.{Whole, wholes_of_stmt}
use Rattle.eq_verilog.specs.Trees.{StmtTree, idle, branch, expr_tree, stmt_tree, in_sequence}
use Rattle.eq_verilog.proofs.PureTrees.{of_empty, of_set, of_block, of_if, of_if_else}
use Rattle.eq_flatten.specs.Spelled.{HasSizes, IsSpelled}
use Rattle.eq_spelled.proofs.Expressions.{printable_lexed, expr_sizes}
use Rattle.eq_spelled.proofs.Targets.{within_target}

spelled_append : (xs ys : List Whole) → IsSpelled xs → IsSpelled ys → IsSpelled (xs ++ ys)
spelled_append [] ys p q = q
spelled_append (x ∷ xs) ys p q = (p.0, spelled_append xs ys p.1 q)

abbrev TreeSpelled : StmtTree → Type 0
TreeSpelled t = IsSpelled (wholes_of_stmt t)

abbrev pub StmtSpelled : Stmt → Type 0
StmtSpelled s = TreeSpelled (stmt_tree s)

sequence_spelled : (ss : List Stmt) → AllByRecursion StmtSpelled ss → TreeSpelled (in_sequence (map stmt_tree ss))
sequence_spelled [] h = tt
sequence_spelled (s ∷ ss) h =
    spelled_append (wholes_of_stmt (stmt_tree s)) (wholes_of_stmt (in_sequence (map stmt_tree ss))) h.0
    (sequence_spelled ss h.1)

if_spelled : (c : Expr) (s : Stmt) → HasSizes (expr_tree c) → StmtSpelled s
    → TreeSpelled (branch (expr_tree c) (stmt_tree s) idle)
if_spelled c s sizes h = (sizes, spelled_append (wholes_of_stmt (stmt_tree s)) [] h tt)

if_else_spelled : (c : Expr) (s t : Stmt) → HasSizes (expr_tree c) → StmtSpelled s → StmtSpelled t
    → TreeSpelled (branch (expr_tree c) (stmt_tree s) (stmt_tree t))
if_else_spelled c s t sizes h k =
    (sizes, spelled_append (wholes_of_stmt (stmt_tree s)) (wholes_of_stmt (stmt_tree t)) h k)

condition_sizes : (l : Limits) (ts : List TokenKind) (c : Expr) → AreLexed ts → (condition l).sentence ts c
    → HasSizes (expr_tree c)
condition_sizes l ts c lexed h =
    let one = lexed_split ts h.0 h.1 h.3 lexed in
    let paren = h.5 in
    let two = lexed_split h.1 paren.0 paren.1 paren.3 one.1 in
    let inner = paren.5 in
    let three = lexed_split paren.1 inner.0 inner.1 inner.3 two.1 in
    subst (λ (x : Expr). HasSizes (expr_tree x)) (sym inner.5.5.1) (expr_sizes inner.0 inner.2 three.0 inner.4.0)

-- what is read as a statement of a text's tokens
stmt_spelled : (l : Limits) (n : ℕ) (dangling : Bool) (ts : List TokenKind) (s : Stmt) → AreLexed ts
    → (stmt_up_to l n dangling).sentence ts s → StmtSpelled s
stmt_spelled l zero dangling ts s lexed h = absurd h
stmt_spelled l (suc n) dangling ts s lexed (inl h) =
    subst StmtSpelled (sym h.5.1) (subst TreeSpelled (sym of_empty) tt)
stmt_spelled l (suc n) dangling ts s lexed (inr (inl h)) =
    let one = lexed_split ts h.0 h.1 h.3 lexed in
    let arrow = h.5 in
    let two = lexed_split h.1 arrow.0 arrow.1 arrow.3 one.1 in
    let value = arrow.5 in
    let three = lexed_split arrow.1 value.0 value.1 value.3 two.1 in
    let left = within_target l h.0 h.2 one.0 h.4 in
    let sizes = expr_sizes value.0 value.2 three.0 value.4.0 in
    subst StmtSpelled (sym value.5.5.1) (subst TreeSpelled (sym (of_set h.2 value.2)) (left, (sizes, tt)))
stmt_spelled l (suc n) dangling ts s lexed (inr (inr (inl h))) =
    let one = lexed_split ts h.0 h.1 h.3 lexed in
    let body = h.5 in
    let two = lexed_split h.1 body.0 body.1 body.3 one.1 in
    let each = each_of_many (stmt_up_to l n true) StmtSpelled (stmt_spelled l n true) body.0 body.2 two.0 body.4 in
    subst StmtSpelled (sym body.5.5.1) (subst TreeSpelled (sym (of_block body.2)) (sequence_spelled body.2 each))
stmt_spelled l (suc n) dangling ts s lexed (inr (inr (inr (inl h)))) =
    let one = lexed_split ts h.0 h.1 h.3 lexed in
    let first = h.5 in
    let two = lexed_split h.1 first.0 first.1 first.3 one.1 in
    let word = first.5 in
    let three = lexed_split first.1 word.0 word.1 word.3 two.1 in
    let second = word.5 in
    let four = lexed_split word.1 second.0 second.1 second.3 three.1 in
    let sizes = condition_sizes l h.0 h.2 one.0 h.4 in
    let taken = stmt_spelled l n false first.0 first.2 two.0 first.4 in
    let other = stmt_spelled l n dangling second.0 second.2 four.0 second.4 in
    let tree = if_else_spelled h.2 first.2 second.2 sizes taken other in
    subst StmtSpelled (sym second.5.1) (subst TreeSpelled (sym (of_if_else h.2 first.2 second.2)) tree)
stmt_spelled l (suc n) true ts s lexed (inr (inr (inr (inr h)))) =
    let one = lexed_split ts h.0 h.1 h.3 lexed in
    let first = h.5 in
    let two = lexed_split h.1 first.0 first.1 first.3 one.1 in
    let sizes = condition_sizes l h.0 h.2 one.0 h.4 in
    let taken = stmt_spelled l n true first.0 first.2 two.0 first.4 in
    subst StmtSpelled (sym first.5.1) (subst TreeSpelled (sym (of_if h.2 first.2)) (if_spelled h.2 first.2 sizes taken))
stmt_spelled l (suc n) false ts s lexed (inr (inr (inr (inr h)))) = absurd h

-- a statement that is read again as it is written
pub again_stmt : (s : Stmt) → IsStmt true s → StmtSpelled s
again_stmt s is =
    let l : Limits = record { marks = stmt_marks s; levels = 0 } in
    let sentence = is.sentence l (height s) (omega arith) (omega arith) in
    stmt_spelled l (height s) true (stmt_tokens s) s (printable_lexed (stmt_tokens s) is.good.printable) sentence
