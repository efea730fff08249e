-- What is written of a statement is a statement with the same tree.
use Rattle.std.proofs.Common.{◌≡◌, ℕ, zero, suc, ◌≤◌, max, Bool, true, false, List, [], ◌∷◌, ◌++◌, map, Some, None, refl, sym, ap, subst, ◌∙◌, append_assoc, arith, inl, inr}
use Rattle.std.specs.List.{AllByRecursion}
use Rattle.std.proofs.lemmas.List.{append-nil}
use Rattle.eq_vlex.specs.declared.key.Key.TheVariants as key
use Rattle.eq_vlex.specs.declared.mark.Mark.TheVariants as mark
use Rattle.eq_vlex.specs.declared.token.TokenKind.{TokenKind}
use Rattle.eq_vlex.specs.declared.token.TokenKind.TheVariants as kind
use Rattle.eq_vparse.specs.declared.tree.Expr.{Expr}
use Rattle.eq_vparse.specs.declared.tree.Stmt.{Stmt}
use Rattle.eq_vparse.specs.declared.tree.Stmt.TheVariants.{Empty, Set, rolls-Empty, rolls-Set, rolls-Block, rolls-If}
use Rattle.eq_vparse.specs.declared.tree.Stmt.TheViews.{Block, If}
use Rattle.eq_vparse.specs.declared.tree.Stmt.TheOpen.{Empty as empty_layer, Set as set_layer, Block as block_layer, If as if_layer}
use Rattle.eq_vparse.specs.declared.tree.Stmt.TheFolds.{fold-roll-Stmt}
use Rattle.eq_vparse.specs.declared.tree.Target.{Target}
use Rattle.eq_vparse.specs.Rules.{AreMany}
use Rattle.eq_vparse.specs.Limits.{Limits}
use Rattle.eq_vparse.specs.Statements.{expr_within, target_within, condition, stmt_up_to}
use Rattle.eq_vparse.specs.Layout.{all_follow, follows, may_follow}
use Rattle.eq_vparse.specs.Depths.{largest, expr_marks, target_marks, stmt_marks_layer, stmt_marks, height_layer, height}
use Rattle.eq_vparse.specs.Printing.{parenthesized, expr_tokens, target_tokens, set_tokens, block_tokens, if_tokens, stmt_tokens, stmts_tokens}
use Rattle.eq_vparse.proofs.LexedTokens.{AreLexed, lexed_split}
use Rattle.eq_vparse.proofs.Parts.{ArePrintable, printable_append, any_token, any_list, loose, opens, no_question, Part, paren_part, step_key, step_plain, step_part}
use Rattle.eq_vparse.proofs.Printed.{stmt_empty, stmt_set, stmt_block, stmt_if, stmt_if_else}
use Rattle.eq_vparse.proofs.RuleParts.{IsGood, each_of_many}
use Rattle.eq_vparse.proofs.ExprAgain.{IsAgain, expr_again, written_expr, expr_part}
use Rattle.eq_vparse.proofs.TargetAgain.{IsTarget, target_again}

-- ---- how deep each kind of statement is

height_empty : height Empty ≡ 1
height_empty = ap height (sym rolls-Empty) ∙ fold-roll-Stmt ℕ height_layer empty_layer

height_set : (t : Target) (e : Expr) → height (Set t e) ≡ 1
height_set t e = ap height (sym (rolls-Set t e)) ∙ fold-roll-Stmt ℕ height_layer (set_layer t e)

height_block : (ss : List Stmt) → height (Block ss) ≡ suc (largest (map height ss))
height_block ss = ap height (sym (rolls-Block ss)) ∙ fold-roll-Stmt ℕ height_layer (block_layer ss)

height_if : (c : Expr) (a : Stmt) → height (If c a None) ≡ suc (max (height a) 0)
height_if c a = ap height (sym (rolls-If c a None)) ∙ fold-roll-Stmt ℕ height_layer (if_layer c a None)

height_if_else : (c : Expr) (a b : Stmt) → height (If c a (Some b)) ≡ suc (max (height a) (height b))
height_if_else c a b = ap height (sym (rolls-If c a (Some b))) ∙ fold-roll-Stmt ℕ height_layer (if_layer c a (Some b))

marks_set : (t : Target) (e : Expr) → stmt_marks (Set t e) ≡ max (target_marks t) (expr_marks e)
marks_set t e = ap stmt_marks (sym (rolls-Set t e)) ∙ fold-roll-Stmt ℕ stmt_marks_layer (set_layer t e)

marks_block : (ss : List Stmt) → stmt_marks (Block ss) ≡ largest (map stmt_marks ss)
marks_block ss = ap stmt_marks (sym (rolls-Block ss)) ∙ fold-roll-Stmt ℕ stmt_marks_layer (block_layer ss)

marks_if : (c : Expr) (a : Stmt) → stmt_marks (If c a None) ≡ max (expr_marks c) (max (stmt_marks a) 0)
marks_if c a = ap stmt_marks (sym (rolls-If c a None)) ∙ fold-roll-Stmt ℕ stmt_marks_layer (if_layer c a None)

marks_if_else : (c : Expr) (a b : Stmt) → stmt_marks (If c a (Some b)) ≡ max (expr_marks c) (max (stmt_marks a) (stmt_marks b))
marks_if_else c a b = ap stmt_marks (sym (rolls-If c a (Some b))) ∙ fold-roll-Stmt ℕ stmt_marks_layer (if_layer c a (Some b))

-- ---- what is written

pub record IsStmt (dangling : Bool) (s : Stmt) : Type 0 where
  pub sentence : (l : Limits) (n : ℕ) → height s ≤ n → stmt_marks s ≤ l.marks → (stmt_up_to l n dangling).sentence (stmt_tokens s) s
  pub good : IsGood loose any_list (stmt_tokens s)

-- tokens of a statement with an equation
stmt_from : (dangling : Bool) (s : Stmt) (ts : List TokenKind) → stmt_tokens s ≡ ts → ((l : Limits) (n : ℕ) → height s ≤ suc n → stmt_marks s ≤ l.marks → (stmt_up_to l (suc n) dangling).sentence ts s) → 1 ≤ height s → ArePrintable ts → Part loose any_list ts → IsStmt dangling s
stmt_from dangling s ts is sentence some printable part =
    record { sentence = at; good = subst (IsGood loose any_list) (sym is) (record { printable = printable; part = part }) }
  where
    at : (l : Limits) (n : ℕ) → height s ≤ n → stmt_marks s ≤ l.marks → (stmt_up_to l n dangling).sentence (stmt_tokens s) s
    at l zero low few = absurd (omega (arith, some, low))
    at l (suc n) low few = let S : List TokenKind → Type 0 = λ us. (stmt_up_to l (suc n) dangling).sentence us s in subst S (sym is) (sentence l n low few)

key_follows : (t : TokenKind) (k : _) → may_follow t (kind.Key k) ≡ true
key_follows (kind.Mark m) k = refl
key_follows (kind.Word w) k = refl
key_follows (kind.Key j) k = refl
key_follows (kind.Decimal d) k = refl
key_follows (kind.Sized c) k = refl

semicolon_follows : (t : TokenKind) → loose t ≡ true → may_follow t (kind.Mark mark.Semicolon) ≡ true
semicolon_follows (kind.Key k) e = refl
semicolon_follows (kind.Mark mark.RightParen) e = refl
semicolon_follows (kind.Mark mark.Semicolon) e = refl
semicolon_follows (kind.Mark _) e = absurd cc
semicolon_follows (kind.Word w) e = absurd cc
semicolon_follows (kind.Decimal d) e = absurd cc
semicolon_follows (kind.Sized c) e = absurd cc

-- ---- no statement, and a value for a target

empty_again : (dangling : Bool) → IsStmt dangling Empty
empty_again dangling =
    stmt_from dangling Empty (kind.Mark mark.Semicolon ∷ []) stmt_empty (λ l n low few. inl (kind.Mark mark.Semicolon ∷ [], [], tt, refl, refl, (refl, refl))) (omega (arith, height_empty)) (tt, tt)
    (record { starts = λ t vs o. semicolon_follows t o; flows = λ vs g h. step_plain mark.Semicolon vs refl h })

set_part : (ts es : List TokenKind) → Part any_token any_list ts → Part opens no_question es → Part loose any_list (ts ++ kind.Mark mark.LessEqual ∷ (es ++ kind.Mark mark.Semicolon ∷ []))
set_part ts es p q = record {
  starts = λ t vs o. let P : List TokenKind → Type 0 = λ us. follows t us ≡ true in subst P (sym (append_assoc ts (kind.Mark mark.LessEqual ∷ (es ++ kind.Mark mark.Semicolon ∷ [])) vs)) (p.starts t (kind.Mark mark.LessEqual ∷ ((es ++ kind.Mark mark.Semicolon ∷ []) ++ vs)) refl);
  flows = λ vs g h.
      let P : List TokenKind → Type 0 = λ us. all_follow us ≡ true in
      let Q : List TokenKind → Type 0 = λ us. all_follow (kind.Mark mark.LessEqual ∷ us) ≡ true in
      let inner = step_part (kind.Mark mark.LessEqual) opens no_question es (kind.Mark mark.Semicolon ∷ vs) q refl refl (step_plain mark.Semicolon vs refl h) in
      subst P (sym (append_assoc ts (kind.Mark mark.LessEqual ∷ (es ++ kind.Mark mark.Semicolon ∷ [])) vs))
      (p.flows (kind.Mark mark.LessEqual ∷ ((es ++ kind.Mark mark.Semicolon ∷ []) ++ vs)) refl (subst Q (sym (append_assoc es (kind.Mark mark.Semicolon ∷ []) vs)) inner));
}

set_again : (dangling : Bool) (m : ℕ) (t : Target) (e : Expr) → IsTarget m t → IsAgain e → IsStmt dangling (Set t e)
set_again dangling m t e a b =
    let after : List TokenKind = expr_tokens e ++ kind.Mark mark.Semicolon ∷ [] in
    stmt_from dangling (Set t e) (set_tokens t e) (stmt_set t e)
    (λ l n low few. inr (inl (
      target_tokens t,
      kind.Mark mark.LessEqual ∷ after,
      t,
      refl,
      ((m, a.sentence), omega (arith, few, marks_set t e)),
      (
        kind.Mark mark.LessEqual ∷ [],
        after,
        tt,
        refl,
        refl,
        (expr_tokens e, kind.Mark mark.Semicolon ∷ [], e, refl, (written_expr e b, omega (arith, few, marks_set t e)), (kind.Mark mark.Semicolon ∷ [], [], tt, refl, refl, (refl, refl))),
      ),
    )))
    (omega (arith, height_set t e)) (printable_append (target_tokens t) (kind.Mark mark.LessEqual ∷ after) a.good.printable (tt, printable_append (expr_tokens e) (kind.Mark mark.Semicolon ∷ []) b.printable (tt, tt)))
    (set_part (target_tokens t) (expr_tokens e) a.good.part (expr_part e b))

-- ---- blocks

body_printable : (ss : List Stmt) → AllByRecursion (IsStmt true) ss → ArePrintable (stmts_tokens ss)
body_printable [] h = tt
body_printable (s ∷ ss) h = printable_append (stmt_tokens s) (stmts_tokens ss) h.0.good.printable (body_printable ss h.1)

body_flows : (ss : List Stmt) (vs : List TokenKind) → AllByRecursion (IsStmt true) ss → all_follow vs ≡ true → all_follow (stmts_tokens ss ++ vs) ≡ true
body_flows [] vs h e = e
body_flows (s ∷ ss) vs h e =
    let P : List TokenKind → Type 0 = λ us. all_follow us ≡ true in
    subst P (sym (append_assoc (stmt_tokens s) (stmts_tokens ss) vs)) (h.0.good.part.flows (stmts_tokens ss ++ vs) refl (body_flows ss vs h.1 e))

body_written : (l : Limits) (n : ℕ) (ss : List Stmt) → AllByRecursion (IsStmt true) ss → largest (map height ss) ≤ n → largest (map stmt_marks ss) ≤ l.marks → AreMany (stmt_up_to l n true) (stmts_tokens ss) ss
body_written l n [] h low few = refl
body_written l n (s ∷ ss) h low few = (stmt_tokens s, stmts_tokens ss, refl, h.0.sentence l n (omega arith) (omega arith), body_written l n ss h.1 (omega arith) (omega arith))

block_part : (ss : List Stmt) → AllByRecursion (IsStmt true) ss → Part loose any_list (block_tokens (stmts_tokens ss))
block_part ss h = record {
  starts = λ t vs o. key_follows t key.Begin;
  flows = λ vs g e.
      let P : List TokenKind → Type 0 = λ us. all_follow (kind.Key key.Begin ∷ us) ≡ true in
      subst P (sym (append_assoc (stmts_tokens ss) (kind.Key key.End ∷ []) vs)) (step_key key.Begin (stmts_tokens ss ++ kind.Key key.End ∷ vs) (body_flows ss (kind.Key key.End ∷ vs) h (step_key key.End vs e)));
}

block_again : (dangling : Bool) (ss : List Stmt) → AllByRecursion (IsStmt true) ss → IsStmt dangling (Block ss)
block_again dangling ss h =
    stmt_from dangling (Block ss) (block_tokens (stmts_tokens ss)) (stmt_block ss)
    (λ l n low few. inr (inr (inl (
      kind.Key key.Begin ∷ [],
      stmts_tokens ss ++ kind.Key key.End ∷ [],
      tt,
      refl,
      refl,
      (stmts_tokens ss, kind.Key key.End ∷ [], ss, refl, body_written l n ss h (omega (arith, low, height_block ss)) (omega (arith, few, marks_block ss)), (kind.Key key.End ∷ [], [], tt, refl, refl, (refl, refl))),
    ))))
    (omega (arith, height_block ss)) ((λ e. absurd cc), printable_append (stmts_tokens ss) (kind.Key key.End ∷ []) (body_printable ss h) ((λ e. absurd cc), tt)) (block_part ss h)

-- ---- conditions

condition_written : (l : Limits) (c : Expr) → IsAgain c → expr_marks c ≤ l.marks → (condition l).sentence (if_tokens c) c
condition_written l c a few = (
  kind.Key key.If ∷ [],
  parenthesized (expr_tokens c),
  tt,
  refl,
  refl,
  (
    kind.Mark mark.LeftParen ∷ [],
    expr_tokens c ++ kind.Mark mark.RightParen ∷ [],
    tt,
    refl,
    refl,
    (expr_tokens c, kind.Mark mark.RightParen ∷ [], c, refl, (written_expr c a, few), (kind.Mark mark.RightParen ∷ [], [], tt, refl, refl, (refl, refl))),
  ),
)

condition_printable : (c : Expr) → IsAgain c → ArePrintable (if_tokens c)
condition_printable c a = ((λ e. absurd cc), (tt, printable_append (expr_tokens c) (kind.Mark mark.RightParen ∷ []) a.printable (tt, tt)))

condition_flows : (c : Expr) (vs : List TokenKind) → IsAgain c → all_follow vs ≡ true → all_follow (if_tokens c ++ vs) ≡ true
condition_flows c vs a h = step_key key.If (parenthesized (expr_tokens c) ++ vs) ((paren_part (expr_tokens c) (expr_part c a)).flows vs refl h)

if_again : (c : Expr) (s : Stmt) → IsAgain c → IsStmt true s → IsStmt true (If c s None)
if_again c s a b =
    stmt_from true (If c s None) (if_tokens c ++ stmt_tokens s) (stmt_if c s)
    (λ l n low few. inr (inr (inr (inr (
      if_tokens c,
      stmt_tokens s,
      c,
      refl,
      condition_written l c a (omega (arith, few, marks_if c s)),
      (stmt_tokens s, [], s, sym (append-nil (stmt_tokens s)), b.sentence l n (omega (arith, low, height_if c s)) (omega (arith, few, marks_if c s)), (refl, refl)),
    )))))
    (omega (arith, height_if c s)) (printable_append (if_tokens c) (stmt_tokens s) (condition_printable c a) b.good.printable)
    (record {
      starts = λ t vs o. key_follows t key.If;
      flows = λ vs g h.
          let P : List TokenKind → Type 0 = λ us. all_follow us ≡ true in
          subst P (sym (append_assoc (if_tokens c) (stmt_tokens s) vs)) (condition_flows c (stmt_tokens s ++ vs) a (b.good.part.flows vs refl h));
    })

if_else_again : (dangling : Bool) (c : Expr) (s t : Stmt) → IsAgain c → IsStmt false s → IsStmt dangling t → IsStmt dangling (If c s (Some t))
if_else_again dangling c s t a b d =
    let after : List TokenKind = stmt_tokens s ++ kind.Key key.Else ∷ stmt_tokens t in
    stmt_from dangling (If c s (Some t)) (if_tokens c ++ after) (stmt_if_else c s t)
    (λ l n low few. inr (inr (inr (inl (
      if_tokens c,
      after,
      c,
      refl,
      condition_written l c a (omega (arith, few, marks_if_else c s t)),
      (
        stmt_tokens s,
        kind.Key key.Else ∷ stmt_tokens t,
        s,
        refl,
        b.sentence l n (omega (arith, low, height_if_else c s t)) (omega (arith, few, marks_if_else c s t)),
        (
          kind.Key key.Else ∷ [],
          stmt_tokens t,
          tt,
          refl,
          refl,
          (stmt_tokens t, [], t, sym (append-nil (stmt_tokens t)), d.sentence l n (omega (arith, low, height_if_else c s t)) (omega (arith, few, marks_if_else c s t)), (refl, refl)),
        ),
      ),
    )))))
    (omega (arith, height_if_else c s t)) (printable_append (if_tokens c) after (condition_printable c a) (printable_append (stmt_tokens s) (kind.Key key.Else ∷ stmt_tokens t) b.good.printable ((λ e. absurd cc), d.good.printable)))
    (record {
      starts = λ u vs o. key_follows u key.If;
      flows = λ vs g h.
          let P : List TokenKind → Type 0 = λ us. all_follow us ≡ true in
          let Q : List TokenKind → Type 0 = λ us. all_follow (if_tokens c ++ us) ≡ true in
          subst P (sym (append_assoc (if_tokens c) after vs))
          (subst Q (sym (append_assoc (stmt_tokens s) (kind.Key key.Else ∷ stmt_tokens t) vs))
          (condition_flows c (stmt_tokens s ++ kind.Key key.Else ∷ (stmt_tokens t ++ vs)) a (b.good.part.flows (kind.Key key.Else ∷ (stmt_tokens t ++ vs)) refl (step_key key.Else (stmt_tokens t ++ vs) (d.good.part.flows vs refl h)))));
    })

-- ---- statements as they are read

pub expr_read : (l : Limits) (ts : List TokenKind) (e : Expr) → AreLexed ts → (expr_within l).sentence ts e → IsAgain e
expr_read l ts e lexed h = expr_again ts e lexed h.0

pub target_read : (l : Limits) (ts : List TokenKind) (t : Target) → AreLexed ts → (target_within l).sentence ts t → (n : ℕ) × IsTarget n t
target_read l ts t lexed h = (h.0.0, target_again h.0.0 ts t lexed h.0.1)

condition_read : (l : Limits) (ts : List TokenKind) (c : Expr) → AreLexed ts → (condition l).sentence ts c → IsAgain c
condition_read l ts c lexed h =
    let one = lexed_split ts h.0 h.1 h.3 lexed in
    let paren = h.5 in
    let two = lexed_split h.1 paren.0 paren.1 paren.3 one.1 in
    let inner = paren.5 in
    let three = lexed_split paren.1 inner.0 inner.1 inner.3 two.1 in
    subst IsAgain (sym inner.5.5.1) (expr_read l inner.0 inner.2 three.0 inner.4)

pub stmt_again : (l : Limits) (n : ℕ) (dangling : Bool) (ts : List TokenKind) (s : Stmt) → AreLexed ts → (stmt_up_to l n dangling).sentence ts s → IsStmt dangling s
stmt_again l zero dangling ts s lexed h = absurd h
stmt_again l (suc n) dangling ts s lexed (inl h) = subst (IsStmt dangling) (sym h.5.1) (empty_again dangling)
stmt_again l (suc n) dangling ts s lexed (inr (inl h)) =
    let one = lexed_split ts h.0 h.1 h.3 lexed in
    let target = target_read l h.0 h.2 one.0 h.4 in
    let arrow = h.5 in
    let two = lexed_split h.1 arrow.0 arrow.1 arrow.3 one.1 in
    let value = arrow.5 in
    let three = lexed_split arrow.1 value.0 value.1 value.3 two.1 in
    subst (IsStmt dangling) (sym value.5.5.1) (set_again dangling target.0 h.2 value.2 target.1 (expr_read l value.0 value.2 three.0 value.4))
stmt_again l (suc n) dangling ts s lexed (inr (inr (inl h))) =
    let one = lexed_split ts h.0 h.1 h.3 lexed in
    let body = h.5 in
    let two = lexed_split h.1 body.0 body.1 body.3 one.1 in
    subst (IsStmt dangling) (sym body.5.5.1) (block_again dangling body.2 (each_of_many (stmt_up_to l n true) (IsStmt true) (stmt_again l n true) body.0 body.2 two.0 body.4))
stmt_again l (suc n) dangling ts s lexed (inr (inr (inr (inl h)))) =
    let one = lexed_split ts h.0 h.1 h.3 lexed in
    let first = h.5 in
    let two = lexed_split h.1 first.0 first.1 first.3 one.1 in
    let word = first.5 in
    let three = lexed_split first.1 word.0 word.1 word.3 two.1 in
    let second = word.5 in
    let four = lexed_split word.1 second.0 second.1 second.3 three.1 in
    subst (IsStmt dangling) (sym second.5.1)
    (if_else_again dangling h.2 first.2 second.2 (condition_read l h.0 h.2 one.0 h.4) (stmt_again l n false first.0 first.2 two.0 first.4) (stmt_again l n dangling second.0 second.2 four.0 second.4))
stmt_again l (suc n) true ts s lexed (inr (inr (inr (inr h)))) =
    let one = lexed_split ts h.0 h.1 h.3 lexed in
    let first = h.5 in
    let two = lexed_split h.1 first.0 first.1 first.3 one.1 in
    subst (IsStmt true) (sym first.5.1) (if_again h.2 first.2 (condition_read l h.0 h.2 one.0 h.4) (stmt_again l n true first.0 first.2 two.0 first.4))
stmt_again l (suc n) false ts s lexed (inr (inr (inr (inr h)))) = absurd h
