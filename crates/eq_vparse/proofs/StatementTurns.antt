-- A statement that is read leaves fewer tokens, so the loop over a block ends.
use Rattle.std.proofs.Common.{◌≡◌, ◌≢◌, ℕ, zero, suc, ◌≤◌, Bool, true, false, cond, List, [], ◌∷◌, ◌++◌, length, drop, Some, None, refl, sym, ap, ◌∙◌, inl, inr, arith}
use Rattle.std.specs.Prelude.{◌-◌}
use Rattle.std.proofs.lemmas.Bool.{cases_Bool}
use Rattle.eq_vlex.specs.declared.key.Key.TheVariants.{Begin, End, If as IfWord, Else}
use Rattle.eq_vlex.specs.declared.mark.Mark.TheVariants.{Semicolon, LessEqual, LeftParen, RightParen}
use Rattle.eq_vlex.specs.declared.token.TokenKind.{TokenKind}
use Rattle.eq_vparse.specs.declared.tree.Stmt.{Stmt}
use Rattle.eq_vparse.specs.declared.tree.Stmt.TheVariants.{Empty, Set}
use Rattle.eq_vparse.specs.declared.tree.Stmt.TheViews.{Block}
use Rattle.eq_vparse.specs.declared.stop.Stop.{Stop}
use Rattle.eq_vparse.specs.Tests.{is_key}
use Rattle.eq_vparse.specs.Limits.{Limits}
use Rattle.eq_vparse.specs.Reading.{Reading, read, stopped, next, ◌>>=◌, done, takes_key, expect, expect_key}
use Rattle.eq_vparse.specs.Looping.{Turn, again, after, turned, turn_until, repeat_until}
use Rattle.eq_vparse.specs.Machine.{expr_at}
use Rattle.eq_vparse.specs.TargetReading.{target_at}
use Rattle.eq_vparse.specs.StatementReading.{begins_stmt, too_deep_at, set_at, condition_at, Inner, otherwise_at, branching, branches_at, more_at, body_at, block_at, stmt_with, stmt_at}
use Rattle.eq_vparse.proofs.Agreement.{never_read}
use Rattle.eq_vparse.proofs.Looping.{loop-is}
use Rattle.eq_vparse.proofs.TargetTurns.{taken}
use Rattle.eq_vparse.proofs.Shortening.{Shortens, Keeps, shorter_keeps, keeps_then, shortens_then, done_keeps, expect_shortens, expect_key_shortens, key_taken, expr_keeps, target_shortens, until_keeps, until_progresses}

set_shortens : (l : Limits) → Shortens (set_at l)
unfolding set_at
set_shortens l = shortens_then (target_at l.marks) _ (target_shortens l.marks)
    (λ t. keeps_then (expect LessEqual) _ (shorter_keeps (expect LessEqual) (expect_shortens LessEqual))
    (λ _. keeps_then (expr_at l.marks) _ (expr_keeps l.marks)
    (λ e. keeps_then (expect Semicolon) _ (shorter_keeps (expect Semicolon) (expect_shortens Semicolon)) (λ _. done_keeps (Set t e)))))

condition_shortens : (l : Limits) → Shortens (condition_at l)
unfolding condition_at
condition_shortens l = shortens_then (expect LeftParen) _ (expect_shortens LeftParen)
    (λ _. keeps_then (expr_at l.marks) _ (expr_keeps l.marks)
    (λ c. keeps_then (expect RightParen) _ (shorter_keeps (expect RightParen) (expect_shortens RightParen)) (λ _. done_keeps c)))

otherwise_keeps : (inner : Inner) → Keeps inner → Keeps (otherwise_at inner)
unfolding otherwise_at
otherwise_keeps inner keeps ts o r e = elim (key_taken Else ts (λ more. cond more (inner >>= λ t. done (Some t)) (done None)) o r e) [
  | inl y ↦
      let less : length r ≤ length (drop 1 ts) = keeps_then inner (λ t. done (Some t)) keeps (λ t. done_keeps (Some t)) (drop 1 ts) o r y.1 in
      let long : length ts ≡ suc (length (drop 1 ts)) = ap length y.0 in
      omega arith
  | inr n ↦ done_keeps None ts o r n.1
]

branches_keeps : (l : Limits) (inner : Inner) → Keeps inner → Keeps (branches_at l inner)
unfolding branches_at
branches_keeps l inner keeps = keeps_then (condition_at l) _ (shorter_keeps (condition_at l) (condition_shortens l))
    (λ c. keeps_then inner _ keeps (λ s. keeps_then (otherwise_at inner) _ (otherwise_keeps inner keeps) (λ t. done_keeps (branching c s t))))

more_shortens : (inner : Inner) → Shortens inner → (body : List Stmt) → Shortens (more_at inner body)
unfolding more_at
more_shortens inner shortens body = shortens_then inner _ shortens (λ s. done_keeps (body ++ s ∷ []))

block_keeps : (inner : Inner) → Shortens inner → Keeps (block_at inner)
unfolding block_at body_at
block_keeps inner shortens = keeps_then (body_at inner) _ (until_keeps (is_key End) (more_at inner) (λ body. shorter_keeps (more_at inner body) (more_shortens inner shortens body)) [])
    (λ body. keeps_then (expect_key End) _ (shorter_keeps (expect_key End) (expect_key_shortens End)) (λ _. done_keeps (Block body)))

with_shortens : (l : Limits) (inner : Inner) → Shortens inner → Shortens (stmt_with l inner)
unfolding stmt_with
with_shortens l inner shortens ts s r e =
    let third : Bool → List TokenKind → Reading Stmt = λ branches. cond branches (branches_at l inner) (set_at l) in
    let second : Bool → List TokenKind → Reading Stmt = λ block. cond block (block_at inner) (takes_key IfWord >>= third) in
    let first : Bool → List TokenKind → Reading Stmt = λ empty. cond empty (done Empty) (takes_key Begin >>= second) in
    elim (taken Semicolon ts first s r e) [
      | inl y ↦
          let less : length r ≤ length (drop 1 ts) = done_keeps Empty (drop 1 ts) s r y.1 in
          let long : length ts ≡ suc (length (drop 1 ts)) = ap length y.0 in
          omega arith
      | inr n ↦ elim (key_taken Begin ts second s r n.1) [
        | inl y ↦
            let less : length r ≤ length (drop 1 ts) = block_keeps inner shortens (drop 1 ts) s r y.1 in
            let long : length ts ≡ suc (length (drop 1 ts)) = ap length y.0 in
            omega arith
        | inr o ↦ elim (key_taken IfWord ts third s r o.1) [
          | inl y ↦
              let less : length r ≤ length (drop 1 ts) = branches_keeps l inner (shorter_keeps inner shortens) (drop 1 ts) s r y.1 in
              let long : length ts ≡ suc (length (drop 1 ts)) = ap length y.0 in
              omega arith
          | inr p ↦ set_shortens l ts s r p.1
        ]
      ]
    ]

pub stmt_shortens : (l : Limits) (n : ℕ) → Shortens (stmt_at l n)
unfolding stmt_at too_deep_at
stmt_shortens l zero ts s r e = elim (cases_Bool (begins_stmt ts)) [
  | inl y ↦ absurd (never_read _ s r (rw y at e))
  | inr n ↦ absurd (never_read _ s r (rw n at e))
]
stmt_shortens l (suc n) ts s r e = with_shortens l (stmt_at l n) (stmt_shortens l n) ts s r e

-- ---- the loop over a block

-- the rest of a block, behind these statements
abbrev pub rest_of : Limits → ℕ → List Stmt → List TokenKind → Reading (List Stmt)
rest_of l n body ts = repeat_until (is_key End) (more_at (stmt_at l n)) body ts

rest_first : (l : Limits) (n : ℕ) (body : List Stmt) (ts : List TokenKind) → rest_of l n body ts ≡ turned (turn_until (is_key End) (more_at (stmt_at l n)) body ts) (rest_of l n)
rest_first l n body ts = loop-is (turn_until (is_key End) (more_at (stmt_at l n))) (until_progresses (is_key End) (more_at (stmt_at l n)) (more_shortens (stmt_at l n) (stmt_shortens l n))) body ts

pub rest_end : (l : Limits) (n : ℕ) (body : List Stmt) (ts : List TokenKind) (total : Reading (List Stmt)) → is_key End ts ≡ true → rest_of l n body ts ≡ total → total ≡ read body ts
rest_end l n body ts total y so_far = sym so_far ∙ rest_first l n body ts ∙ (rw y refl)

one_more : (l : Limits) (n : ℕ) (body : List Stmt) (ts : List TokenKind) (o : Reading Stmt) → is_key End ts ≡ false → stmt_at l n ts ≡ o
    → turn_until (is_key End) (more_at (stmt_at l n)) body ts ≡ after (next o (λ s. done (body ++ s ∷ []))) again
unfolding more_at
one_more l n body ts o no_end is = rw (no_end, is) refl

pub rest_more : (l : Limits) (n : ℕ) (body : List Stmt) (ts : List TokenKind) (total : Reading (List Stmt)) (s : Stmt) (left : List TokenKind) → is_key End ts ≡ false → stmt_at l n ts ≡ read s left → rest_of l n body ts ≡ total
    → rest_of l n (body ++ s ∷ []) left ≡ total
rest_more l n body ts total s left no_end is so_far =
    ap (λ (x : Turn (List Stmt) (List Stmt)). turned x (rest_of l n)) (sym (one_more l n body ts (read s left) no_end is)) ∙ sym (rest_first l n body ts) ∙ so_far

pub rest_stops : (l : Limits) (n : ℕ) (body : List Stmt) (ts : List TokenKind) (total : Reading (List Stmt)) (e : Stop) → is_key End ts ≡ false → stmt_at l n ts ≡ stopped e → rest_of l n body ts ≡ total → total ≡ stopped e
rest_stops l n body ts total e no_end is so_far =
    sym so_far ∙ rest_first l n body ts ∙ ap (λ (x : Turn (List Stmt) (List Stmt)). turned x (rest_of l n)) (one_more l n body ts (stopped e) no_end is)

pub level_none : (l : Limits) (n : ℕ) (ts : List TokenKind) → n ≡ 0 → stmt_at l n ts ≡ too_deep_at ts
unfolding stmt_at
level_none l n ts e = rw e refl

pub level_less : (l : Limits) (n : ℕ) (ts : List TokenKind) → n ≢ 0 → stmt_at l n ts ≡ stmt_with l (stmt_at l (n - 1)) ts
unfolding stmt_at
level_less l zero ts h = absurd (h refl)
level_less l (suc n) ts h = let same : suc n - 1 ≡ n = omega arith in rw same refl
