-- A statement's sentence is read as its statement, and what is read is a statement's sentence.
use Rattle.std.proofs.Common.{◌≡◌, ℕ, zero, suc, ◌<◌, Bool, true, false, cond, List, [], ◌∷◌, ◌++◌, length, drop, Option, Some, None, refl, sym, ap, subst, ◌∙◌, inl, inr, append_assoc, arith, ◌⊎◌}
use Rattle.std.specs.Prelude.{not, ◌==◌}
use Rattle.std.proofs.lemmas.Bool.{cases_Bool}
use Rattle.std.proofs.lemmas.List.{append-nil}
use Rattle.eq_vlex.specs.declared.key.Key.{Key}
use Rattle.eq_vlex.specs.declared.key.Key.TheVariants.{Begin, End, If as IfWord, Else}
use Rattle.eq_vlex.specs.declared.mark.Mark.{Mark}
use Rattle.eq_vlex.specs.declared.mark.Mark.TheVariants.{Semicolon, LessEqual, LeftParen, RightParen, LeftBrace, LeftBracket}
use Rattle.eq_vlex.specs.declared.token.TokenKind.{TokenKind}
use Rattle.eq_vlex.specs.declared.token.TokenKind.TheVariants as token
use Rattle.eq_vparse.specs.declared.tree.Expr.{Expr}
use Rattle.eq_vparse.specs.declared.tree.Target.{Target}
use Rattle.eq_vparse.specs.declared.tree.Stmt.{Stmt}
use Rattle.eq_vparse.specs.declared.tree.Stmt.TheVariants.{Empty, Set}
use Rattle.eq_vparse.specs.declared.tree.Stmt.TheViews.{Block, If}
use Rattle.eq_vparse.specs.Tests.{is_mark, is_key, mark_number}
use Rattle.eq_vparse.specs.Limits.{Limits}
use Rattle.eq_vparse.specs.Reading.{Reading, read, ◌>>=◌, done, takes, takes_key, expect, expect_key}
use Rattle.eq_vparse.specs.Rules.{Rule, AreMany}
use Rattle.eq_vparse.specs.Statements.{expr_within, target_within, condition, stmt_up_to}
use Rattle.eq_vparse.specs.Machine.{expr_at, EndsExpr, ends_expr}
use Rattle.eq_vparse.specs.TargetReading.{begins_target, target_at}
use Rattle.eq_vparse.specs.StatementReading.{begins_stmt, too_deep_at, set_at, condition_at, Inner, otherwise_at, branching, branches_at, more_at, body_at, block_at, stmt_with, stmt_at}
use Rattle.eq_vparse.proofs.Standing.{key_here, same_mark, same_key}
use Rattle.eq_vparse.proofs.Agreement.{same_value, same_left, never_read, next_read, key_sound, put_all, SoundInto, CompleteInto}
use Rattle.eq_vparse.proofs.Lists.{until_sound, until_complete}
use Rattle.eq_vparse.proofs.Again.{expr_complete}
use Rattle.eq_vparse.proofs.Sound.{expr_sound}
use Rattle.eq_vparse.proofs.TargetTurns.{taken, expected}
use Rattle.eq_vparse.proofs.TargetSentences.{target_complete, target_sound, target_begins}
use Rattle.eq_vparse.proofs.Shortening.{key_taken}

-- ---- what the rules say, token by token

abbrev pub IsEmpty : List TokenKind → Stmt → Type 0
IsEmpty us s = (us ≡ token.Mark Semicolon ∷ []) × (s ≡ Empty)

abbrev pub IsSet : Limits → List TokenKind → Stmt → Type 0
IsSet l us s = (ts : List TokenKind) × (t : Target) × (es : List TokenKind) × (e : Expr) × (us ≡ ts ++ token.Mark LessEqual ∷ (es ++ token.Mark Semicolon ∷ []))
    × (target_within l).sentence ts t × (expr_within l).sentence es e × (s ≡ Set t e)

abbrev pub IsBlock : Rule Stmt → List TokenKind → Stmt → Type 0
IsBlock g us s = (bs : List TokenKind) × (body : List Stmt) × (us ≡ token.Key Begin ∷ (bs ++ token.Key End ∷ [])) × AreMany g bs body × (s ≡ Block body)

-- `if (cs) ws`, and what stands behind
abbrev if_tokens : List TokenKind → List TokenKind → List TokenKind
if_tokens cs rest = token.Key IfWord ∷ token.Mark LeftParen ∷ (cs ++ token.Mark RightParen ∷ rest)

abbrev pub IsIfElse : Limits → Rule Stmt → Rule Stmt → List TokenKind → Stmt → Type 0
IsIfElse l g h us s = (cs : List TokenKind) × (c : Expr) × (ws : List TokenKind) × (w : Stmt) × (vs : List TokenKind) × (v : Stmt) × (us ≡ if_tokens cs (ws ++ token.Key Else ∷ vs))
    × (expr_within l).sentence cs c × g.sentence ws w × h.sentence vs v × (s ≡ If c w (Some v))

abbrev pub IsIf : Limits → Rule Stmt → List TokenKind → Stmt → Type 0
IsIf l g us s = (cs : List TokenKind) × (c : Expr) × (ws : List TokenKind) × (w : Stmt) × (us ≡ if_tokens cs ws) × (expr_within l).sentence cs c × g.sentence ws w × (s ≡ If c w None)

abbrev pub Shaped : Limits → ℕ → Bool → List TokenKind → Stmt → Type 0
Shaped l n d us s = IsEmpty us s ⊎ IsSet l us s ⊎ IsBlock (stmt_up_to l n true) us s ⊎ IsIfElse l (stmt_up_to l n false) (stmt_up_to l n d) us s ⊎ ((d ≡ true) × IsIf l (stmt_up_to l n true) us s)

condition_is : (l : Limits) (us : List TokenKind) (c : Expr) → (condition l).sentence us c → (cs : List TokenKind) × (us ≡ token.Key IfWord ∷ token.Mark LeftParen ∷ (cs ++ token.Mark RightParen ∷ [])) × (expr_within l).sentence cs c
condition_is l us c s =
    let a = s.5 in
    let b = a.5 in
    let z = b.5 in
    (b.0, rw (s.3, s.4, a.3, a.4, b.3, z.3, z.4, z.5.0) refl, subst (λ (x : Expr). (expr_within l).sentence b.0 x) (sym z.5.1) b.4)

condition_of : (l : Limits) (cs : List TokenKind) (c : Expr) → (expr_within l).sentence cs c → (condition l).sentence (token.Key IfWord ∷ token.Mark LeftParen ∷ (cs ++ token.Mark RightParen ∷ [])) c
condition_of l cs c h =
    let p : List TokenKind = token.Mark LeftParen ∷ [] in
    let q : List TokenKind = token.Mark RightParen ∷ [] in
    (token.Key IfWord ∷ [], p ++ (cs ++ q), tt, refl, refl, (p, cs ++ q, tt, refl, refl, (cs, q, c, refl, h, (q, [], tt, refl, refl, (refl, refl)))))

shaped : (l : Limits) (n : ℕ) (d : Bool) (us : List TokenKind) (s : Stmt) → (stmt_up_to l (suc n) d).sentence us s → Shaped l n d us s
shaped l n d us s (inl h) = inl (rw (h.3, h.4, h.5.0) refl, h.5.1)
shaped l n d us s (inr (inl h)) =
    let a = h.5 in
    let b = a.5 in
    let c = b.5 in
    inr (inl (h.0, h.2, b.0, b.2, rw (h.3, a.3, a.4, b.3, c.3, c.4, c.5.0) refl, h.4, b.4, c.5.1))
shaped l n d us s (inr (inr (inl h))) =
    let a = h.5 in
    let b = a.5 in
    inr (inr (inl (a.0, a.2, rw (h.3, h.4, a.3, b.3, b.4, b.5.0) refl, a.4, b.5.1)))
shaped l n d us s (inr (inr (inr (inl h)))) =
    let c = condition_is l h.0 h.2 h.4 in
    let a = h.5 in
    let b = a.5 in
    let z = b.5 in
    let front : List TokenKind = token.Key IfWord ∷ token.Mark LeftParen ∷ c.0 in
    let back : List TokenKind = token.Key Else ∷ z.0 in
    let behind : h.1 ≡ a.0 ++ back = rw (a.3, b.3, b.4, z.3, z.5.0, append-nil) refl in
    let whole : us ≡ if_tokens c.0 (a.0 ++ back) = h.3 ∙ ap (λ (x : List TokenKind). x ++ h.1) c.1 ∙ append_assoc front (token.Mark RightParen ∷ []) h.1 ∙ ap (if_tokens c.0) behind in
    inr (inr (inr (inl (c.0, h.2, a.0, a.2, z.0, z.2, whole, c.2, a.4, z.4, z.5.1))))
shaped l n false us s (inr (inr (inr (inr h)))) = absurd h
shaped l n true us s (inr (inr (inr (inr h)))) =
    let c = condition_is l h.0 h.2 h.4 in
    let a = h.5 in
    let front : List TokenKind = token.Key IfWord ∷ token.Mark LeftParen ∷ c.0 in
    let behind : h.1 ≡ a.0 = rw (a.3, a.5.0, append-nil) refl in
    let whole : us ≡ if_tokens c.0 a.0 = h.3 ∙ ap (λ (x : List TokenKind). x ++ h.1) c.1 ∙ append_assoc front (token.Mark RightParen ∷ []) h.1 ∙ ap (if_tokens c.0) behind in
    inr (inr (inr (inr (refl, (c.0, h.2, a.0, a.2, whole, c.2, a.4, a.5.1)))))

shaped_again : (l : Limits) (n : ℕ) (d : Bool) (us : List TokenKind) (s : Stmt) → Shaped l n d us s → (stmt_up_to l (suc n) d).sentence us s
shaped_again l n d us s (inl h) = inl (token.Mark Semicolon ∷ [], [], tt, h.0, refl, (refl, h.1))
shaped_again l n d us s (inr (inl h)) =
    let m : List TokenKind = token.Mark LessEqual ∷ [] in
    let z : List TokenKind = token.Mark Semicolon ∷ [] in
    inr (inl (h.0, m ++ (h.2 ++ z), h.1, h.4, h.5, (m, h.2 ++ z, tt, refl, refl, (h.2, z, h.3, refl, h.6, (z, [], tt, refl, refl, (refl, h.7))))))
shaped_again l n d us s (inr (inr (inl h))) =
    let z : List TokenKind = token.Key End ∷ [] in
    inr (inr (inl (token.Key Begin ∷ [], h.0 ++ z, tt, h.2, refl, (h.0, z, h.1, refl, h.3, (z, [], tt, refl, refl, (refl, h.4))))))
shaped_again l n d us s (inr (inr (inr (inl h)))) =
    let front : List TokenKind = token.Key IfWord ∷ token.Mark LeftParen ∷ h.0 in
    let head : List TokenKind = token.Key IfWord ∷ token.Mark LeftParen ∷ (h.0 ++ token.Mark RightParen ∷ []) in
    let e : List TokenKind = token.Key Else ∷ [] in
    let whole : us ≡ head ++ (h.2 ++ (e ++ h.4)) = h.6 ∙ sym (append_assoc front (token.Mark RightParen ∷ []) (h.2 ++ (e ++ h.4))) in
    inr (inr (inr (inl (head, h.2 ++ (e ++ h.4), h.1, whole, condition_of l h.0 h.1 h.7, (h.2, e ++ h.4, h.3, refl, h.8, (e, h.4, tt, refl, refl, (h.4, [], h.5, sym (append-nil h.4), h.9, (refl, h.10))))))))
shaped_again l n false us s (inr (inr (inr (inr h)))) = absurd (cc)
shaped_again l n true us s (inr (inr (inr (inr p)))) =
    let h = p.1 in
    let front : List TokenKind = token.Key IfWord ∷ token.Mark LeftParen ∷ h.0 in
    let head : List TokenKind = token.Key IfWord ∷ token.Mark LeftParen ∷ (h.0 ++ token.Mark RightParen ∷ []) in
    let whole : us ≡ head ++ h.2 = h.4 ∙ sym (append_assoc front (token.Mark RightParen ∷ []) h.2) in
    inr (inr (inr (inr (head, h.2, h.1, whole, condition_of l h.0 h.1 h.5, (h.2, [], h.3, sym (append-nil h.2), h.6, (refl, h.7))))))

-- ---- how a statement begins

other_mark : (m : Mark) (ts : List TokenKind) → begins_target ts ≡ true → (mark_number LeftBrace == mark_number m) ≡ false → is_mark m ts ≡ false
unfolding begins_target is_mark
other_mark m [] b e = absurd cc
other_mark m (token.Word n ∷ ts) b e = refl
other_mark m (token.Mark k ∷ ts) b e = rw (same_mark k LeftBrace b) e
other_mark m (token.Key k ∷ ts) b e = absurd cc
other_mark m (token.Decimal d ∷ ts) b e = absurd cc
other_mark m (token.Sized c ∷ ts) b e = absurd cc

pub no_key : (k : Key) (ts : List TokenKind) → begins_target ts ≡ true → is_key k ts ≡ false
unfolding begins_target is_mark is_key
no_key k [] b = absurd cc
no_key k (token.Word n ∷ ts) b = refl
no_key k (token.Mark m ∷ ts) b = refl
no_key k (token.Key j ∷ ts) b = absurd cc
no_key k (token.Decimal d ∷ ts) b = absurd cc
no_key k (token.Sized c ∷ ts) b = absurd cc

-- what is neither `end` nor `else`
abbrev Starts : List TokenKind → Type 0
Starts ts = (begins_stmt ts ≡ true) × (is_key End ts ≡ false) × (is_key Else ts ≡ false)

target_starts : (ts : List TokenKind) → begins_target ts ≡ true → Starts ts
unfolding begins_stmt
target_starts ts b = (rw (other_mark Semicolon ts b refl, no_key Begin ts b, no_key IfWord ts b, b) refl, no_key End ts b, no_key Else ts b)

shape_starts : (l : Limits) (n : ℕ) (d : Bool) (us : List TokenKind) (s : Stmt) (r : List TokenKind) → Shaped l n d us s → Starts (us ++ r)
unfolding begins_stmt is_mark is_key
shape_starts l n d us s r (inl h) = rw h.0 (refl, refl, refl)
shape_starts l n d us s r (inr (inl h)) =
    let rest : List TokenKind = token.Mark LessEqual ∷ (h.2 ++ token.Mark Semicolon ∷ []) in
    let begins : begins_target (h.0 ++ (rest ++ r)) ≡ true = target_begins h.0 h.1 (rest ++ r) h.5.0 in
    let whole : h.0 ++ (rest ++ r) ≡ us ++ r = sym (append_assoc h.0 rest r) ∙ ap (λ (x : List TokenKind). x ++ r) (sym h.4) in
    subst Starts whole (target_starts (h.0 ++ (rest ++ r)) begins)
shape_starts l n d us s r (inr (inr (inl h))) = rw h.2 (refl, refl, refl)
shape_starts l n d us s r (inr (inr (inr (inl h)))) = rw h.6 (refl, refl, refl)
shape_starts l n d us s r (inr (inr (inr (inr p)))) = rw p.1.4 (refl, refl, refl)

stmt_starts : (l : Limits) (n : ℕ) (d : Bool) (us : List TokenKind) (s : Stmt) (r : List TokenKind) → (stmt_up_to l n d).sentence us s → Starts (us ++ r)
stmt_starts l zero d us s r h = absurd h
stmt_starts l (suc n) d us s r h = shape_starts l n d us s r (shaped l n d us s h)

-- a sentence begins with a token that begins a statement
pub stmt_begins : (l : Limits) (n : ℕ) (d : Bool) (us : List TokenKind) (s : Stmt) (r : List TokenKind) → (stmt_up_to l n d).sentence us s → begins_stmt (us ++ r) ≡ true
stmt_begins l n d us s r h = (let p = stmt_starts l n d us s r h in p.0)

none_begins : (us : List TokenKind) → begins_stmt (us ++ []) ≡ true → 0 < length us
unfolding begins_stmt begins_target is_mark is_key
none_begins [] e = absurd cc
none_begins (t ∷ us) e = omega arith

pub stmt_long : (l : Limits) (n : ℕ) (d : Bool) (us : List TokenKind) (s : Stmt) → (stmt_up_to l n d).sentence us s → 0 < length us
stmt_long l n d us s h = none_begins us (stmt_begins l n d us s [] h)

-- ---- a sentence is read as its statement

abbrev ReadsInner : Limits → ℕ → Inner → Type 0
ReadsInner l n inner = (d : Bool) (us : List TokenKind) (s : Stmt) (r : List TokenKind) → (stmt_up_to l n d).sentence us s → (d ≡ true → is_key Else r ≡ false) → inner (us ++ r) ≡ read s r

abbrev put : List Stmt → Stmt → List Stmt
put body s = body ++ s ∷ []

put_is : (body more : List Stmt) → put_all put body more ≡ body ++ more
put_is body [] = sym (append-nil body)
put_is body (s ∷ more) = put_is (body ++ s ∷ []) more ∙ append_assoc body (s ∷ []) more

empty_complete : (l : Limits) (inner : Inner) (us : List TokenKind) (s : Stmt) (r : List TokenKind) → IsEmpty us s → stmt_with l inner (us ++ r) ≡ read s r
unfolding stmt_with takes is_mark
empty_complete l inner us s r h = rw (h.0, h.1) refl

at_less : (ts : List TokenKind) → is_mark LeftBracket (token.Mark LessEqual ∷ ts) ≡ false
unfolding is_mark
at_less ts = refl

at_semicolon : (ts : List TokenKind) → EndsExpr (token.Mark Semicolon ∷ ts)
unfolding ends_expr
at_semicolon ts = refl

at_paren : (ts : List TokenKind) → EndsExpr (token.Mark RightParen ∷ ts)
unfolding ends_expr
at_paren ts = refl

with_set : (l : Limits) (inner : Inner) (ts : List TokenKind) → begins_target ts ≡ true → stmt_with l inner ts ≡ set_at l ts
unfolding stmt_with takes takes_key
with_set l inner ts b = rw (other_mark Semicolon ts b refl, no_key Begin ts b, no_key IfWord ts b) refl

with_block : (l : Limits) (inner : Inner) (ts : List TokenKind) → stmt_with l inner (token.Key Begin ∷ ts) ≡ block_at inner ts
unfolding stmt_with takes takes_key is_mark is_key
with_block l inner ts = refl

with_if : (l : Limits) (inner : Inner) (ts : List TokenKind) → stmt_with l inner (token.Key IfWord ∷ ts) ≡ branches_at l inner ts
unfolding stmt_with takes takes_key is_mark is_key
with_if l inner ts = refl

sets : (l : Limits) (t : Target) (e : Expr) (ts m r : List TokenKind) → target_at l.marks ts ≡ read t (token.Mark LessEqual ∷ m) → expr_at l.marks m ≡ read e (token.Mark Semicolon ∷ r) → set_at l ts ≡ read (Set t e) r
unfolding set_at expect is_mark
sets l t e ts m r a b = rw (a, b) refl

set_complete : (l : Limits) (inner : Inner) (us : List TokenKind) (s : Stmt) (r : List TokenKind) → IsSet l us s → stmt_with l inner (us ++ r) ≡ read s r
set_complete l inner us s r h =
    let ts = h.0 in
    let t = h.1 in
    let es = h.2 in
    let e = h.3 in
    let semicolon : List TokenKind = token.Mark Semicolon ∷ [] in
    let more : List TokenKind = es ++ token.Mark Semicolon ∷ r in
    let rest : List TokenKind = token.Mark LessEqual ∷ more in
    let whole : us ++ r ≡ ts ++ rest = ap (λ (x : List TokenKind). x ++ r) h.4 ∙ append_assoc ts (token.Mark LessEqual ∷ (es ++ semicolon)) r ∙ ap (λ (x : List TokenKind). ts ++ token.Mark LessEqual ∷ x) (append_assoc es semicolon r) in
    let begins : begins_target (ts ++ rest) ≡ true = target_begins ts t rest h.5.0 in
    let first : target_at l.marks (ts ++ rest) ≡ read t rest = target_complete l.marks ts t rest h.5 (at_less more) in
    let then : expr_at l.marks more ≡ read e (token.Mark Semicolon ∷ r) = expr_complete l.marks es e (token.Mark Semicolon ∷ r) h.6 (at_semicolon r) in
    ap (stmt_with l inner) whole ∙ with_set l inner (ts ++ rest) begins ∙ sets l t e (ts ++ rest) more r first then ∙ ap (λ (x : Stmt). read x r) (sym h.7)

more_complete : (l : Limits) (n : ℕ) (inner : Inner) → ReadsInner l n inner → CompleteInto (stmt_up_to l n true) put (more_at inner) (λ r. is_key Else r ≡ false)
unfolding more_at
more_complete l n inner reads body us s r h free = rw (reads true us s r h (λ _. free)) refl

many_no_else : (l : Limits) (n : ℕ) (vs : List TokenKind) (list : List Stmt) (r : List TokenKind) → AreMany (stmt_up_to l n true) vs list → is_key Else r ≡ false → is_key Else (vs ++ r) ≡ false
many_no_else l n vs [] r h free = rw h free
many_no_else l n vs (s ∷ list) r h free =
    let whole : vs ++ r ≡ h.0 ++ (h.1 ++ r) = ap (λ (x : List TokenKind). x ++ r) h.2 ∙ append_assoc h.0 h.1 r in
    let starts = stmt_starts l n true h.0 s (h.1 ++ r) h.3 in
    rw whole starts.2

end_no_else : (ts : List TokenKind) → is_key End ts ≡ true → is_key Else ts ≡ false
unfolding is_key
end_no_else [] e = absurd cc
end_no_else (token.Key k ∷ ts) e = rw (same_key k End e) refl
end_no_else (token.Word w ∷ ts) e = refl
end_no_else (token.Mark m ∷ ts) e = refl
end_no_else (token.Decimal d ∷ ts) e = refl
end_no_else (token.Sized c ∷ ts) e = refl

body_complete : (l : Limits) (n : ℕ) (inner : Inner) → ReadsInner l n inner → (bs : List TokenKind) (body : List Stmt) (r : List TokenKind) → AreMany (stmt_up_to l n true) bs body → is_key End r ≡ true
    → body_at inner (bs ++ r) ≡ read body r
unfolding body_at
body_complete l n inner reads bs body r h at_end =
    until_complete (stmt_up_to l n true) put (more_at inner) (is_key End) (λ x. is_key Else x ≡ false) (λ x. is_key End x ≡ true) (more_complete l n inner reads)
    (λ us s x k. (let p = stmt_starts l n true us s x k in p.1)) (λ us s k. stmt_long l n true us s k)
    (λ vs list x k f. many_no_else l n vs list x k (end_no_else x f)) (λ x f. f) [] bs body r h at_end
    ∙ ap (λ (x : List Stmt). read x r) (put_is [] body)

blocks : (inner : Inner) (ts r : List TokenKind) (body : List Stmt) → body_at inner ts ≡ read body (token.Key End ∷ r) → block_at inner ts ≡ read (Block body) r
unfolding block_at expect_key is_key
blocks inner ts r body e = rw e refl

block_complete : (l : Limits) (n : ℕ) (inner : Inner) → ReadsInner l n inner → (us : List TokenKind) (s : Stmt) (r : List TokenKind) → IsBlock (stmt_up_to l n true) us s → stmt_with l inner (us ++ r) ≡ read s r
block_complete l n inner reads us s r h =
    let end : List TokenKind = token.Key End ∷ [] in
    let whole : us ++ r ≡ token.Key Begin ∷ (h.0 ++ token.Key End ∷ r) = ap (λ (x : List TokenKind). x ++ r) h.2 ∙ ap (λ (x : List TokenKind). token.Key Begin ∷ x) (append_assoc h.0 end r) in
    ap (stmt_with l inner) whole
    ∙ with_block l inner (h.0 ++ token.Key End ∷ r)
    ∙ blocks inner (h.0 ++ token.Key End ∷ r) r h.1 (body_complete l n inner reads h.0 h.1 (token.Key End ∷ r) h.3 (key_here End r))
    ∙ ap (λ (x : Stmt). read x r) (sym h.4)

conditions : (l : Limits) (c : Expr) (cs r : List TokenKind) → expr_at l.marks (cs ++ token.Mark RightParen ∷ r) ≡ read c (token.Mark RightParen ∷ r) → condition_at l (token.Mark LeftParen ∷ (cs ++ token.Mark RightParen ∷ r)) ≡ read c r
unfolding condition_at expect is_mark
conditions l c cs r e = rw e refl

branch_read : (l : Limits) (inner : Inner) (ts m k r : List TokenKind) (c : Expr) (w : Stmt) (o : Option Stmt) → condition_at l ts ≡ read c m → inner m ≡ read w k → otherwise_at inner k ≡ read o r
    → branches_at l inner ts ≡ read (branching c w o) r
unfolding branches_at
branch_read l inner ts m k r c w o a b d = rw (a, b, d) refl

else_read : (inner : Inner) (ts r : List TokenKind) (v : Stmt) → inner ts ≡ read v r → otherwise_at inner (token.Key Else ∷ ts) ≡ read (Some v) r
unfolding otherwise_at takes_key is_key
else_read inner ts r v e = rw e refl

else_none : (inner : Inner) (ts : List TokenKind) → is_key Else ts ≡ false → otherwise_at inner ts ≡ read None ts
unfolding otherwise_at takes_key
else_none inner ts e = rw e refl

if_complete : (l : Limits) (inner : Inner) (cs ws k r : List TokenKind) (c : Expr) (w : Stmt) (o : Option Stmt) → (expr_within l).sentence cs c → inner (ws ++ k) ≡ read w k → otherwise_at inner k ≡ read o r
    → stmt_with l inner (if_tokens cs (ws ++ k)) ≡ read (branching c w o) r
if_complete l inner cs ws k r c w o h a b =
    let rest : List TokenKind = ws ++ k in
    with_if l inner (token.Mark LeftParen ∷ (cs ++ token.Mark RightParen ∷ rest))
    ∙ branch_read l inner (token.Mark LeftParen ∷ (cs ++ token.Mark RightParen ∷ rest)) rest k r c w o
    (conditions l c cs rest (expr_complete l.marks cs c (token.Mark RightParen ∷ rest) h (at_paren rest))) a b

with_complete : (l : Limits) (n : ℕ) (inner : Inner) → ReadsInner l n inner → (d : Bool) (us : List TokenKind) (s : Stmt) (r : List TokenKind) → Shaped l n d us s → (d ≡ true → is_key Else r ≡ false)
    → stmt_with l inner (us ++ r) ≡ read s r
with_complete l n inner reads d us s r (inl h) free = empty_complete l inner us s r h
with_complete l n inner reads d us s r (inr (inl h)) free = set_complete l inner us s r h
with_complete l n inner reads d us s r (inr (inr (inl h))) free = block_complete l n inner reads us s r h
with_complete l n inner reads d us s r (inr (inr (inr (inl h)))) free =
    let cs = h.0 in
    let c = h.1 in
    let ws = h.2 in
    let w = h.3 in
    let vs = h.4 in
    let v = h.5 in
    let k : List TokenKind = token.Key Else ∷ (vs ++ r) in
    let front : List TokenKind = token.Key IfWord ∷ token.Mark LeftParen ∷ cs in
    let whole : us ++ r ≡ if_tokens cs (ws ++ k) =
    ap (λ (x : List TokenKind). x ++ r) h.6 ∙ append_assoc front (token.Mark RightParen ∷ (ws ++ token.Key Else ∷ vs)) r
    ∙ ap (if_tokens cs) (append_assoc ws (token.Key Else ∷ vs) r) in
    let never : false ≡ true → is_key Else k ≡ false = λ e. absurd (cc) in
    ap (stmt_with l inner) whole
    ∙ if_complete l inner cs ws k r c w (Some v) h.7 (reads false ws w k h.8 never) (else_read inner (vs ++ r) r v (reads d vs v r h.9 free))
    ∙ ap (λ (x : Stmt). read x r) (sym h.10)
with_complete l n inner reads d us s r (inr (inr (inr (inr p)))) free =
    let h = p.1 in
    let cs = h.0 in
    let ws = h.2 in
    let front : List TokenKind = token.Key IfWord ∷ token.Mark LeftParen ∷ cs in
    let whole : us ++ r ≡ if_tokens cs (ws ++ r) = ap (λ (x : List TokenKind). x ++ r) h.4 ∙ append_assoc front (token.Mark RightParen ∷ ws) r in
    ap (stmt_with l inner) whole
    ∙ if_complete l inner cs ws r r h.1 h.3 None h.5 (reads true ws h.3 r h.6 (λ _. free p.0)) (else_none inner r (free p.0))
    ∙ ap (λ (x : Stmt). read x r) (sym h.7)

pub stmt_complete : (l : Limits) (n : ℕ) (d : Bool) (us : List TokenKind) (s : Stmt) (r : List TokenKind) → (stmt_up_to l n d).sentence us s → (d ≡ true → is_key Else r ≡ false) → stmt_at l n (us ++ r) ≡ read s r
unfolding stmt_at
stmt_complete l zero d us s r h free = absurd h
stmt_complete l (suc n) d us s r h free = with_complete l n (stmt_at l n) (stmt_complete l n) d us s r (shaped l n d us s h) free

-- ---- what is read is a sentence

abbrev lifted_shape : Limits → ℕ → Type 0
lifted_shape l n = (us : List TokenKind) (s : Stmt) → (stmt_up_to l n false).sentence us s → (stmt_up_to l n true).sentence us s

lift_shape : (l : Limits) (n : ℕ) → lifted_shape l n → (us : List TokenKind) (s : Stmt) → Shaped l n false us s → Shaped l n true us s
lift_shape l n lift us s (inl h) = inl h
lift_shape l n lift us s (inr (inl h)) = inr (inl h)
lift_shape l n lift us s (inr (inr (inl h))) = inr (inr (inl h))
lift_shape l n lift us s (inr (inr (inr (inl h)))) = inr (inr (inr (inl (h.0, h.1, h.2, h.3, h.4, h.5, h.6, h.7, h.8, lift h.4 h.5 h.9, h.10))))
lift_shape l n lift us s (inr (inr (inr (inr p)))) = absurd (cc)

-- a sentence that isn't dangling may stand where one may dangle
lift_stmt : (l : Limits) (n : ℕ) → lifted_shape l n
lift_stmt l zero us s h = absurd h
lift_stmt l (suc n) us s h = shaped_again l n true us s (lift_shape l n (lift_stmt l n) us s (shaped l n false us s h))

pub lift_any : (l : Limits) (n : ℕ) (d : Bool) (us : List TokenKind) (s : Stmt) → (stmt_up_to l n d).sentence us s → (stmt_up_to l n true).sentence us s
lift_any l n true us s h = h
lift_any l n false us s h = lift_stmt l n us s h

-- what is read is a sentence, which dangles only where no `else` stands behind it
abbrev FindsInner : Limits → ℕ → Inner → Type 0
FindsInner l n inner = (ts : List TokenKind) (s : Stmt) (r : List TokenKind) → inner ts ≡ read s r → (us : List TokenKind) × (ts ≡ us ++ r) × (stmt_up_to l n (not (is_key Else r))).sentence us s

abbrev Finds : Limits → ℕ → Bool → List TokenKind → Stmt → List TokenKind → Type 0
Finds l n d ts s r = (us : List TokenKind) × (ts ≡ us ++ r) × Shaped l n d us s

set_sound : (l : Limits) (n : ℕ) (d : Bool) (ts : List TokenKind) (s : Stmt) (r : List TokenKind) → set_at l ts ≡ read s r → Finds l n d ts s r
unfolding set_at
set_sound l n d ts s r e =
    let a = next_read (target_at l.marks ts) (λ t. expect LessEqual >>= λ _. expr_at l.marks >>= λ x. expect Semicolon >>= λ _. done (Set t x)) s r e in
    let t = a.0 in
    let b = expected LessEqual a.1 (λ _. expr_at l.marks >>= λ x. expect Semicolon >>= λ _. done (Set t x)) s r a.3 in
    let c = next_read (expr_at l.marks b.0) (λ x. expect Semicolon >>= λ _. done (Set t x)) s r b.2 in
    let x = c.0 in
    let z = expected Semicolon c.1 (λ _. done (Set t x)) s r c.3 in
    let first = target_sound l.marks ts t a.1 a.2 in
    let then = expr_sound l.marks b.0 x c.1 c.2 in
    let end : List TokenKind = token.Mark Semicolon ∷ [] in
    let left : c.1 ≡ end ++ r = z.1 ∙ ap (λ (y : List TokenKind). token.Mark Semicolon ∷ y) (same_left (Set t x) s z.0 r z.2) in
    let more : b.0 ≡ (then.0 ++ end) ++ r = then.1 ∙ ap (λ (y : List TokenKind). then.0 ++ y) left ∙ sym (append_assoc then.0 end r) in
    let back : List TokenKind = token.Mark LessEqual ∷ (then.0 ++ end) in
    let whole : ts ≡ (first.0 ++ back) ++ r = first.1 ∙ ap (λ (y : List TokenKind). first.0 ++ y) (b.1 ∙ ap (λ (y : List TokenKind). token.Mark LessEqual ∷ y) more) ∙ sym (append_assoc first.0 back r) in
    (first.0 ++ back, whole, inr (inl (first.0, t, then.0, x, refl, first.2, then.2, sym (same_value (Set t x) s z.0 r z.2))))

more_sound : (l : Limits) (n : ℕ) (inner : Inner) → FindsInner l n inner → SoundInto (stmt_up_to l n true) put (more_at inner)
unfolding more_at
more_sound l n inner finds body ts body' r e =
    let a = next_read (inner ts) (λ s. done (body ++ s ∷ [])) body' r e in
    let h = finds ts a.0 a.1 a.2 in
    let left : a.1 ≡ r = same_left (body ++ a.0 ∷ []) body' a.1 r a.3 in
    (h.0, a.0, h.1 ∙ ap (λ (x : List TokenKind). h.0 ++ x) left, lift_any l n (not (is_key Else a.1)) h.0 a.0 h.2, sym (same_value (body ++ a.0 ∷ []) body' a.1 r a.3))

block_sound : (l : Limits) (n : ℕ) (inner : Inner) → FindsInner l n inner → (ts : List TokenKind) (s : Stmt) (r : List TokenKind) → block_at inner ts ≡ read s r
    → (bs : List TokenKind) × (body : List Stmt) × (ts ≡ bs ++ token.Key End ∷ r) × AreMany (stmt_up_to l n true) bs body × (s ≡ Block body)
unfolding block_at body_at
block_sound l n inner finds ts s r e =
    let a = next_read (body_at inner ts) (λ body. expect_key End >>= λ _. done (Block body)) s r e in
    let h = until_sound (stmt_up_to l n true) put (more_at inner) (is_key End) (more_sound l n inner finds) [] ts a.0 a.1 a.2 in
    let b = next_read (expect_key End a.1) (λ _. done (Block a.0)) s r a.3 in
    let k = key_sound End a.1 b.0 b.1 b.2 in
    let left : a.1 ≡ token.Key End ∷ r = k.1 ∙ ap (λ (x : List TokenKind). x ++ b.1) k.2 ∙ ap (λ (x : List TokenKind). token.Key End ∷ x) (same_left (Block a.0) s b.1 r b.3) in
    let list : a.0 ≡ h.1 = h.4 ∙ put_is [] h.1 in
    (h.0, h.1, h.2 ∙ ap (λ (x : List TokenKind). h.0 ++ x) left, h.3, sym (same_value (Block a.0) s b.1 r b.3) ∙ ap Block list)

condition_sound : (l : Limits) (ts : List TokenKind) (c : Expr) (r : List TokenKind) → condition_at l ts ≡ read c r
    → (cs : List TokenKind) × (ts ≡ token.Mark LeftParen ∷ (cs ++ token.Mark RightParen ∷ r)) × (expr_within l).sentence cs c
unfolding condition_at
condition_sound l ts c r e =
    let a = expected LeftParen ts (λ _. expr_at l.marks >>= λ x. expect RightParen >>= λ _. done x) c r e in
    let b = next_read (expr_at l.marks a.0) (λ x. expect RightParen >>= λ _. done x) c r a.2 in
    let z = expected RightParen b.1 (λ _. done b.0) c r b.3 in
    let h = expr_sound l.marks a.0 b.0 b.1 b.2 in
    let left : b.1 ≡ token.Mark RightParen ∷ r = z.1 ∙ ap (λ (y : List TokenKind). token.Mark RightParen ∷ y) (same_left b.0 c z.0 r z.2) in
    let whole : ts ≡ token.Mark LeftParen ∷ (h.0 ++ token.Mark RightParen ∷ r) = a.1 ∙ ap (λ (y : List TokenKind). token.Mark LeftParen ∷ y) (h.1 ∙ ap (λ (y : List TokenKind). h.0 ++ y) left) in
    (h.0, whole, subst (λ (x : Expr). (expr_within l).sentence h.0 x) (same_value b.0 c z.0 r z.2) h.2)

-- what stands behind the statement of an `if`
abbrev Others : Limits → ℕ → List TokenKind → Option Stmt → List TokenKind → Type 0
Others l n ts o r = ((vs : List TokenKind) × (v : Stmt) × (ts ≡ token.Key Else ∷ (vs ++ r)) × (stmt_up_to l n (not (is_key Else r))).sentence vs v × (o ≡ Some v)) ⊎ ((is_key Else ts ≡ false) × (ts ≡ r) × (o ≡ None))

otherwise_sound : (l : Limits) (n : ℕ) (inner : Inner) → FindsInner l n inner → (ts : List TokenKind) (o : Option Stmt) (r : List TokenKind) → otherwise_at inner ts ≡ read o r → Others l n ts o r
unfolding otherwise_at
otherwise_sound l n inner finds ts o r e = elim (key_taken Else ts (λ more. cond more (inner >>= λ t. done (Some t)) (done None)) o r e) [
  | inl y ↦
      let a = next_read (inner (drop 1 ts)) (λ t. done (Some t)) o r y.1 in
      let left : a.1 ≡ r = same_left (Some a.0) o a.1 r a.3 in
      let h = finds (drop 1 ts) a.0 r (a.2 ∙ ap (λ (x : List TokenKind). read a.0 x) left) in
      inl (h.0, a.0, y.0 ∙ ap (λ (x : List TokenKind). token.Key Else ∷ x) h.1, h.2, sym (same_value (Some a.0) o a.1 r a.3))
  | inr m ↦ inr (m.0, same_left None o ts r m.1, sym (same_value None o ts r m.1))
]

branches_sound : (l : Limits) (n : ℕ) (inner : Inner) → FindsInner l n inner → (ts : List TokenKind) (s : Stmt) (r : List TokenKind) → branches_at l inner ts ≡ read s r
    → Finds l n (not (is_key Else r)) (token.Key IfWord ∷ ts) s r
unfolding branches_at
branches_sound l n inner finds ts s r e =
    let a = next_read (condition_at l ts) (λ c. inner >>= λ w. otherwise_at inner >>= λ o. done (branching c w o)) s r e in
    let c = a.0 in
    let b = next_read (inner a.1) (λ w. otherwise_at inner >>= λ o. done (branching c w o)) s r a.3 in
    let w = b.0 in
    let z = next_read (otherwise_at inner b.1) (λ o. done (branching c w o)) s r b.3 in
    let left : z.1 ≡ r = same_left (branching c w z.0) s z.1 r z.3 in
    let value : branching c w z.0 ≡ s = same_value (branching c w z.0) s z.1 r z.3 in
    let first = condition_sound l ts c a.1 a.2 in
    let then = finds a.1 w b.1 b.2 in
    let front : List TokenKind = token.Key IfWord ∷ token.Mark LeftParen ∷ first.0 in
    elim (otherwise_sound l n inner finds b.1 z.0 r (z.2 ∙ ap (λ (x : List TokenKind). read z.0 x) left)) [
      | inl o ↦
          let stands : is_key Else b.1 ≡ true = subst (λ (x : List TokenKind). is_key Else x ≡ true) (sym o.2) (key_here Else (o.0 ++ r)) in
          let inside : (stmt_up_to l n false).sentence then.0 w = subst (λ (x : Bool). (stmt_up_to l n (not x)).sentence then.0 w) stands then.2 in
          let back : List TokenKind = then.0 ++ token.Key Else ∷ o.0 in
          let behind : a.1 ≡ back ++ r = then.1 ∙ ap (λ (x : List TokenKind). then.0 ++ x) o.2 ∙ sym (append_assoc then.0 (token.Key Else ∷ o.0) r) in
          let whole : token.Key IfWord ∷ ts ≡ if_tokens first.0 back ++ r =
          ap (λ (x : List TokenKind). token.Key IfWord ∷ x) first.1 ∙ ap (if_tokens first.0) behind ∙ sym (append_assoc front (token.Mark RightParen ∷ back) r) in
          (if_tokens first.0 back, whole, inr (inr (inr (inl (first.0, c, then.0, w, o.0, o.1, refl, first.2, inside, o.3, sym value ∙ ap (branching c w) o.4)))))
      | inr o ↦
          let inside : (stmt_up_to l n true).sentence then.0 w = subst (λ (x : Bool). (stmt_up_to l n (not x)).sentence then.0 w) o.0 then.2 in
          let free : not (is_key Else r) ≡ true = ap not (ap (is_key Else) (sym o.1) ∙ o.0) in
          let behind : a.1 ≡ then.0 ++ r = then.1 ∙ ap (λ (x : List TokenKind). then.0 ++ x) o.1 in
          let whole : token.Key IfWord ∷ ts ≡ if_tokens first.0 then.0 ++ r =
          ap (λ (x : List TokenKind). token.Key IfWord ∷ x) first.1 ∙ ap (if_tokens first.0) behind ∙ sym (append_assoc front (token.Mark RightParen ∷ then.0) r) in
          (if_tokens first.0 then.0, whole, inr (inr (inr (inr (free, (first.0, c, then.0, w, refl, first.2, inside, sym value ∙ ap (branching c w) o.2))))))
    ]

with_sound : (l : Limits) (n : ℕ) (inner : Inner) → FindsInner l n inner → (ts : List TokenKind) (s : Stmt) (r : List TokenKind) → stmt_with l inner ts ≡ read s r → Finds l n (not (is_key Else r)) ts s r
unfolding stmt_with
with_sound l n inner finds ts s r e =
    let third : Bool → List TokenKind → Reading Stmt = λ branches. cond branches (branches_at l inner) (set_at l) in
    let second : Bool → List TokenKind → Reading Stmt = λ block. cond block (block_at inner) (takes_key IfWord >>= third) in
    let first : Bool → List TokenKind → Reading Stmt = λ empty. cond empty (done Empty) (takes_key Begin >>= second) in
    elim (taken Semicolon ts first s r e) [
      | inl y ↦ (token.Mark Semicolon ∷ [], y.0 ∙ ap (λ (x : List TokenKind). token.Mark Semicolon ∷ x) (same_left Empty s (drop 1 ts) r y.1), inl (refl, sym (same_value Empty s (drop 1 ts) r y.1)))
      | inr m ↦ elim (key_taken Begin ts second s r m.1) [
        | inl y ↦
            let h = block_sound l n inner finds (drop 1 ts) s r y.1 in
            let end : List TokenKind = token.Key End ∷ [] in
            let whole : ts ≡ token.Key Begin ∷ ((h.0 ++ end) ++ r) = y.0 ∙ ap (λ (x : List TokenKind). token.Key Begin ∷ x) (h.2 ∙ sym (append_assoc h.0 end r)) in
            (token.Key Begin ∷ (h.0 ++ end), whole, inr (inr (inl (h.0, h.1, refl, h.3, h.4))))
        | inr o ↦ elim (key_taken IfWord ts third s r o.1) [
          | inl y ↦ let h = branches_sound l n inner finds (drop 1 ts) s r y.1 in (h.0, y.0 ∙ h.1, h.2)
          | inr p ↦ set_sound l n (not (is_key Else r)) ts s r p.1
        ]
      ]
    ]

pub stmt_sound : (l : Limits) (n : ℕ) (ts : List TokenKind) (s : Stmt) (r : List TokenKind) → stmt_at l n ts ≡ read s r → (us : List TokenKind) × (ts ≡ us ++ r) × (stmt_up_to l n (not (is_key Else r))).sentence us s
unfolding stmt_at too_deep_at
stmt_sound l zero ts s r e = elim (cases_Bool (begins_stmt ts)) [
  | inl y ↦ absurd (never_read _ s r (rw y at e))
  | inr m ↦ absurd (never_read _ s r (rw m at e))
]
stmt_sound l (suc n) ts s r e = (let h = with_sound l n (stmt_at l n) (stmt_sound l n) ts s r e in (h.0, h.1, shaped_again l n (not (is_key Else r)) h.0 s h.2))
