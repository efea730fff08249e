-- That no sentence goes on at a token depends on no token behind it, and on no room for counted marks.
use Rattle.std.proofs.Common.{◌≡◌, ℕ, zero, suc, ◌<◌, ◌≤◌, List, [], ◌∷◌, ◌++◌, length, Option, Some, None, refl, sym, ap, subst, ◌∙◌, inl, inr, arith}
use Rattle.std.specs.Prelude.{◌⊎◌}
use Rattle.std.proofs.Common.{length-append}
use Rattle.eq_vlex.specs.declared.mark.Mark.{Mark}
use Rattle.eq_vlex.specs.declared.mark.Mark.TheVariants as mark
use Rattle.eq_vlex.specs.declared.token.TokenKind.{TokenKind}
use Rattle.eq_vlex.specs.declared.token.TokenKind.TheVariants as token
use Rattle.eq_vparse.specs.declared.stop.Stop.TheVariants.{Syntax, TooDeep, Memory}
use Rattle.eq_vparse.specs.declared.tree.UnOp.{UnOp}
use Rattle.eq_vparse.specs.declared.tree.BinOp.{BinOp}
use Rattle.eq_vparse.specs.declared.tree.Expr.{Expr}
use Rattle.eq_vparse.specs.declared.tree.Expr.TheVariants.{Const, Net, Bit, Part}
use Rattle.eq_vparse.specs.declared.tree.Expr.TheViews.{Concat, Repeat}
use Rattle.eq_vparse.specs.declared.pending.Pending.{Pending}
use Rattle.eq_vparse.specs.declared.pending.Pending.TheVariants.{Group, Operator, Left, Choice, Otherwise, Parts, Repeated}
use Rattle.eq_vparse.specs.declared.machine.State.{State}
use Rattle.eq_vparse.specs.declared.machine.State.TheVariants.{Wanted, Found}
use Rattle.eq_vparse.specs.declared.machine.Step.{Step}
use Rattle.eq_vparse.specs.declared.machine.Step.TheVariants.{More, Whole}
use Rattle.eq_vparse.specs.Operators.{unary_of, binary_of, strength_of}
use Rattle.eq_vparse.specs.Pendings.{reduce}
use Rattle.eq_vparse.specs.Reading.{Reading, read, stopped, next, decimal_at}
use Rattle.eq_vparse.specs.Looping.{loop, turned, iterate}
use Rattle.eq_vparse.specs.Machine.{waiting, wanted, found, range_end, range_at, select_end, select_at, selected_at, counted_at, wait_at, repeat_at, brace_at, begin_unary, begin_mark, begin_at, group_at, otherwise_at, parts_at, repeated_end, repeated_at, close_at, settle_at, choose_at, operate_at, follow_at, step_at, turn_of, turn_at, expr_at}
use Rattle.eq_vparse.proofs.Progress.{Leaves, Moves, leaves-up, next-leaves, range_end-leaves, range-leaves, select_end-leaves, select-leaves, selected-leaves, step-moves, reads_by, step_shorter}

-- Two readings of lists with the same tokens up to t, behind which one has `rest` and the other `more`: the first takes t
-- or stops behind it, or the second says the same with as many tokens before t.
abbrev Local : {A : Type 0} → (A → A → Type 0) → TokenKind → List TokenKind → List TokenKind → Reading A → Reading A → Type 0
Local alike t rest more (read a left) other = (length left ≤ length rest) ⊎ ((us : List TokenKind) × (b : _) × (left ≡ us ++ t ∷ rest) × (other ≡ read b (us ++ t ∷ more)) × alike a b)
Local alike t rest more (stopped (Syntax n)) other = (n ≤ length rest) ⊎ ((us : List TokenKind) × (n ≡ length (us ++ t ∷ rest)) × (other ≡ stopped (Syntax (length (us ++ t ∷ more)))))
Local alike t rest more (stopped _) other = Unit {0}

module _ {A : Type 0} (alike : A → A → Type 0) (t : TokenKind) (rest more : List TokenKind) where
  late : (p other : Reading A) → Leaves (length rest) p → Local alike t rest more p other
  late (read a left) other h = inl h
  late (stopped (Syntax n)) other h = inl h
  late (stopped (TooDeep n)) other h = tt
  late (stopped Memory) other h = tt

  module _ {B : Type 0} (same : B → B → Type 0) where
    next_local : (p q : Reading B) (f g : B → List TokenKind → Reading A) → Local same t rest more p q → ((b : B) (left : List TokenKind) → length left ≤ length rest → Leaves (length rest) (f b left))
        → ((b c : B) (us : List TokenKind) → same b c → Local alike t rest more (f b (us ++ t ∷ rest)) (g c (us ++ t ∷ more))) → Local alike t rest more (next p f) (next q g)
    next_local (read b left) q f g h behind goes = elim h [
      | inl le ↦ late (f b left) (next q g) (behind b left le)
      | inr x ↦ (let P : List TokenKind → Type 0 = λ us. Local alike t rest more (f b us) (next q g) in
          let Q : Reading B → Type 0 = λ r. Local alike t rest more (f b (x.0 ++ t ∷ rest)) (next r g) in
          subst P (sym x.2) (subst Q (sym x.3) (goes b x.1 x.0 x.4)))
    ]
    next_local (stopped (Syntax n)) q f g h behind goes = elim h [
      | inl le ↦ inl le
      | inr x ↦ inr (x.0, x.1, ap (λ (r : Reading B). next r g) x.2)
    ]
    next_local (stopped (TooDeep n)) q f g h behind goes = tt
    next_local (stopped Memory) q f g h behind goes = tt

-- ---- operands

abbrev Equal : {A : Type 0} → A → A → Type 0
Equal a b = a ≡ b

decimal_local : (t : TokenKind) (rest more us : List TokenKind) → Local Equal t rest more (decimal_at (us ++ t ∷ rest)) (decimal_at (us ++ t ∷ more))
unfolding decimal_at
decimal_local (token.Decimal d) rest more [] = inl (omega arith)
decimal_local t rest more [] = inr ([], refl, refl)
decimal_local t rest more (token.Decimal d ∷ us) = inr (us, d, refl, refl, refl)
decimal_local t rest more (u ∷ us) = inr (u ∷ us, refl, refl)

range_end_local : (n : List ℕ) (l r : ℕ) (t : TokenKind) (rest more us : List TokenKind) → Local Equal t rest more (range_end n l r (us ++ t ∷ rest)) (range_end n l r (us ++ t ∷ more))
range_end_local n l r (token.Mark mark.RightBracket) rest more [] = inl (omega arith)
range_end_local n l r t rest more [] = inr ([], refl, refl)
range_end_local n l r t rest more (token.Mark mark.RightBracket ∷ us) = inr (us, Part n l r, refl, refl, refl)
range_end_local n l r t rest more (u ∷ us) = inr (u ∷ us, refl, refl)

range_local : (n : List ℕ) (l : ℕ) (t : TokenKind) (rest more us : List TokenKind) → Local Equal t rest more (range_at n l (us ++ t ∷ rest)) (range_at n l (us ++ t ∷ more))
unfolding range_at
range_local n l t rest more us =
    next_local Equal t rest more Equal (decimal_at (us ++ t ∷ rest)) (decimal_at (us ++ t ∷ more)) (range_end n l) (range_end n l) (decimal_local t rest more us)
    (λ r left le. leaves-up (length left) (length rest) (range_end n l r left) le (range_end-leaves n l r left))
    (λ r q vs e. (let P : ℕ → Type 0 = λ m. Local Equal t rest more (range_end n l r (vs ++ t ∷ rest)) (range_end n l m (vs ++ t ∷ more)) in subst P e (range_end_local n l r t rest more vs)))

select_end_local : (n : List ℕ) (d : ℕ) (t : TokenKind) (rest more us : List TokenKind) → Local Equal t rest more (select_end n d (us ++ t ∷ rest)) (select_end n d (us ++ t ∷ more))
select_end_local n d (token.Mark mark.RightBracket) rest more [] = inl (omega arith)
select_end_local n d (token.Mark mark.Colon) rest more [] = late Equal (token.Mark mark.Colon) rest more (range_at n d rest) (range_at n d more) (range-leaves n d rest)
select_end_local n d t rest more [] = inr ([], refl, refl)
select_end_local n d t rest more (token.Mark mark.RightBracket ∷ us) = inr (us, Bit n d, refl, refl, refl)
select_end_local n d t rest more (token.Mark mark.Colon ∷ us) = range_local n d t rest more us
select_end_local n d t rest more (u ∷ us) = inr (u ∷ us, refl, refl)

select_local : (n : List ℕ) (t : TokenKind) (rest more us : List TokenKind) → Local Equal t rest more (select_at n (us ++ t ∷ rest)) (select_at n (us ++ t ∷ more))
unfolding select_at
select_local n t rest more us =
    next_local Equal t rest more Equal (decimal_at (us ++ t ∷ rest)) (decimal_at (us ++ t ∷ more)) (select_end n) (select_end n) (decimal_local t rest more us)
    (λ d left le. leaves-up (length left) (length rest) (select_end n d left) le (select_end-leaves n d left))
    (λ d q vs e. (let P : ℕ → Type 0 = λ m. Local Equal t rest more (select_end n d (vs ++ t ∷ rest)) (select_end n m (vs ++ t ∷ more)) in subst P e (select_end_local n d t rest more vs)))

selected_local : (n : List ℕ) (t : TokenKind) (rest more us : List TokenKind) → Local Equal t rest more (selected_at n (us ++ t ∷ rest)) (selected_at n (us ++ t ∷ more))
unfolding selected_at
selected_local n (token.Mark mark.LeftBracket) rest more [] = late Equal (token.Mark mark.LeftBracket) rest more (select_at n rest) (select_at n more) (select-leaves n rest)
selected_local n t rest more [] = inr ([], Net n, refl, refl, refl)
selected_local n t rest more (token.Mark mark.LeftBracket ∷ us) = select_local n t rest more us
selected_local n t rest more (u ∷ us) = inr (u ∷ us, Net n, refl, refl, refl)

-- ---- steps

-- the same state with as much room or more
abbrev Roomier : State → State → Type 0
Roomier (Wanted w) (Wanted v) = (w.stack ≡ v.stack) × (w.room ≤ v.room)
Roomier (Found x w) (Found y v) = (x ≡ y) × (w.stack ≡ v.stack) × (w.room ≤ v.room)
Roomier _ _ = ⊥

abbrev Alike : Step → Step → Type 0
Alike (More s) (More r) = Roomier s r
Alike (Whole x) (Whole y) = Unit {0}
Alike _ _ = ⊥

abbrev Steps : TokenKind → List TokenKind → List TokenKind → Reading Step → Reading Step → Type 0
Steps t rest more p q = Local Alike t rest more p q

wait_leaves : (p : Pending) (n : ℕ) (ps : List Pending) (t : TokenKind) (ts : List TokenKind) → Leaves (length ts) (wait_at p (waiting n ps) (t ∷ ts))
unfolding wait_at counted_at
wait_leaves p zero ps t ts = tt
wait_leaves p (suc n) ps t ts = omega arith

repeat_leaves : (d n : ℕ) (ps : List Pending) (ts : List TokenKind) → Leaves (length ts) (repeat_at d (waiting n ps) ts)
unfolding repeat_at
repeat_leaves d n ps (token.Mark mark.LeftBrace ∷ ts) = leaves-up (length ts) (suc (length ts)) (wait_at (Repeated d []) (waiting n ps) (token.Mark mark.LeftBrace ∷ ts)) (omega arith) (wait_leaves (Repeated d []) n ps (token.Mark mark.LeftBrace) ts)
repeat_leaves d n ps _ = omega arith

brace_leaves : (n : ℕ) (ps : List Pending) (ts : List TokenKind) → Leaves (length ts) (brace_at (waiting n ps) ts)
unfolding brace_at
brace_leaves n ps (token.Decimal d ∷ ts) = leaves-up (length ts) (suc (length ts)) (repeat_at d (waiting n ps) ts) (omega arith) (repeat_leaves d n ps ts)
brace_leaves n ps ts = omega arith

wait_local : (p : Pending) (n m : ℕ) (ps : List Pending) (t : TokenKind) (rest more us : List TokenKind) → n ≤ m → Steps t rest more (wait_at p (waiting n ps) (us ++ t ∷ rest)) (wait_at p (waiting m ps) (us ++ t ∷ more))
unfolding wait_at counted_at
wait_local p zero m ps t rest more us le = tt
wait_local p (suc n) zero ps t rest more us le = absurd (omega arith)
wait_local p (suc n) (suc m) ps t rest more [] le = inl (omega arith)
wait_local p (suc n) (suc m) ps t rest more (u ∷ us) le = inr (us, wanted m (p ∷ ps), refl, refl, (refl, omega arith))

repeat_local : (d n m : ℕ) (ps : List Pending) (t : TokenKind) (rest more us : List TokenKind) → n ≤ m → Steps t rest more (repeat_at d (waiting n ps) (us ++ t ∷ rest)) (repeat_at d (waiting m ps) (us ++ t ∷ more))
unfolding repeat_at
repeat_local d n m ps (token.Mark mark.LeftBrace) rest more [] le = wait_local (Repeated d []) n m ps (token.Mark mark.LeftBrace) rest more [] le
repeat_local d n m ps t rest more [] le = inr ([], refl, refl)
repeat_local d n m ps t rest more (token.Mark mark.LeftBrace ∷ us) le = wait_local (Repeated d []) n m ps t rest more (token.Mark mark.LeftBrace ∷ us) le
repeat_local d n m ps t rest more (u ∷ us) le = inr (u ∷ us, refl, refl)

brace_local : (n m : ℕ) (ps : List Pending) (t : TokenKind) (rest more us : List TokenKind) → n ≤ m → Steps t rest more (brace_at (waiting n ps) (us ++ t ∷ rest)) (brace_at (waiting m ps) (us ++ t ∷ more))
unfolding brace_at
brace_local n m ps (token.Decimal d) rest more [] le = late Alike (token.Decimal d) rest more (repeat_at d (waiting n ps) rest) (repeat_at d (waiting m ps) more) (repeat_leaves d n ps rest)
brace_local n m ps t rest more [] le = inr ([], wanted m (Parts [] ∷ ps), refl, refl, (refl, le))
brace_local n m ps t rest more (token.Decimal d ∷ us) le = repeat_local d n m ps t rest more us le
brace_local n m ps t rest more (u ∷ us) le = inr (u ∷ us, wanted m (Parts [] ∷ ps), refl, refl, (refl, le))

unary_local : (o : Option UnOp) (n m : ℕ) (ps : List Pending) (t : TokenKind) (rest more us : List TokenKind) → n ≤ m → Steps t rest more (begin_unary o (waiting n ps) (us ++ t ∷ rest)) (begin_unary o (waiting m ps) (us ++ t ∷ more))
unfolding begin_unary
unary_local None n m ps t rest more us le = inr (us, refl, refl)
unary_local (Some o) n m ps t rest more us le = wait_local (Operator o) n m ps t rest more us le

opened_local : (n m : ℕ) (ps : List Pending) (t : TokenKind) (rest more us : List TokenKind) → n ≤ m
    → Steps t rest more (next (counted_at n (us ++ t ∷ rest)) (λ room. brace_at (waiting room ps))) (next (counted_at m (us ++ t ∷ more)) (λ room. brace_at (waiting room ps)))
unfolding counted_at
opened_local zero m ps t rest more us le = tt
opened_local (suc n) zero ps t rest more us le = absurd (omega arith)
opened_local (suc n) (suc m) ps t rest more [] le = late Alike t rest more (brace_at (waiting n ps) rest) (brace_at (waiting m ps) more) (brace_leaves n ps rest)
opened_local (suc n) (suc m) ps t rest more (u ∷ us) le = brace_local n m ps t rest more us (omega arith)

mark_local : (a : Mark) (n m : ℕ) (ps : List Pending) (t : TokenKind) (rest more us : List TokenKind) → n ≤ m → Steps t rest more (begin_mark a (waiting n ps) (us ++ t ∷ rest)) (begin_mark a (waiting m ps) (us ++ t ∷ more))
unfolding begin_mark
mark_local mark.LeftParen n m ps t rest more us le = wait_local Group n m ps t rest more us le
mark_local mark.LeftBrace n m ps t rest more us le = opened_local n m ps t rest more us le
mark_local a n m ps t rest more us le = unary_local (unary_of a) n m ps t rest more us le

name_leaves : (n : ℕ) (ps : List Pending) (w : List ℕ) (ts : List TokenKind) → Leaves (length ts) (next (selected_at w ts) (λ x. read (found x n ps)))
name_leaves n ps w ts = next-leaves (length ts) (selected_at w ts) (λ x. read (found x n ps)) (selected-leaves w ts) (λ x left le. le)

begin_local : (n m : ℕ) (ps : List Pending) (t : TokenKind) (rest more us : List TokenKind) → n ≤ m → Steps t rest more (begin_at (waiting n ps) (us ++ t ∷ rest)) (begin_at (waiting m ps) (us ++ t ∷ more))
unfolding begin_at
begin_local n m ps (token.Word w) rest more [] le = late Alike (token.Word w) rest more _ _ (name_leaves n ps w rest)
begin_local n m ps (token.Sized c) rest more [] le = inl (omega arith)
begin_local n m ps (token.Mark a) rest more [] le = mark_local a n m ps (token.Mark a) rest more [] le
begin_local n m ps t rest more [] le = inr ([], refl, refl)
begin_local n m ps t rest more (token.Word w ∷ us) le =
    next_local Alike t rest more Equal (selected_at w (us ++ t ∷ rest)) (selected_at w (us ++ t ∷ more)) (λ x. read (found x n ps)) (λ x. read (found x m ps)) (selected_local w t rest more us) (λ x left h. h)
    (λ x y vs e. inr (vs, found y m ps, refl, refl, (e, refl, le)))
begin_local n m ps t rest more (token.Sized c ∷ us) le = inr (us, found (Const c) m ps, refl, refl, (refl, refl, le))
begin_local n m ps t rest more (token.Mark a ∷ us) le = mark_local a n m ps t rest more (token.Mark a ∷ us) le
begin_local n m ps t rest more (u ∷ us) le = inr (u ∷ us, refl, refl)

group_local : (x : Expr) (n m : ℕ) (ps : List Pending) (t : TokenKind) (rest more us : List TokenKind) → n ≤ m → Steps t rest more (group_at x (waiting n ps) (us ++ t ∷ rest)) (group_at x (waiting m ps) (us ++ t ∷ more))
unfolding group_at
group_local x n m ps (token.Mark mark.RightParen) rest more [] le = inl (omega arith)
group_local x n m ps t rest more [] le = inr ([], refl, refl)
group_local x n m ps t rest more (token.Mark mark.RightParen ∷ us) le = inr (us, found x m ps, refl, refl, (refl, refl, le))
group_local x n m ps t rest more (u ∷ us) le = inr (u ∷ us, refl, refl)

otherwise_local : (c x : Expr) (n m : ℕ) (ps : List Pending) (t : TokenKind) (rest more us : List TokenKind) → n ≤ m → Steps t rest more (otherwise_at c x (waiting n ps) (us ++ t ∷ rest)) (otherwise_at c x (waiting m ps) (us ++ t ∷ more))
unfolding otherwise_at
otherwise_local c x n m ps (token.Mark mark.Colon) rest more [] le = inl (omega arith)
otherwise_local c x n m ps t rest more [] le = inr ([], refl, refl)
otherwise_local c x n m ps t rest more (token.Mark mark.Colon ∷ us) le = inr (us, wanted m (Otherwise c x ∷ ps), refl, refl, (refl, le))
otherwise_local c x n m ps t rest more (u ∷ us) le = inr (u ∷ us, refl, refl)

parts_local : (es : List Expr) (n m : ℕ) (ps : List Pending) (t : TokenKind) (rest more us : List TokenKind) → n ≤ m → Steps t rest more (parts_at es (waiting n ps) (us ++ t ∷ rest)) (parts_at es (waiting m ps) (us ++ t ∷ more))
unfolding parts_at
parts_local es n m ps (token.Mark mark.Comma) rest more [] le = inl (omega arith)
parts_local es n m ps (token.Mark mark.RightBrace) rest more [] le = inl (omega arith)
parts_local es n m ps t rest more [] le = inr ([], refl, refl)
parts_local es n m ps t rest more (token.Mark mark.Comma ∷ us) le = inr (us, wanted m (Parts es ∷ ps), refl, refl, (refl, le))
parts_local es n m ps t rest more (token.Mark mark.RightBrace ∷ us) le = inr (us, found (Concat es) m ps, refl, refl, (refl, refl, le))
parts_local es n m ps t rest more (u ∷ us) le = inr (u ∷ us, refl, refl)

end_leaves : (d : ℕ) (es : List Expr) (n : ℕ) (ps : List Pending) (ts : List TokenKind) → Leaves (length ts) (repeated_end d es (waiting n ps) ts)
unfolding repeated_end
end_leaves d es n ps (token.Mark mark.RightBrace ∷ ts) = omega arith
end_leaves d es n ps _ = omega arith

end_local : (d : ℕ) (es : List Expr) (n m : ℕ) (ps : List Pending) (t : TokenKind) (rest more us : List TokenKind) → n ≤ m → Steps t rest more (repeated_end d es (waiting n ps) (us ++ t ∷ rest)) (repeated_end d es (waiting m ps) (us ++ t ∷ more))
unfolding repeated_end
end_local d es n m ps (token.Mark mark.RightBrace) rest more [] le = inl (omega arith)
end_local d es n m ps t rest more [] le = inr ([], refl, refl)
end_local d es n m ps t rest more (token.Mark mark.RightBrace ∷ us) le = inr (us, found (Repeat d es) m ps, refl, refl, (refl, refl, le))
end_local d es n m ps t rest more (u ∷ us) le = inr (u ∷ us, refl, refl)

repeated_local : (d : ℕ) (es : List Expr) (n m : ℕ) (ps : List Pending) (t : TokenKind) (rest more us : List TokenKind) → n ≤ m → Steps t rest more (repeated_at d es (waiting n ps) (us ++ t ∷ rest)) (repeated_at d es (waiting m ps) (us ++ t ∷ more))
unfolding repeated_at
repeated_local d es n m ps (token.Mark mark.Comma) rest more [] le = inl (omega arith)
repeated_local d es n m ps (token.Mark mark.RightBrace) rest more [] le = late Alike (token.Mark mark.RightBrace) rest more (repeated_end d es (waiting n ps) rest) (repeated_end d es (waiting m ps) more) (end_leaves d es n ps rest)
repeated_local d es n m ps t rest more [] le = inr ([], refl, refl)
repeated_local d es n m ps t rest more (token.Mark mark.Comma ∷ us) le = inr (us, wanted m (Repeated d es ∷ ps), refl, refl, (refl, le))
repeated_local d es n m ps t rest more (token.Mark mark.RightBrace ∷ us) le = end_local d es n m ps t rest more us le
repeated_local d es n m ps t rest more (u ∷ us) le = inr (u ∷ us, refl, refl)

close_local : (x : Expr) (n m : ℕ) (ps : List Pending) (t : TokenKind) (rest more us : List TokenKind) → n ≤ m → Steps t rest more (close_at x n ps (us ++ t ∷ rest)) (close_at x m ps (us ++ t ∷ more))
unfolding close_at
close_local x n m [] t rest more us le = inr (us, Whole x, refl, refl, tt)
close_local x n m (Group ∷ ps) t rest more us le = group_local x n m ps t rest more us le
close_local x n m (Choice c ∷ ps) t rest more us le = otherwise_local c x n m ps t rest more us le
close_local x n m (Parts es ∷ ps) t rest more us le = parts_local (es ++ x ∷ []) n m ps t rest more us le
close_local x n m (Repeated d es ∷ ps) t rest more us le = repeated_local d (es ++ x ∷ []) n m ps t rest more us le
close_local x n m (p ∷ ps) t rest more us le = inr (us, refl, refl)

settle_local : (x : Expr) (n m : ℕ) (ps : List Pending) (t : TokenKind) (rest more us : List TokenKind) → n ≤ m → Steps t rest more (settle_at x (waiting n ps) (us ++ t ∷ rest)) (settle_at x (waiting m ps) (us ++ t ∷ more))
unfolding settle_at
settle_local x n m ps t rest more us le = let r = reduce 1 x ps in close_local r.0 n m r.1 t rest more us le

operate_local : (o : Option BinOp) (x : Expr) (n m : ℕ) (ps : List Pending) (t : TokenKind) (rest more us : List TokenKind) → n ≤ m → Steps t rest more (operate_at o x (waiting n ps) (us ++ t ∷ rest)) (operate_at o x (waiting m ps) (us ++ t ∷ more))
unfolding operate_at
operate_local None x n m ps t rest more us le = settle_local x n m ps t rest more us le
operate_local (Some o) x n m ps t rest more us le = let r = reduce (strength_of o) x ps in wait_local (Left o r.0) n m r.1 t rest more us le

choose_local : (x : Expr) (n m : ℕ) (ps : List Pending) (t : TokenKind) (rest more us : List TokenKind) → n ≤ m → Steps t rest more (choose_at x (waiting n ps) (us ++ t ∷ rest)) (choose_at x (waiting m ps) (us ++ t ∷ more))
unfolding choose_at
choose_local x n m ps t rest more us le = let r = reduce 2 x ps in wait_local (Choice r.0) n m r.1 t rest more us le

follow_local : (x : Expr) (n m : ℕ) (ps : List Pending) (t : TokenKind) (rest more us : List TokenKind) → n ≤ m → Steps t rest more (follow_at x (waiting n ps) (us ++ t ∷ rest)) (follow_at x (waiting m ps) (us ++ t ∷ more))
unfolding follow_at
follow_local x n m ps (token.Mark mark.Question) rest more [] le = choose_local x n m ps (token.Mark mark.Question) rest more [] le
follow_local x n m ps (token.Mark a) rest more [] le = operate_local (binary_of a) x n m ps (token.Mark a) rest more [] le
follow_local x n m ps t rest more [] le = settle_local x n m ps t rest more [] le
follow_local x n m ps t rest more (token.Mark mark.Question ∷ us) le = choose_local x n m ps t rest more (token.Mark mark.Question ∷ us) le
follow_local x n m ps t rest more (token.Mark a ∷ us) le = operate_local (binary_of a) x n m ps t rest more (token.Mark a ∷ us) le
follow_local x n m ps t rest more (u ∷ us) le = settle_local x n m ps t rest more (u ∷ us) le

step_local : (s r : State) (t : TokenKind) (rest more us : List TokenKind) → Roomier s r → Steps t rest more (step_at s (us ++ t ∷ rest)) (step_at r (us ++ t ∷ more))
unfolding step_at
step_local (Wanted w) (Wanted v) t rest more us h =
    let P : List Pending → Type 0 = λ ps. Steps t rest more (begin_at w (us ++ t ∷ rest)) (begin_at (waiting v.room ps) (us ++ t ∷ more)) in
    subst P h.0 (begin_local w.room v.room w.stack t rest more us h.1)
step_local (Found x w) (Found y v) t rest more us h =
    let P : List Pending → Type 0 = λ ps. Steps t rest more (follow_at x w (us ++ t ∷ rest)) (follow_at y (waiting v.room ps) (us ++ t ∷ more)) in
    let Q : Expr → Type 0 = λ z. Steps t rest more (follow_at x w (us ++ t ∷ rest)) (follow_at z (waiting v.room w.stack) (us ++ t ∷ more)) in
    subst P h.1 (subst Q h.0 (follow_local x w.room v.room w.stack t rest more us h.2))
step_local (Wanted w) (Found y v) t rest more us h = absurd h
step_local (Found x w) (Wanted v) t rest more us h = absurd h

-- ---- all steps

-- the place of a stop
place : Reading Expr → ℕ
place (stopped (Syntax n)) = n
place _ = 0

within_on : (n : ℕ) (ts : List TokenKind) (m : ℕ) (p : Reading Step) → Moves (length ts) p → turned (turn_of p) (iterate n turn_at) ≡ stopped (Syntax m)
    → ((s : State) (left : List TokenKind) → iterate n turn_at s left ≡ stopped (Syntax m) → m ≤ length left) → m ≤ length ts
unfolding place
within_on n ts m (read (More s) left) h is further = (let w = further s left is in omega arith)
within_on n ts m (read (Whole x) left) h is further = absurd cc
within_on n ts m (stopped (Syntax a)) h is further = (let e : a ≡ m = ap place is in omega arith)
within_on n ts m (stopped (TooDeep a)) h is further = absurd cc
within_on n ts m (stopped Memory) h is further = absurd cc

stop_within : (n : ℕ) (s : State) (ts : List TokenKind) (m : ℕ) → iterate n turn_at s ts ≡ stopped (Syntax m) → m ≤ length ts
unfolding place
stop_within zero s ts m is = (let e : length ts ≡ m = ap place is in omega arith)
stop_within (suc n) s ts m is = within_on n ts m (step_at s ts) (step-moves s ts) is (λ later left it. stop_within n later left m it)

module _ (t : TokenKind) (rest more : List TokenKind) where
  abbrev Stuck : Reading Expr → Type 0
  Stuck p = p ≡ stopped (Syntax (suc (length more)))

  more_on : (r : State) (ts us : List TokenKind) (s : State) (b : Step) → step_at r ts ≡ read b (us ++ t ∷ more) → Alike (More s) b → ((later : State) → Roomier s later → Stuck (loop turn_at later (us ++ t ∷ more))) → Stuck (loop turn_at r ts)
  more_on r ts us s (More later) e like further = reads_by r ts (read (More later) (us ++ t ∷ more)) e ∙ further later like
  more_on r ts us s (Whole x) e like further = absurd like

  lock_on : (n : ℕ) (r : State) (ts : List TokenKind) (p : Reading Step) → Steps t rest more p (step_at r ts) → turned (turn_of p) (iterate n turn_at) ≡ stopped (Syntax (suc (length rest)))
      → ((s later : State) (us : List TokenKind) → p ≡ read (More s) (us ++ t ∷ rest) → Roomier s later → iterate n turn_at s (us ++ t ∷ rest) ≡ stopped (Syntax (suc (length rest))) → Stuck (loop turn_at later (us ++ t ∷ more)))
      → Stuck (loop turn_at r ts)
  unfolding place
  lock_on n r ts (read (More s) left) near is further = elim near [
    | inl le ↦ (let w = stop_within n s left (suc (length rest)) is in absurd (omega arith))
    | inr x ↦ (let P : List TokenKind → Type 0 = λ us. iterate n turn_at s us ≡ stopped (Syntax (suc (length rest))) in
        more_on r ts x.0 s x.1 x.3 x.4 (λ later like. further s later x.0 (ap (λ (us : List TokenKind). read (More s) us) x.2) like (subst P x.2 is)))
  ]
  lock_on n r ts (read (Whole x) left) near is further = absurd cc
  lock_on n r ts (stopped (Syntax m)) near is further =
      let e : m ≡ suc (length rest) = ap place is in
      elim near [
        | inl le ↦ absurd (omega arith)
        | inr x ↦ (let a = length-append x.0 (t ∷ rest) in let b = length-append x.0 (t ∷ more) in let f : length (x.0 ++ t ∷ more) ≡ suc (length more) = (let g = x.1 in omega arith) in
            reads_by r ts (stopped (Syntax (length (x.0 ++ t ∷ more)))) x.2 ∙ ap (λ (i : ℕ). stopped (Syntax i)) f)
      ]
  lock_on n r ts (stopped (TooDeep m)) near is further = absurd cc
  lock_on n r ts (stopped Memory) near is further = absurd cc

  locks : (n : ℕ) (s r : State) (us : List TokenKind) → Roomier s r → length (us ++ t ∷ rest) < n → iterate n turn_at s (us ++ t ∷ rest) ≡ stopped (Syntax (suc (length rest))) → Stuck (loop turn_at r (us ++ t ∷ more))
  locks zero s r us like few is = absurd (omega arith)
  locks (suc n) s r us like few is =
      lock_on n r (us ++ t ∷ more) (step_at s (us ++ t ∷ rest)) (step_local s r t rest more us like) is
      (λ later after vs stepped near it. (let shorter = step_shorter s (us ++ t ∷ rest) later (vs ++ t ∷ rest) stepped in locks n later after vs near (omega arith) it))

-- with as much room or more, and whatever stands behind the token, reading stops at it
pub stops_alike : (k m : ℕ) (us : List TokenKind) (t : TokenKind) (rest more : List TokenKind) → k ≤ m → expr_at k (us ++ t ∷ rest) ≡ stopped (Syntax (suc (length rest)))
    → expr_at m (us ++ t ∷ more) ≡ stopped (Syntax (suc (length more)))
unfolding expr_at loop
stops_alike k m us t rest more le is = locks t rest more (suc (length (us ++ t ∷ rest))) (Wanted (waiting k [])) (Wanted (waiting m [])) us (refl, le) (omega arith) is
