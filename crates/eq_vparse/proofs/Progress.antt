-- Each step of reading an expression takes a token.
use Rattle.std.proofs.Common.{◌≡◌, ◌≢◌, ℕ, zero, suc, ◌<◌, ◌≤◌, List, [], ◌∷◌, ◌++◌, length, Option, Some, None, sym, subst, ap, ◌∙◌, arith}
use Rattle.eq_vlex.specs.declared.mark.Mark.{Mark}
use Rattle.eq_vlex.specs.declared.mark.Mark.TheVariants as mark
use Rattle.eq_vlex.specs.declared.token.TokenKind.{TokenKind}
use Rattle.eq_vlex.specs.declared.token.TokenKind.TheVariants as token
use Rattle.eq_vparse.specs.declared.tree.UnOp.{UnOp}
use Rattle.eq_vparse.specs.declared.tree.BinOp.{BinOp}
use Rattle.eq_vparse.specs.declared.tree.Expr.{Expr}
use Rattle.eq_vparse.specs.declared.pending.Pending.{Pending}
use Rattle.eq_vparse.specs.declared.pending.Pending.TheVariants.{Group, Operator, Left, Choice, Parts, Repeated}
use Rattle.eq_vparse.specs.declared.machine.Waiting.{Waiting}
use Rattle.eq_vparse.specs.declared.machine.State.{State}
use Rattle.eq_vparse.specs.declared.machine.State.TheVariants.{Wanted, Found}
use Rattle.eq_vparse.specs.declared.machine.Step.{Step}
use Rattle.eq_vparse.specs.declared.machine.Step.TheVariants.{More, Whole}
use Rattle.eq_vparse.specs.declared.stop.Stop.{Stop}
use Rattle.eq_vparse.specs.declared.stop.Stop.TheVariants as stop
use Rattle.eq_vparse.specs.Operators.{unary_of, binary_of, strength_of}
use Rattle.eq_vparse.specs.Pendings.{reduce}
use Rattle.eq_vparse.specs.Reading.{Reading, read, stopped, next, decimal_at}
use Rattle.eq_vparse.specs.Looping.{Turn, again, ended, turned, loop}
use Rattle.eq_vparse.specs.Machine.{waiting, wanted, found, range_end, range_at, select_end, select_at, selected_at, counted_at, wait_at, repeat_at, brace_at, begin_unary, begin_mark, begin_at, group_at, otherwise_at, parts_at, repeated_end, repeated_at, close_at, settle_at, choose_at, operate_at, follow_at, step_at, turn_of, turn_at}
use Rattle.eq_vparse.proofs.Looping.{Progresses, loop-is}

-- no more than so many tokens are left, also where no sentence goes on
abbrev pub Leaves : {A : Type 0} → ℕ → Reading A → Type 0
Leaves n (read a left) = length left ≤ n
Leaves n (stopped (stop.Syntax m)) = m ≤ n
Leaves n (stopped _) = Unit {0}

-- where the reading goes on, fewer tokens are left, and no more where it ends or where no sentence goes on
abbrev pub Moves : ℕ → Reading Step → Type 0
Moves n (read (More s) left) = length left < n
Moves n (read (Whole x) left) = length left ≤ n
Moves n (stopped (stop.Syntax m)) = m ≤ n
Moves n (stopped _) = Unit {0}

pub leaves-up : {A : Type 0} (m n : ℕ) (p : Reading A) → m ≤ n → Leaves m p → Leaves n p
leaves-up m n (read a left) le h = omega arith
leaves-up m n (stopped (stop.Syntax a)) le h = omega arith
leaves-up m n (stopped (stop.TooDeep a)) le h = tt
leaves-up m n (stopped stop.Memory) le h = tt

moves-up : (m n : ℕ) (p : Reading Step) → m ≤ n → Moves m p → Moves n p
moves-up m n (read (More s) left) le h = omega arith
moves-up m n (read (Whole x) left) le h = omega arith
moves-up m n (stopped (stop.Syntax a)) le h = omega arith
moves-up m n (stopped (stop.TooDeep a)) le h = tt
moves-up m n (stopped stop.Memory) le h = tt

pub next-leaves : {A B : Type 0} (n : ℕ) (p : Reading A) (f : A → List TokenKind → Reading B) → Leaves n p → ((a : A) (left : List TokenKind) → length left ≤ n → Leaves n (f a left)) → Leaves n (next p f)
next-leaves n (read a left) f h g = g a left h
next-leaves n (stopped (stop.Syntax a)) f h g = h
next-leaves n (stopped (stop.TooDeep a)) f h g = tt
next-leaves n (stopped stop.Memory) f h g = tt

pub decimal-leaves : (ts : List TokenKind) → Leaves (length ts) (decimal_at ts)
unfolding decimal_at
decimal-leaves (token.Decimal d ∷ ts) = omega arith
decimal-leaves _ = omega arith

pub range_end-leaves : (n : List ℕ) (l r : ℕ) (ts : List TokenKind) → Leaves (length ts) (range_end n l r ts)
range_end-leaves n l r (token.Mark mark.RightBracket ∷ ts) = omega arith
range_end-leaves n l r _ = omega arith

pub range-leaves : (n : List ℕ) (l : ℕ) (ts : List TokenKind) → Leaves (length ts) (range_at n l ts)
unfolding range_at
range-leaves n l ts = next-leaves (length ts) (decimal_at ts) (range_end n l) (decimal-leaves ts) (λ r left le. leaves-up (length left) (length ts) (range_end n l r left) le (range_end-leaves n l r left))

pub select_end-leaves : (n : List ℕ) (d : ℕ) (ts : List TokenKind) → Leaves (length ts) (select_end n d ts)
select_end-leaves n d (token.Mark mark.RightBracket ∷ ts) = omega arith
select_end-leaves n d (token.Mark mark.Colon ∷ ts) = leaves-up (length ts) (suc (length ts)) (range_at n d ts) (omega arith) (range-leaves n d ts)
select_end-leaves n d _ = omega arith

pub select-leaves : (n : List ℕ) (ts : List TokenKind) → Leaves (length ts) (select_at n ts)
unfolding select_at
select-leaves n ts = next-leaves (length ts) (decimal_at ts) (select_end n) (decimal-leaves ts) (λ d left le. leaves-up (length left) (length ts) (select_end n d left) le (select_end-leaves n d left))

pub selected-leaves : (n : List ℕ) (ts : List TokenKind) → Leaves (length ts) (selected_at n ts)
unfolding selected_at
selected-leaves n (token.Mark mark.LeftBracket ∷ ts) = leaves-up (length ts) (suc (length ts)) (select_at n ts) (omega arith) (select-leaves n ts)
selected-leaves n ts = omega arith

operand-moves : (n : ℕ) (w : Waiting) (p : Reading Expr) → Leaves n p → Moves (suc n) (next p (λ x. read (found x w.room w.stack)))
operand-moves n w (read x left) h = omega arith
operand-moves n w (stopped (stop.Syntax a)) h = omega arith
operand-moves n w (stopped (stop.TooDeep a)) h = tt
operand-moves n w (stopped stop.Memory) h = tt

pub wait-moves : (p : Pending) (w : Waiting) (t : TokenKind) (ts : List TokenKind) → Moves (suc (length ts)) (wait_at p w (t ∷ ts))
unfolding wait_at counted_at
wait-moves p w t ts = waits w.room
  where
    waits : (room : ℕ) → Moves (suc (length ts)) (next (counted_at room (t ∷ ts)) (λ room. read (wanted room (p ∷ w.stack))))
    waits zero = tt
    waits (suc room) = omega arith

repeat-moves : (n : ℕ) (w : Waiting) (ts : List TokenKind) → Moves (length ts) (repeat_at n w ts)
unfolding repeat_at
repeat-moves n w (token.Mark mark.LeftBrace ∷ ts) = wait-moves (Repeated n []) w (token.Mark mark.LeftBrace) ts
repeat-moves n w _ = omega arith

brace-moves : (w : Waiting) (ts : List TokenKind) → Moves (suc (length ts)) (brace_at w ts)
unfolding brace_at
brace-moves w (token.Decimal n ∷ ts) = moves-up (length ts) (suc (suc (length ts))) (repeat_at n w ts) (omega arith) (repeat-moves n w ts)
brace-moves w ts = omega arith

begin_unary-moves : (o : Option UnOp) (w : Waiting) (t : TokenKind) (ts : List TokenKind) → Moves (suc (length ts)) (begin_unary o w (t ∷ ts))
unfolding begin_unary
begin_unary-moves None w t ts = omega arith
begin_unary-moves (Some o) w t ts = wait-moves (Operator o) w t ts

begin_mark-moves : (m : Mark) (w : Waiting) (t : TokenKind) (ts : List TokenKind) → Moves (suc (length ts)) (begin_mark m w (t ∷ ts))
unfolding begin_mark counted_at
begin_mark-moves mark.LeftParen w t ts = wait-moves Group w t ts
begin_mark-moves mark.LeftBrace w t ts = braces w.room
  where
    braces : (room : ℕ) → Moves (suc (length ts)) (next (counted_at room (t ∷ ts)) (λ room. brace_at (waiting room w.stack)))
    braces zero = tt
    braces (suc room) = brace-moves (waiting room w.stack) ts
begin_mark-moves m w t ts = begin_unary-moves (unary_of m) w t ts

begin-moves : (w : Waiting) (ts : List TokenKind) → Moves (length ts) (begin_at w ts)
unfolding begin_at
begin-moves w (token.Word n ∷ ts) = operand-moves (length ts) w (selected_at n ts) (selected-leaves n ts)
begin-moves w (token.Sized c ∷ ts) = omega arith
begin-moves w (token.Mark m ∷ ts) = begin_mark-moves m w (token.Mark m) ts
begin-moves w _ = omega arith

group-moves : (x : Expr) (w : Waiting) (ts : List TokenKind) → Moves (length ts) (group_at x w ts)
unfolding group_at
group-moves x w (token.Mark mark.RightParen ∷ ts) = omega arith
group-moves x w _ = omega arith

otherwise-moves : (c x : Expr) (w : Waiting) (ts : List TokenKind) → Moves (length ts) (otherwise_at c x w ts)
unfolding otherwise_at
otherwise-moves c x w (token.Mark mark.Colon ∷ ts) = omega arith
otherwise-moves c x w _ = omega arith

parts-moves : (es : List Expr) (w : Waiting) (ts : List TokenKind) → Moves (length ts) (parts_at es w ts)
unfolding parts_at
parts-moves es w (token.Mark mark.Comma ∷ ts) = omega arith
parts-moves es w (token.Mark mark.RightBrace ∷ ts) = omega arith
parts-moves es w _ = omega arith

repeated_end-moves : (n : ℕ) (es : List Expr) (w : Waiting) (ts : List TokenKind) → Moves (length ts) (repeated_end n es w ts)
unfolding repeated_end
repeated_end-moves n es w (token.Mark mark.RightBrace ∷ ts) = omega arith
repeated_end-moves n es w _ = omega arith

repeated-moves : (n : ℕ) (es : List Expr) (w : Waiting) (ts : List TokenKind) → Moves (length ts) (repeated_at n es w ts)
unfolding repeated_at
repeated-moves n es w (token.Mark mark.Comma ∷ ts) = omega arith
repeated-moves n es w (token.Mark mark.RightBrace ∷ ts) = moves-up (length ts) (suc (length ts)) (repeated_end n es w ts) (omega arith) (repeated_end-moves n es w ts)
repeated-moves n es w _ = omega arith

close-moves : (x : Expr) (room : ℕ) (ps : List Pending) (ts : List TokenKind) → Moves (length ts) (close_at x room ps ts)
unfolding close_at
close-moves x room [] ts = omega arith
close-moves x room (Group ∷ ps) ts = group-moves x (waiting room ps) ts
close-moves x room (Choice c ∷ ps) ts = otherwise-moves c x (waiting room ps) ts
close-moves x room (Parts es ∷ ps) ts = parts-moves (es ++ x ∷ []) (waiting room ps) ts
close-moves x room (Repeated n es ∷ ps) ts = repeated-moves n (es ++ x ∷ []) (waiting room ps) ts
close-moves x room (p ∷ ps) ts = omega arith

settle-moves : (x : Expr) (w : Waiting) (ts : List TokenKind) → Moves (length ts) (settle_at x w ts)
unfolding settle_at
settle-moves x w ts = let r = reduce 1 x w.stack in close-moves r.0 w.room r.1 ts

operate-moves : (o : Option BinOp) (x : Expr) (w : Waiting) (t : TokenKind) (ts : List TokenKind) → Moves (suc (length ts)) (operate_at o x w (t ∷ ts))
unfolding operate_at
operate-moves None x w t ts = settle-moves x w (t ∷ ts)
operate-moves (Some o) x w t ts = let r = reduce (strength_of o) x w.stack in wait-moves (Left o r.0) (waiting w.room r.1) t ts

choose-moves : (x : Expr) (w : Waiting) (t : TokenKind) (ts : List TokenKind) → Moves (suc (length ts)) (choose_at x w (t ∷ ts))
unfolding choose_at
choose-moves x w t ts = let r = reduce 2 x w.stack in wait-moves (Choice r.0) (waiting w.room r.1) t ts

follow-moves : (x : Expr) (w : Waiting) (ts : List TokenKind) → Moves (length ts) (follow_at x w ts)
unfolding follow_at
follow-moves x w (token.Mark mark.Question ∷ ts) = choose-moves x w (token.Mark mark.Question) ts
follow-moves x w (token.Mark m ∷ ts) = operate-moves (binary_of m) x w (token.Mark m) ts
follow-moves x w ts = settle-moves x w ts

pub step-moves : (s : State) (ts : List TokenKind) → Moves (length ts) (step_at s ts)
unfolding step_at
step-moves (Wanted w) ts = begin-moves w ts
step-moves (Found x w) ts = follow-moves x w ts

pub step_leaves : (s : State) (ts : List TokenKind) (x : Expr) (left : List TokenKind) → step_at s ts ≡ read (Whole x) left → length left ≤ length ts
step_leaves s ts x left e = let P : Reading Step → Type 0 = λ p. Moves (length ts) p in subst P e (step-moves s ts)

-- a turn that goes on is a step that goes on
step_of : Turn State Expr → Reading Step
step_of (again s left) = read (More s) left
step_of (ended o) = stopped stop.Memory

pub again-is : (p : Reading Step) (s : State) (left : List TokenKind) → turn_of p ≡ again s left → p ≡ read (More s) left
unfolding step_of
again-is (read (More r) us) s left e = ap step_of e
again-is (read (Whole x) us) s left e = absurd cc
again-is (stopped x) s left e = absurd cc

pub step_shorter : (s : State) (ts : List TokenKind) (later : State) (left : List TokenKind) → step_at s ts ≡ read (More later) left → length left < length ts
step_shorter s ts later left e = let P : Reading Step → Type 0 = λ p. Moves (length ts) p in subst P e (step-moves s ts)

progresses : Progresses turn_at
progresses s ts later left e = step_shorter s ts later left (again-is (step_at s ts) later left e)

-- a reading is what its first step says
pub reads_by : (s : State) (ts : List TokenKind) (p : Reading Step) → step_at s ts ≡ p → loop turn_at s ts ≡ turned (turn_of p) (loop turn_at)
reads_by s ts p e = loop-is turn_at progresses s ts ∙ ap (λ (q : Reading Step). turned (turn_of q) (loop turn_at)) e

-- ---- the same for a loop that is so far what it was at first

pub goes_on : (s : State) (ts : List TokenKind) (total : Reading Expr) (more : Step) (later : State) (left : List TokenKind) → loop turn_at s ts ≡ total
    → step_at s ts ≡ read more left → more ≡ More later → loop turn_at later left ≡ total
goes_on s ts total more later left so_far e is = sym (reads_by s ts (read (More later) left) (e ∙ ap (λ (m : Step). read m left) is)) ∙ so_far

pub ends : (s : State) (ts : List TokenKind) (total : Reading Expr) (more : Step) (x : Expr) (left : List TokenKind) → loop turn_at s ts ≡ total
    → step_at s ts ≡ read more left → more ≡ Whole x → total ≡ read x left
ends s ts total more x left so_far e is = sym so_far ∙ reads_by s ts (read (Whole x) left) (e ∙ ap (λ (m : Step). read m left) is)

pub stops : (s : State) (ts : List TokenKind) (total : Reading Expr) (e : Stop) → loop turn_at s ts ≡ total → (e ≢ stop.Memory → step_at s ts ≡ stopped e) → e ≢ stop.Memory → total ≡ stopped e
stops s ts total e so_far h other = sym so_far ∙ reads_by s ts (stopped e) (h other)

pub shortens : (s : State) (ts : List TokenKind) (more : Step) (later : State) (left : List TokenKind) → step_at s ts ≡ read more left → more ≡ More later → length left < length ts
shortens s ts more later left e is = step_shorter s ts later left (e ∙ ap (λ (m : Step). read m left) is)
