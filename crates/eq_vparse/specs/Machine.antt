-- Reading an expression turn by turn, with a stack of what waits for an operand.
use Rattle.std.specs.Prelude.{◌≡◌, ℕ, zero, suc, Bool, true, false, List, [], ◌∷◌, ◌++◌, length, drop, Option, Some, None}
use Rattle.std.specs.Option.{is_some}
use Rattle.eq_vlex.specs.declared.mark.Mark.{Mark}
use Rattle.eq_vlex.specs.declared.mark.Mark.TheVariants as mark
use Rattle.eq_vlex.specs.declared.token.TokenKind.{TokenKind}
use Rattle.eq_vlex.specs.declared.token.TokenKind.TheVariants as token
use Rattle.eq_vparse.specs.declared.tree.UnOp.{UnOp}
use Rattle.eq_vparse.specs.declared.tree.BinOp.{BinOp}
use Rattle.eq_vparse.specs.declared.tree.Expr.{Expr}
use Rattle.eq_vparse.specs.declared.tree.Expr.TheVariants.{Const, Net, Bit, Part}
use Rattle.eq_vparse.specs.declared.tree.Expr.TheViews.{Concat, Repeat}
use Rattle.eq_vparse.specs.declared.pending.Pending.{Pending}
use Rattle.eq_vparse.specs.declared.pending.Pending.TheVariants.{Group, Operator, Left, Choice, Otherwise, Parts, Repeated}
use Rattle.eq_vparse.specs.declared.machine.Waiting.{Waiting}
use Rattle.eq_vparse.specs.declared.machine.State.{State}
use Rattle.eq_vparse.specs.declared.machine.State.TheVariants.{Wanted, Found}
use Rattle.eq_vparse.specs.declared.machine.Step.{Step}
use Rattle.eq_vparse.specs.declared.machine.Step.TheVariants.{More, Whole}
use Rattle.eq_vparse.specs.declared.stop.Stop.TheVariants.{TooDeep}
use Rattle.eq_vparse.specs.Operators.{unary_of, binary_of, strength_of}
use Rattle.eq_vparse.specs.Pendings.{reduce}
use Rattle.eq_vparse.specs.Reading.{Reading, read, stopped, wrong, next, decimal_at}
use Rattle.eq_vparse.specs.Looping.{Turn, again, ended, loop}

-- so many counted marks may be taken, and this waits, the latest first
abbrev pub waiting : ℕ → List Pending → Waiting
waiting room stack = record { room = room; stack = stack }

abbrev pub wanted : ℕ → List Pending → Step
wanted room stack = More (Wanted (waiting room stack))

abbrev pub found : Expr → ℕ → List Pending → Step
found x room stack = More (Found x (waiting room stack))

-- ---- an operand, or what stands before one

-- behind `name[l:r`
abbrev pub range_end : List ℕ → ℕ → ℕ → List TokenKind → Reading Expr
range_end n l r (token.Mark mark.RightBracket ∷ ts) = read (Part n l r) ts
range_end n l r ts = wrong ts

-- behind `name[l:`
unfoldable pub range_at : List ℕ → ℕ → List TokenKind → Reading Expr
range_at n l ts = next (decimal_at ts) (range_end n l)

-- behind `name[d`
abbrev pub select_end : List ℕ → ℕ → List TokenKind → Reading Expr
select_end n d (token.Mark mark.RightBracket ∷ ts) = read (Bit n d) ts
select_end n d (token.Mark mark.Colon ∷ ts) = range_at n d ts
select_end n d ts = wrong ts

-- behind `name[`
unfoldable pub select_at : List ℕ → List TokenKind → Reading Expr
select_at n ts = next (decimal_at ts) (select_end n)

-- behind a name
unfoldable pub selected_at : List ℕ → List TokenKind → Reading Expr
selected_at n (token.Mark mark.LeftBracket ∷ ts) = select_at n ts
selected_at n ts = read (Net n) ts

-- a counted mark, and how many may still be taken
unfoldable pub counted_at : ℕ → List TokenKind → Reading ℕ
counted_at zero ts = stopped (TooDeep (length ts))
counted_at (suc room) ts = read room (drop 1 ts)

-- a counted mark, behind which this waits
unfoldable pub wait_at : Pending → Waiting → List TokenKind → Reading Step
wait_at p w ts = next (counted_at w.room ts) (λ room. read (wanted room (p ∷ w.stack)))

-- behind `{n`
unfoldable pub repeat_at : ℕ → Waiting → List TokenKind → Reading Step
repeat_at n w (token.Mark mark.LeftBrace ∷ ts) = wait_at (Repeated n []) w (token.Mark mark.LeftBrace ∷ ts)
repeat_at n w ts = wrong ts

-- behind `{`
unfoldable pub brace_at : Waiting → List TokenKind → Reading Step
brace_at w (token.Decimal n ∷ ts) = repeat_at n w ts
brace_at w ts = read (wanted w.room (Parts [] ∷ w.stack)) ts

unfoldable pub begin_unary : Option UnOp → Waiting → List TokenKind → Reading Step
begin_unary None w ts = wrong ts
begin_unary (Some o) w ts = wait_at (Operator o) w ts

-- at this mark
unfoldable pub begin_mark : Mark → Waiting → List TokenKind → Reading Step
begin_mark mark.LeftParen w ts = wait_at Group w ts
begin_mark mark.LeftBrace w ts = next (counted_at w.room ts) (λ room. brace_at (waiting room w.stack))
begin_mark m w ts = begin_unary (unary_of m) w ts

unfoldable pub begin_at : Waiting → List TokenKind → Reading Step
begin_at w (token.Word n ∷ ts) = next (selected_at n ts) (λ x. read (found x w.room w.stack))
begin_at w (token.Sized c ∷ ts) = read (found (Const c) w.room w.stack) ts
begin_at w (token.Mark m ∷ ts) = begin_mark m w (token.Mark m ∷ ts)
begin_at w ts = wrong ts

-- ---- what stands behind an operand

unfoldable pub group_at : Expr → Waiting → List TokenKind → Reading Step
group_at x w (token.Mark mark.RightParen ∷ ts) = read (found x w.room w.stack) ts
group_at x w ts = wrong ts

unfoldable pub otherwise_at : Expr → Expr → Waiting → List TokenKind → Reading Step
otherwise_at c x w (token.Mark mark.Colon ∷ ts) = read (wanted w.room (Otherwise c x ∷ w.stack)) ts
otherwise_at c x w ts = wrong ts

-- behind the last of these parts
unfoldable pub parts_at : List Expr → Waiting → List TokenKind → Reading Step
parts_at parts w (token.Mark mark.Comma ∷ ts) = read (wanted w.room (Parts parts ∷ w.stack)) ts
parts_at parts w (token.Mark mark.RightBrace ∷ ts) = read (found (Concat parts) w.room w.stack) ts
parts_at parts w ts = wrong ts

-- behind the first `}` of a repetition
unfoldable pub repeated_end : ℕ → List Expr → Waiting → List TokenKind → Reading Step
repeated_end n parts w (token.Mark mark.RightBrace ∷ ts) = read (found (Repeat n parts) w.room w.stack) ts
repeated_end n parts w ts = wrong ts

unfoldable pub repeated_at : ℕ → List Expr → Waiting → List TokenKind → Reading Step
repeated_at n parts w (token.Mark mark.Comma ∷ ts) = read (wanted w.room (Repeated n parts ∷ w.stack)) ts
repeated_at n parts w (token.Mark mark.RightBrace ∷ ts) = repeated_end n parts w ts
repeated_at n parts w ts = wrong ts

-- what is open is closed; where nothing waits, the expression ends
unfoldable pub close_at : Expr → ℕ → List Pending → List TokenKind → Reading Step
close_at x room [] ts = read (Whole x) ts
close_at x room (Group ∷ ps) ts = group_at x (waiting room ps) ts
close_at x room (Choice c ∷ ps) ts = otherwise_at c x (waiting room ps) ts
close_at x room (Parts parts ∷ ps) ts = parts_at (parts ++ x ∷ []) (waiting room ps) ts
close_at x room (Repeated n parts ∷ ps) ts = repeated_at n (parts ++ x ∷ []) (waiting room ps) ts
close_at x room (p ∷ ps) ts = wrong ts

unfoldable pub settle_at : Expr → Waiting → List TokenKind → Reading Step
settle_at x w ts = let r = reduce 1 x w.stack in close_at r.0 w.room r.1 ts

-- at `?`
unfoldable pub choose_at : Expr → Waiting → List TokenKind → Reading Step
choose_at x w ts = let r = reduce 2 x w.stack in wait_at (Choice r.0) (waiting w.room r.1) ts

-- at a mark that may be an operator
unfoldable pub operate_at : Option BinOp → Expr → Waiting → List TokenKind → Reading Step
operate_at None x w ts = settle_at x w ts
operate_at (Some o) x w ts = let r = reduce (strength_of o) x w.stack in wait_at (Left o r.0) (waiting w.room r.1) ts

unfoldable pub follow_at : Expr → Waiting → List TokenKind → Reading Step
follow_at x w (token.Mark mark.Question ∷ ts) = choose_at x w (token.Mark mark.Question ∷ ts)
follow_at x w (token.Mark m ∷ ts) = operate_at (binary_of m) x w (token.Mark m ∷ ts)
follow_at x w ts = settle_at x w ts

-- ---- the whole

unfoldable pub step_at : State → List TokenKind → Reading Step
step_at (Wanted w) ts = begin_at w ts
step_at (Found x w) ts = follow_at x w ts

abbrev pub turn_of : Reading Step → Turn State Expr
turn_of (read (More s) left) = again s left
turn_of (read (Whole x) left) = ended (read x left)
turn_of (stopped e) = ended (stopped e)

abbrev pub turn_at : State → List TokenKind → Turn State Expr
turn_at s ts = turn_of (step_at s ts)

-- an expression of at most so many counted marks
unfoldable pub expr_at : ℕ → List TokenKind → Reading Expr
expr_at room ts = loop turn_at (Wanted (waiting room [])) ts

-- a token with which an operand begins
abbrev pub begins_with : Mark → Bool
begins_with mark.LeftParen = true
begins_with mark.LeftBrace = true
begins_with m = is_some (unary_of m)

unfoldable pub begins_expr : List TokenKind → Bool
begins_expr (token.Word n ∷ ts) = true
begins_expr (token.Sized c ∷ ts) = true
begins_expr (token.Mark m ∷ ts) = begins_with m
begins_expr ts = false

-- a mark behind which no expression goes on
unfoldable pub ends_expr : List TokenKind → Bool
ends_expr (token.Mark mark.RightParen ∷ ts) = true
ends_expr (token.Mark mark.Semicolon ∷ ts) = true
ends_expr (token.Mark mark.Comma ∷ ts) = true
ends_expr (token.Mark mark.RightBrace ∷ ts) = true
ends_expr (token.Mark mark.Colon ∷ ts) = true
ends_expr ts = false

abbrev pub EndsExpr : List TokenKind → Type 0
EndsExpr ts = ends_expr ts ≡ true
