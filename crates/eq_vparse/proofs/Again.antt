-- The tokens of a phrase are read as its tree, where nothing behind them goes on.
use Rattle.std.proofs.Common.{◌≡◌, ℕ, suc, ◌+◌, ◌-◌, ◌<◌, ◌≤◌, Bool, true, false, cond, leb, List, [], ◌∷◌, ◌++◌, Option, Some, None, refl, sym, ap, subst, ◌∙◌, append_assoc, arith}
use Rattle.std.specs.Prelude.{◌||◌}
use Rattle.std.specs.Option.{is_some}
use Rattle.std.proofs.lemmas.Bool.{le-leb}
use Rattle.std.proofs.lemmas.Bool.Decides.{nat_tests}
use Rattle.std.proofs.lemmas.List.Sums.{sum_by-cons, sum_by-append}
use Rattle.eq_vlex.specs.declared.mark.Mark.{Mark}
use Rattle.eq_vlex.specs.declared.mark.Mark.TheVariants as mark
use Rattle.eq_vlex.specs.declared.token.Constant.{Constant}
use Rattle.eq_vlex.specs.declared.token.TokenKind.{TokenKind}
use Rattle.eq_vlex.specs.declared.token.TokenKind.TheVariants as token
use Rattle.eq_vparse.specs.declared.tree.UnOp.{UnOp}
use Rattle.eq_vparse.specs.declared.tree.BinOp.{BinOp}
use Rattle.eq_vparse.specs.declared.tree.BinOp.TheVariants as bin
use Rattle.eq_vparse.specs.declared.tree.Expr.{Expr}
use Rattle.eq_vparse.specs.declared.tree.Expr.TheVariants.{Const, Net, Bit, Part}
use Rattle.eq_vparse.specs.declared.tree.Expr.TheViews.{Concat, Repeat}
use Rattle.eq_vparse.specs.declared.pending.Pending.{Pending}
use Rattle.eq_vparse.specs.declared.pending.Pending.TheVariants.{Group, Operator, Left, Choice, Otherwise, Parts, Repeated}
use Rattle.eq_vparse.specs.declared.machine.Waiting.{Waiting}
use Rattle.eq_vparse.specs.declared.machine.State.{State}
use Rattle.eq_vparse.specs.declared.machine.State.TheVariants.{Wanted, Found}
use Rattle.eq_vparse.specs.declared.machine.Step.TheVariants.{More, Whole}
use Rattle.eq_vparse.specs.Operators.{unary_of, binary_of, strength_of}
use Rattle.eq_vparse.specs.Phrases.{Phrase, const, net, bit, part, grouped, concat, repeat, unary, binary, cond as cond_phrase, Phrases, last, before, tokens_of, all_tokens_of, strength, IsGrouped, AreGrouped, tree_of, trees_of, expr, is_counted, is_counted_mark, counted_marks}
use Rattle.eq_vparse.specs.Rules.{limited}
use Rattle.eq_vparse.specs.Pendings.{binding, applied, reduce}
use Rattle.eq_vparse.specs.Reading.{Reading, read, stopped, next, decimal_at}
use Rattle.eq_vparse.specs.Looping.{loop}
use Rattle.eq_vparse.specs.Machine.{waiting, wanted, found, range_at, select_at, selected_at, counted_at, wait_at, repeat_at, brace_at, begin_unary, begin_mark, begin_at, group_at, otherwise_at, parts_at, repeated_end, repeated_at, close_at, settle_at, choose_at, operate_at, follow_at, step_at, turn_at, expr_at, ends_expr, EndsExpr}
use Rattle.eq_vparse.proofs.Progress.{reads_by}

-- the reading from a state in which an operand is wanted, and from one in which one was found
abbrev pub from_wanted : ℕ → List Pending → List TokenKind → Reading Expr
from_wanted n ps ts = loop turn_at (Wanted (waiting n ps)) ts

abbrev pub from_found : Expr → ℕ → List Pending → List TokenKind → Reading Expr
from_found x n ps ts = loop turn_at (Found x (waiting n ps)) ts

pub goes : (s : State) (ts : List TokenKind) (later : State) (left : List TokenKind) → step_at s ts ≡ read (More later) left → loop turn_at s ts ≡ loop turn_at later left
goes s ts later left e = reads_by s ts (read (More later) left) e

-- ---- strengths

pub least : (o : BinOp) → 2 ≤ strength_of o
least bin.LogOr = omega arith
least bin.LogAnd = omega arith
least bin.Or = omega arith
least bin.Xor = omega arith
least bin.Xnor = omega arith
least bin.And = omega arith
least bin.Eq = omega arith
least bin.Ne = omega arith
least bin.Lt = omega arith
least bin.Le = omega arith
least bin.Gt = omega arith
least bin.Ge = omega arith
least bin.Shl = omega arith
least bin.Shr = omega arith
least bin.Add = omega arith
least bin.Sub = omega arith

pub most : (o : BinOp) → strength_of o ≤ 10
most bin.LogOr = omega arith
most bin.LogAnd = omega arith
most bin.Or = omega arith
most bin.Xor = omega arith
most bin.Xnor = omega arith
most bin.And = omega arith
most bin.Eq = omega arith
most bin.Ne = omega arith
most bin.Lt = omega arith
most bin.Le = omega arith
most bin.Gt = omega arith
most bin.Ge = omega arith
most bin.Shl = omega arith
most bin.Shr = omega arith
most bin.Add = omega arith
most bin.Sub = omega arith

strong : (p : Phrase) → 1 ≤ strength p
strong (binary m o p q) = (let l = least o in omega arith)
strong (cond_phrase c p q) = omega arith
strong _ = omega arith

-- what waits may be given an operand that binds so strongly
abbrev pub Room : List Pending → ℕ → Type 0
Room (Operator o ∷ ps) k = 11 ≤ k
Room (Left o a ∷ ps) k = strength_of o < k
Room _ k = Unit {0}

pub room_up : (ps : List Pending) (j k : ℕ) → j ≤ k → Room ps j → Room ps k
room_up (Operator o ∷ ps) j k le h = omega arith
room_up (Left o a ∷ ps) j k le h = omega arith
room_up _ j k le h = tt

-- what waits binds less strongly
abbrev pub Low : ℕ → List Pending → Type 0
Low level [] = Unit {0}
Low level (p ∷ ps) = binding p < level

low : (ps : List Pending) (k level : ℕ) → k ≤ level → 2 ≤ level → k ≤ 10 → Room ps k → Low level ps
low [] k level le two ten h = tt
low (Group ∷ ps) k level le two ten h = omega arith
low (Operator o ∷ ps) k level le two ten h = absurd (omega arith)
low (Left o a ∷ ps) k level le two ten h = omega arith
low (Choice c ∷ ps) k level le two ten h = omega arith
low (Otherwise c a ∷ ps) k level le two ten h = omega arith
low (Parts es ∷ ps) k level le two ten h = omega arith
low (Repeated n es ∷ ps) k level le two ten h = omega arith

pub leb-false : (a b : ℕ) → b < a → leb a b ≡ false
leb-false a b h = grind (arith, nat_tests)

stays : (level : ℕ) (x : Expr) (ps : List Pending) → Low level ps → reduce level x ps ≡ (x, ps)
stays level x [] h = refl
stays level x (p ∷ ps) h = rw (leb-false level (binding p) h) refl

-- no operator that binds more strongly follows, and nothing that belongs to a name
abbrev Weak : ℕ → Option BinOp → Type 0
Weak k None = Unit {0}
Weak k (Some o) = strength_of o ≤ k

abbrev Quiet : ℕ → List TokenKind → Type 0
Quiet k (token.Mark mark.Question ∷ ts) = 2 ≤ k
Quiet k (token.Mark mark.LeftBracket ∷ ts) = ⊥
Quiet k (token.Mark m ∷ ts) = Weak k (binary_of m)
Quiet k _ = Unit {0}

weak_up : (j k : ℕ) (o : Option BinOp) → j ≤ k → Weak j o → Weak k o
weak_up j k None le h = tt
weak_up j k (Some o) le h = omega arith

quiet_up : (j k : ℕ) (ts : List TokenKind) → j ≤ k → Quiet j ts → Quiet k ts
quiet_up j k (token.Mark mark.Question ∷ ts) le h = omega arith
quiet_up j k (token.Mark mark.LeftBracket ∷ ts) le h = absurd h
quiet_up j k (token.Mark m ∷ ts) le h = weak_up j k (binary_of m) le h
quiet_up j k _ le h = tt

quiet_at : (m : Mark) (o : BinOp) (k : ℕ) (ts : List TokenKind) → binary_of m ≡ Some o → strength_of o ≤ k → Quiet k (token.Mark m ∷ ts)
quiet_at mark.Question o k ts e h = absurd cc
quiet_at mark.LeftBracket o k ts e h = absurd cc
quiet_at m o k ts e h = let P : Option BinOp → Type 0 = λ b. Weak k b in subst P (sym e) h

-- ---- what stands behind an operand

-- what binds strongly enough takes the operand
settle_absorbed : (p : Pending) (x : Expr) (n : ℕ) (ps : List Pending) (ts : List TokenKind) → 1 ≤ binding p → settle_at x (waiting n (p ∷ ps)) ts ≡ settle_at (applied p x) (waiting n ps) ts
unfolding settle_at
settle_absorbed p x n ps ts h = rw (le-leb 1 (binding p) h) refl

operate_absorbed : (o : Option BinOp) (p : Pending) (x : Expr) (n : ℕ) (ps : List Pending) (ts : List TokenKind) → 1 ≤ binding p → Weak (binding p) o
    → operate_at o x (waiting n (p ∷ ps)) ts ≡ operate_at o (applied p x) (waiting n ps) ts
unfolding operate_at
operate_absorbed None p x n ps ts h weak = settle_absorbed p x n ps ts h
operate_absorbed (Some o) p x n ps ts h weak = rw (le-leb (strength_of o) (binding p) weak) refl

follow_absorbed : (p : Pending) (x : Expr) (n : ℕ) (ps : List Pending) (ts : List TokenKind) → 1 ≤ binding p → Quiet (binding p) ts
    → follow_at x (waiting n (p ∷ ps)) ts ≡ follow_at (applied p x) (waiting n ps) ts
unfolding follow_at choose_at
follow_absorbed p x n ps (token.Mark mark.Question ∷ ts) h q = rw (le-leb 2 (binding p) q) refl
follow_absorbed p x n ps (token.Mark mark.LeftBracket ∷ ts) h q = absurd q
follow_absorbed p x n ps (token.Mark m ∷ ts) h q = operate_absorbed (binary_of m) p x n ps (token.Mark m ∷ ts) h q
follow_absorbed p x n ps ts h q = settle_absorbed p x n ps ts h

absorbed : (p : Pending) (x : Expr) (n : ℕ) (ps : List Pending) (ts : List TokenKind) → 1 ≤ binding p → Quiet (binding p) ts → from_found x n (p ∷ ps) ts ≡ from_found (applied p x) n ps ts
unfolding step_at
absorbed p x n ps ts h q =
    reads_by (Found x (waiting n (p ∷ ps))) ts (follow_at (applied p x) (waiting n ps) ts) (follow_absorbed p x n ps ts h q)
    ∙ sym (reads_by (Found (applied p x) (waiting n ps)) ts (follow_at (applied p x) (waiting n ps) ts) refl)

pub follow_operator : (m : Mark) (o : BinOp) (x : Expr) (w : Waiting) (ts : List TokenKind) → binary_of m ≡ Some o → follow_at x w (token.Mark m ∷ ts) ≡ operate_at (Some o) x w (token.Mark m ∷ ts)
unfolding follow_at
follow_operator mark.Question o x w ts e = absurd cc
follow_operator m o x w ts e = ap (λ (b : Option BinOp). operate_at b x w (token.Mark m ∷ ts)) e

operated : (m : Mark) (o : BinOp) (x : Expr) (k : ℕ) (ps : List Pending) (ts : List TokenKind) → binary_of m ≡ Some o → Room ps (strength_of o)
    → from_found x (suc k) ps (token.Mark m ∷ ts) ≡ from_wanted k (Left o x ∷ ps) ts
unfolding step_at operate_at wait_at counted_at
operated m o x k ps ts e room =
    let two = least o in
    let ten = most o in
    let kept = stays (strength_of o) x ps (low ps (strength_of o) (strength_of o) (omega arith) two ten room) in
    let stepped : operate_at (Some o) x (waiting (suc k) ps) (token.Mark m ∷ ts) ≡ read (wanted k (Left o x ∷ ps)) ts = rw kept refl in
    goes (Found x (waiting (suc k) ps)) (token.Mark m ∷ ts) (Wanted (waiting k (Left o x ∷ ps))) ts (follow_operator m o x (waiting (suc k) ps) ts e ∙ stepped)

chosen : (x : Expr) (k : ℕ) (ps : List Pending) (ts : List TokenKind) → Room ps 1 → from_found x (suc k) ps (token.Mark mark.Question ∷ ts) ≡ from_wanted k (Choice x ∷ ps) ts
unfolding step_at follow_at choose_at wait_at counted_at
chosen x k ps ts room =
    let kept = stays 2 x ps (low ps 1 2 (omega arith) (omega arith) (omega arith) room) in
    let stepped : choose_at x (waiting (suc k) ps) (token.Mark mark.Question ∷ ts) ≡ read (wanted k (Choice x ∷ ps)) ts = rw kept refl in
    goes (Found x (waiting (suc k) ps)) (token.Mark mark.Question ∷ ts) (Wanted (waiting k (Choice x ∷ ps))) ts stepped

otherwise : (c x : Expr) (k : ℕ) (ps : List Pending) (ts : List TokenKind) → from_found x k (Choice c ∷ ps) (token.Mark mark.Colon ∷ ts) ≡ from_wanted k (Otherwise c x ∷ ps) ts
unfolding step_at follow_at operate_at settle_at close_at otherwise_at
otherwise c x k ps ts = goes (Found x (waiting k (Choice c ∷ ps))) (token.Mark mark.Colon ∷ ts) (Wanted (waiting k (Otherwise c x ∷ ps))) ts refl

closed : (x : Expr) (k : ℕ) (ps : List Pending) (ts : List TokenKind) → from_found x k (Group ∷ ps) (token.Mark mark.RightParen ∷ ts) ≡ from_found x k ps ts
unfolding step_at follow_at operate_at settle_at close_at group_at
closed x k ps ts = goes (Found x (waiting k (Group ∷ ps))) (token.Mark mark.RightParen ∷ ts) (Found x (waiting k ps)) ts refl

-- a concatenation, or a repetition: what waits, its end, and what it makes
abbrev pub bracket : Option ℕ → List Expr → Pending
bracket None es = Parts es
bracket (Some n) es = Repeated n es

abbrev pub closing : Option ℕ → List TokenKind
closing None = token.Mark mark.RightBrace ∷ []
closing (Some n) = token.Mark mark.RightBrace ∷ token.Mark mark.RightBrace ∷ []

abbrev pub built : Option ℕ → List Expr → Expr
built None es = Concat es
built (Some n) es = Repeat n es

room_bracket : (b : Option ℕ) (es : List Expr) (ps : List Pending) (k : ℕ) → Room (bracket b es ∷ ps) k
room_bracket None es ps k = tt
room_bracket (Some n) es ps k = tt

quiet_closing : (b : Option ℕ) (k : ℕ) (ts : List TokenKind) → Quiet k (closing b ++ ts)
quiet_closing None k ts = tt
quiet_closing (Some n) k ts = tt

one_more : (b : Option ℕ) (es : List Expr) (x : Expr) (k : ℕ) (ps : List Pending) (ts : List TokenKind)
    → from_found x k (bracket b es ∷ ps) (token.Mark mark.Comma ∷ ts) ≡ from_wanted k (bracket b (es ++ x ∷ []) ∷ ps) ts
unfolding step_at follow_at operate_at settle_at close_at parts_at repeated_at
one_more None es x k ps ts = goes (Found x (waiting k (Parts es ∷ ps))) (token.Mark mark.Comma ∷ ts) (Wanted (waiting k (Parts (es ++ x ∷ []) ∷ ps))) ts refl
one_more (Some n) es x k ps ts = goes (Found x (waiting k (Repeated n es ∷ ps))) (token.Mark mark.Comma ∷ ts) (Wanted (waiting k (Repeated n (es ++ x ∷ []) ∷ ps))) ts refl

braced : (b : Option ℕ) (es : List Expr) (x : Expr) (k : ℕ) (ps : List Pending) (ts : List TokenKind)
    → from_found x k (bracket b es ∷ ps) (closing b ++ ts) ≡ from_found (built b (es ++ x ∷ [])) k ps ts
unfolding step_at follow_at operate_at settle_at close_at parts_at repeated_at repeated_end
braced None es x k ps ts = goes (Found x (waiting k (Parts es ∷ ps))) (token.Mark mark.RightBrace ∷ ts) (Found (Concat (es ++ x ∷ [])) (waiting k ps)) ts refl
braced (Some n) es x k ps ts =
    goes (Found x (waiting k (Repeated n es ∷ ps))) (token.Mark mark.RightBrace ∷ token.Mark mark.RightBrace ∷ ts) (Found (Repeat n (es ++ x ∷ [])) (waiting k ps)) ts refl

-- ---- an operand, and what stands before one

pub const_again : (c : Constant) (k : ℕ) (ps : List Pending) (ts : List TokenKind) → from_wanted k ps (token.Sized c ∷ ts) ≡ from_found (Const c) k ps ts
unfolding step_at begin_at
const_again c k ps ts = goes (Wanted (waiting k ps)) (token.Sized c ∷ ts) (Found (Const c) (waiting k ps)) ts refl

net_selected : (n : List ℕ) (k : ℕ) (ts : List TokenKind) → Quiet k ts → selected_at n ts ≡ read (Net n) ts
unfolding selected_at
net_selected n k (token.Mark mark.LeftBracket ∷ ts) q = absurd q
net_selected n k ts q = refl

net_again : (n : List ℕ) (j k : ℕ) (ps : List Pending) (ts : List TokenKind) → Quiet j ts → from_wanted k ps (token.Word n ∷ ts) ≡ from_found (Net n) k ps ts
unfolding step_at begin_at
net_again n j k ps ts q =
    goes (Wanted (waiting k ps)) (token.Word n ∷ ts) (Found (Net n) (waiting k ps)) ts (ap (λ (r : Reading Expr). next r (λ x. read (found x k ps))) (net_selected n j ts q))

pub bit_again : (n : List ℕ) (d k : ℕ) (ps : List Pending) (ts : List TokenKind)
    → from_wanted k ps (token.Word n ∷ token.Mark mark.LeftBracket ∷ token.Decimal d ∷ token.Mark mark.RightBracket ∷ ts) ≡ from_found (Bit n d) k ps ts
unfolding step_at begin_at selected_at select_at decimal_at
bit_again n d k ps ts = goes (Wanted (waiting k ps)) _ (Found (Bit n d) (waiting k ps)) ts refl

pub part_again : (n : List ℕ) (l r k : ℕ) (ps : List Pending) (ts : List TokenKind)
    → from_wanted k ps (token.Word n ∷ token.Mark mark.LeftBracket ∷ token.Decimal l ∷ token.Mark mark.Colon ∷ token.Decimal r ∷ token.Mark mark.RightBracket ∷ ts) ≡ from_found (Part n l r) k ps ts
unfolding step_at begin_at selected_at select_at decimal_at range_at
part_again n l r k ps ts = goes (Wanted (waiting k ps)) _ (Found (Part n l r) (waiting k ps)) ts refl

pub group_again : (k : ℕ) (ps : List Pending) (ts : List TokenKind) → from_wanted (suc k) ps (token.Mark mark.LeftParen ∷ ts) ≡ from_wanted k (Group ∷ ps) ts
unfolding step_at begin_at begin_mark wait_at counted_at
group_again k ps ts = goes (Wanted (waiting (suc k) ps)) (token.Mark mark.LeftParen ∷ ts) (Wanted (waiting k (Group ∷ ps))) ts refl

begin_operator : (m : Mark) (o : UnOp) (w : Waiting) (ts : List TokenKind) → unary_of m ≡ Some o → begin_mark m w ts ≡ begin_unary (Some o) w ts
unfolding begin_mark
begin_operator mark.LeftParen o w ts e = absurd cc
begin_operator mark.LeftBrace o w ts e = absurd cc
begin_operator m o w ts e = ap (λ (b : Option UnOp). begin_unary b w ts) e

pub unary_again : (m : Mark) (o : UnOp) (k : ℕ) (ps : List Pending) (ts : List TokenKind) → unary_of m ≡ Some o → from_wanted (suc k) ps (token.Mark m ∷ ts) ≡ from_wanted k (Operator o ∷ ps) ts
unfolding step_at begin_at begin_unary wait_at counted_at
unary_again m o k ps ts e = goes (Wanted (waiting (suc k) ps)) (token.Mark m ∷ ts) (Wanted (waiting k (Operator o ∷ ps))) ts (begin_operator m o (waiting (suc k) ps) (token.Mark m ∷ ts) e)

-- a phrase doesn't begin with a decimal
brace_first : (p : Phrase) (k : ℕ) (ps : List Pending) (us : List TokenKind) → brace_at (waiting k ps) (tokens_of p ++ us) ≡ read (wanted k (Parts [] ∷ ps)) (tokens_of p ++ us)
unfolding brace_at
brace_first (binary m o p q) k ps us =
    let P : List TokenKind → Type 0 = λ ts. brace_at (waiting k ps) ts ≡ read (wanted k (Parts [] ∷ ps)) ts in
    subst P (sym (append_assoc (tokens_of p) (token.Mark m ∷ tokens_of q) us)) (brace_first p k ps (token.Mark m ∷ (tokens_of q ++ us)))
brace_first (cond_phrase c p q) k ps us =
    let P : List TokenKind → Type 0 = λ ts. brace_at (waiting k ps) ts ≡ read (wanted k (Parts [] ∷ ps)) ts in
    let rest = tokens_of p ++ token.Mark mark.Colon ∷ tokens_of q in
    subst P (sym (append_assoc (tokens_of c) (token.Mark mark.Question ∷ rest) us)) (brace_first c k ps (token.Mark mark.Question ∷ (rest ++ us)))
brace_first (const c) k ps us = refl
brace_first (net n) k ps us = refl
brace_first (bit n d) k ps us = refl
brace_first (part n l r) k ps us = refl
brace_first (grouped p) k ps us = refl
brace_first (concat qs) k ps us = refl
brace_first (repeat d qs) k ps us = refl
brace_first (unary m o p) k ps us = refl

braces_first : (qs : Phrases) (k : ℕ) (ps : List Pending) (us : List TokenKind) → brace_at (waiting k ps) (all_tokens_of qs ++ us) ≡ read (wanted k (Parts [] ∷ ps)) (all_tokens_of qs ++ us)
braces_first (last p) k ps us = brace_first p k ps us
braces_first (before p qs) k ps us =
    let P : List TokenKind → Type 0 = λ ts. brace_at (waiting k ps) ts ≡ read (wanted k (Parts [] ∷ ps)) ts in
    subst P (sym (append_assoc (tokens_of p) (token.Mark mark.Comma ∷ all_tokens_of qs) us)) (brace_first p k ps (token.Mark mark.Comma ∷ (all_tokens_of qs ++ us)))

concat_again : (qs : Phrases) (k : ℕ) (ps : List Pending) (us : List TokenKind)
    → from_wanted (suc k) ps (token.Mark mark.LeftBrace ∷ (all_tokens_of qs ++ us)) ≡ from_wanted k (Parts [] ∷ ps) (all_tokens_of qs ++ us)
unfolding step_at begin_at begin_mark counted_at
concat_again qs k ps us = goes (Wanted (waiting (suc k) ps)) (token.Mark mark.LeftBrace ∷ (all_tokens_of qs ++ us)) (Wanted (waiting k (Parts [] ∷ ps))) (all_tokens_of qs ++ us) (braces_first qs k ps us)

pub repeat_again : (d k : ℕ) (ps : List Pending) (ts : List TokenKind)
    → from_wanted (suc (suc k)) ps (token.Mark mark.LeftBrace ∷ token.Decimal d ∷ token.Mark mark.LeftBrace ∷ ts) ≡ from_wanted k (Repeated d [] ∷ ps) ts
unfolding step_at begin_at begin_mark brace_at repeat_at wait_at counted_at
repeat_again d k ps ts = goes (Wanted (waiting (suc (suc k)) ps)) _ (Wanted (waiting k (Repeated d [] ∷ ps))) ts refl

-- ---- counted marks

abbrev mutual
  pub cost : Phrase → ℕ
  cost (const c) = 0
  cost (net n) = 0
  cost (bit n d) = 0
  cost (part n l r) = 0
  cost (grouped p) = suc (cost p)
  cost (concat qs) = suc (costs qs)
  cost (repeat d qs) = suc (suc (costs qs))
  cost (unary m o p) = suc (cost p)
  cost (binary m o p q) = cost p + suc (cost q)
  cost (cond_phrase c p q) = cost c + suc (cost p + cost q)

  pub costs : Phrases → ℕ
  costs (last p) = cost p
  costs (before p qs) = cost p + costs qs

counted_on : (t : TokenKind) (ts : List TokenKind) → counted_marks (t ∷ ts) ≡ cond {A = ℕ} (is_counted t) 1 0 + counted_marks ts
counted_on t ts = sum_by-cons (λ x. cond {A = ℕ} (is_counted x) 1 0) t ts

pub counted_join : (ts us : List TokenKind) → counted_marks (ts ++ us) ≡ counted_marks ts + counted_marks us
counted_join ts us = sum_by-append (λ x. cond {A = ℕ} (is_counted x) 1 0) ts us

pub counted_unary : (m : Mark) (o : UnOp) → unary_of m ≡ Some o → is_counted_mark m ≡ true
counted_unary mark.LeftParen o e = refl
counted_unary mark.LeftBrace o e = refl
counted_unary mark.Question o e = refl
counted_unary m o e = either (is_some (unary_of m)) (is_some (binary_of m)) (ap is_some e)
  where
    either : (a b : Bool) → a ≡ true → (a || b) ≡ true
    either true b h = refl
    either false b h = absurd cc

pub counted_binary : (m : Mark) (o : BinOp) → binary_of m ≡ Some o → is_counted_mark m ≡ true
counted_binary mark.LeftParen o e = refl
counted_binary mark.LeftBrace o e = refl
counted_binary mark.Question o e = refl
counted_binary m o e = either (is_some (unary_of m)) (is_some (binary_of m)) (ap is_some e)
  where
    either : (a b : Bool) → b ≡ true → (a || b) ≡ true
    either true b h = refl
    either false b h = h

pub yes : (t : TokenKind) (ts : List TokenKind) → is_counted t ≡ true → counted_marks (t ∷ ts) ≡ suc (counted_marks ts)
yes t ts e = (let n = counted_on t ts in let one = ap (λ (b : Bool). cond {A = ℕ} b 1 0) e in omega arith)

pub other : (t : TokenKind) (ts : List TokenKind) → is_counted t ≡ false → counted_marks (t ∷ ts) ≡ counted_marks ts
other t ts e = (let n = counted_on t ts in let one = ap (λ (b : Bool). cond {A = ℕ} b 1 0) e in omega arith)

mutual
  pub cost_is : (p : Phrase) → IsGrouped p → counted_marks (tokens_of p) ≡ cost p
  cost_is (const c) g = refl
  cost_is (net n) g = refl
  cost_is (bit n d) g = refl
  cost_is (part n l r) g = refl
  cost_is (grouped p) g =
      (let open_ = yes (token.Mark mark.LeftParen) (tokens_of p ++ token.Mark mark.RightParen ∷ []) refl in
      let split = counted_join (tokens_of p) (token.Mark mark.RightParen ∷ []) in
      let close : counted_marks (token.Mark mark.RightParen ∷ []) ≡ 0 = refl in
      let inner = cost_is p g in
      omega arith)
  cost_is (concat qs) g =
      (let open_ = yes (token.Mark mark.LeftBrace) (all_tokens_of qs ++ token.Mark mark.RightBrace ∷ []) refl in
      let split = counted_join (all_tokens_of qs) (token.Mark mark.RightBrace ∷ []) in
      let close : counted_marks (token.Mark mark.RightBrace ∷ []) ≡ 0 = refl in
      let inner = costs_are qs g in
      omega arith)
  cost_is (repeat d qs) g =
      (let end : List TokenKind = token.Mark mark.RightBrace ∷ token.Mark mark.RightBrace ∷ [] in
      let inside = all_tokens_of qs ++ end in
      let one = yes (token.Mark mark.LeftBrace) (token.Decimal d ∷ token.Mark mark.LeftBrace ∷ inside) refl in
      let two = other (token.Decimal d) (token.Mark mark.LeftBrace ∷ inside) refl in
      let three = yes (token.Mark mark.LeftBrace) inside refl in
      let split = counted_join (all_tokens_of qs) end in
      let close : counted_marks end ≡ 0 = refl in
      let inner = costs_are qs g in
      omega arith)
  cost_is (unary m o p) g = (let one = yes (token.Mark m) (tokens_of p) (counted_unary m o g.0) in let inner = cost_is p g.1 in omega arith)
  cost_is (binary m o p q) g =
      (let split = counted_join (tokens_of p) (token.Mark m ∷ tokens_of q) in
      let one = yes (token.Mark m) (tokens_of q) (counted_binary m o g.0) in
      let left = cost_is p g.1 in
      let right = cost_is q g.2 in
      omega arith)
  cost_is (cond_phrase c p q) g =
      (let rest = tokens_of p ++ token.Mark mark.Colon ∷ tokens_of q in
      let split = counted_join (tokens_of c) (token.Mark mark.Question ∷ rest) in
      let one = yes (token.Mark mark.Question) rest refl in
      let again = counted_join (tokens_of p) (token.Mark mark.Colon ∷ tokens_of q) in
      let colon = other (token.Mark mark.Colon) (tokens_of q) refl in
      let first = cost_is c g.0 in
      let second = cost_is p g.1 in
      let third = cost_is q g.2 in
      omega arith)

  pub costs_are : (qs : Phrases) → AreGrouped qs → counted_marks (all_tokens_of qs) ≡ costs qs
  costs_are (last p) g = cost_is p g
  costs_are (before p qs) g =
      (let split = counted_join (tokens_of p) (token.Mark mark.Comma ∷ all_tokens_of qs) in
      let comma = other (token.Mark mark.Comma) (all_tokens_of qs) refl in
      let first = cost_is p g.0 in
      let more = costs_are qs g.1 in
      omega arith)

-- ---- the whole phrase

mutual
  phrase_again : (p : Phrase) (n k : ℕ) (ps : List Pending) (ts : List TokenKind) → IsGrouped p → Room ps (strength p) → Quiet (strength p) ts → n ≡ cost p + k
      → from_wanted n ps (tokens_of p ++ ts) ≡ from_found (tree_of p) k ps ts
  phrase_again (const c) n k ps ts g room quiet is = ap (λ (j : ℕ). from_wanted j ps (token.Sized c ∷ ts)) (omega arith) ∙ const_again c k ps ts
  phrase_again (net w) n k ps ts g room quiet is = ap (λ (j : ℕ). from_wanted j ps (token.Word w ∷ ts)) (omega arith) ∙ net_again w 11 k ps ts quiet
  phrase_again (bit w d) n k ps ts g room quiet is = ap (λ (j : ℕ). from_wanted j ps (tokens_of (bit w d) ++ ts)) (omega arith) ∙ bit_again w d k ps ts
  phrase_again (part w l r) n k ps ts g room quiet is = ap (λ (j : ℕ). from_wanted j ps (tokens_of (part w l r) ++ ts)) (omega arith) ∙ part_again w l r k ps ts
  phrase_again (grouped p) n k ps ts g room quiet is =
      ap (λ (j : ℕ). from_wanted j ps (tokens_of (grouped p) ++ ts)) (omega arith)
      ∙ group_again (cost p + k) ps ((tokens_of p ++ token.Mark mark.RightParen ∷ []) ++ ts)
      ∙ ap (from_wanted (cost p + k) (Group ∷ ps)) (append_assoc (tokens_of p) (token.Mark mark.RightParen ∷ []) ts)
      ∙ phrase_again p (cost p + k) k (Group ∷ ps) (token.Mark mark.RightParen ∷ ts) g tt tt refl
      ∙ closed (tree_of p) k ps ts
  phrase_again (concat qs) n k ps ts g room quiet is =
      ap (λ (j : ℕ). from_wanted j ps (tokens_of (concat qs) ++ ts)) (omega arith)
      ∙ ap (λ (us : List TokenKind). from_wanted (suc (costs qs + k)) ps (token.Mark mark.LeftBrace ∷ us)) (append_assoc (all_tokens_of qs) (token.Mark mark.RightBrace ∷ []) ts)
      ∙ concat_again qs (costs qs + k) ps (token.Mark mark.RightBrace ∷ ts)
      ∙ phrases_again qs None [] (costs qs + k) k ps ts g refl
  phrase_again (repeat d qs) n k ps ts g room quiet is =
      let end : List TokenKind = token.Mark mark.RightBrace ∷ token.Mark mark.RightBrace ∷ [] in
      ap (λ (j : ℕ). from_wanted j ps (tokens_of (repeat d qs) ++ ts)) (omega arith)
      ∙ ap (λ (us : List TokenKind). from_wanted (suc (suc (costs qs + k))) ps (token.Mark mark.LeftBrace ∷ token.Decimal d ∷ token.Mark mark.LeftBrace ∷ us)) (append_assoc (all_tokens_of qs) end ts)
      ∙ repeat_again d (costs qs + k) ps (all_tokens_of qs ++ (end ++ ts))
      ∙ phrases_again qs (Some d) [] (costs qs + k) k ps ts g refl
  phrase_again (unary m o p) n k ps ts g room quiet is =
      ap (λ (j : ℕ). from_wanted j ps (tokens_of (unary m o p) ++ ts)) (omega arith)
      ∙ unary_again m o (cost p + k) ps (tokens_of p ++ ts) g.0
      ∙ phrase_again p (cost p + k) k (Operator o ∷ ps) ts g.1 g.2 (quiet_up 11 (strength p) ts g.2 quiet) refl
      ∙ absorbed (Operator o) (tree_of p) k ps ts (omega arith) quiet
  phrase_again (binary m o p q) n k ps ts g room quiet is =
      ap (from_wanted n ps) (append_assoc (tokens_of p) (token.Mark m ∷ tokens_of q) ts)
      ∙ phrase_again p n (suc (cost q + k)) ps (token.Mark m ∷ (tokens_of q ++ ts)) g.1 (room_up ps (strength_of o) (strength p) g.3 room) (quiet_at m o (strength p) (tokens_of q ++ ts) g.0 g.3) (omega arith)
      ∙ operated m o (tree_of p) (cost q + k) ps (tokens_of q ++ ts) g.0 room
      ∙ phrase_again q (cost q + k) k (Left o (tree_of p) ∷ ps) ts g.2 (omega (arith, g.4)) (quiet_up (strength_of o) (strength q) ts (omega (arith, g.4)) quiet) refl
      ∙ absorbed (Left o (tree_of p)) (tree_of q) k ps ts (omega (arith, least o)) quiet
  phrase_again (cond_phrase c p q) n k ps ts g room quiet is =
      let rest = tokens_of p ++ token.Mark mark.Colon ∷ tokens_of q in
      ap (from_wanted n ps) (append_assoc (tokens_of c) (token.Mark mark.Question ∷ rest) ts)
      ∙ phrase_again c n (suc (cost p + (cost q + k))) ps (token.Mark mark.Question ∷ (rest ++ ts)) g.0 (room_up ps 1 (strength c) (strong c) room) g.3 (omega arith)
      ∙ chosen (tree_of c) (cost p + (cost q + k)) ps (rest ++ ts) room
      ∙ ap (from_wanted (cost p + (cost q + k)) (Choice (tree_of c) ∷ ps)) (append_assoc (tokens_of p) (token.Mark mark.Colon ∷ tokens_of q) ts)
      ∙ phrase_again p (cost p + (cost q + k)) (cost q + k) (Choice (tree_of c) ∷ ps) (token.Mark mark.Colon ∷ (tokens_of q ++ ts)) g.1 tt tt refl
      ∙ otherwise (tree_of c) (tree_of p) (cost q + k) ps (tokens_of q ++ ts)
      ∙ phrase_again q (cost q + k) k (Otherwise (tree_of c) (tree_of p) ∷ ps) ts g.2 tt (quiet_up 1 (strength q) ts (strong q) quiet) refl
      ∙ absorbed (Otherwise (tree_of c) (tree_of p)) (tree_of q) k ps ts (omega arith) quiet

  phrases_again : (qs : Phrases) (b : Option ℕ) (done : List Expr) (n k : ℕ) (ps : List Pending) (ts : List TokenKind) → AreGrouped qs → n ≡ costs qs + k
      → from_wanted n (bracket b done ∷ ps) (all_tokens_of qs ++ (closing b ++ ts)) ≡ from_found (built b (done ++ trees_of qs)) k ps ts
  phrases_again (last p) b done n k ps ts g is =
      phrase_again p n k (bracket b done ∷ ps) (closing b ++ ts) g (room_bracket b done ps (strength p)) (quiet_closing b (strength p) ts) is ∙ braced b done (tree_of p) k ps ts
  phrases_again (before p qs) b done n k ps ts g is =
      ap (from_wanted n (bracket b done ∷ ps)) (append_assoc (tokens_of p) (token.Mark mark.Comma ∷ all_tokens_of qs) (closing b ++ ts))
      ∙ phrase_again p n (costs qs + k) (bracket b done ∷ ps) (token.Mark mark.Comma ∷ (all_tokens_of qs ++ (closing b ++ ts))) g.0 (room_bracket b done ps (strength p)) tt (omega arith)
      ∙ one_more b done (tree_of p) (costs qs + k) ps (all_tokens_of qs ++ (closing b ++ ts))
      ∙ phrases_again qs b (done ++ tree_of p ∷ []) (costs qs + k) k ps ts g.1 refl
      ∙ ap (λ (es : List Expr). from_found (built b es) k ps ts) (append_assoc done (tree_of p ∷ []) (trees_of qs))

-- ---- the end of an expression

quiet_end : (r : List TokenKind) → EndsExpr r → Quiet 0 r
unfolding ends_expr
quiet_end (token.Mark mark.RightParen ∷ ts) e = tt
quiet_end (token.Mark mark.Semicolon ∷ ts) e = tt
quiet_end (token.Mark mark.Comma ∷ ts) e = tt
quiet_end (token.Mark mark.RightBrace ∷ ts) e = tt
quiet_end (token.Mark mark.Colon ∷ ts) e = tt
quiet_end _ e = absurd cc

ended_again : (x : Expr) (k : ℕ) (r : List TokenKind) → EndsExpr r → from_found x k [] r ≡ read x r
unfolding step_at follow_at operate_at settle_at close_at ends_expr
ended_again x k r e = reads_by (Found x (waiting k [])) r (read (Whole x) r) (follows r e)
  where
    follows : (r : List TokenKind) → EndsExpr r → follow_at x (waiting k []) r ≡ read (Whole x) r
    follows (token.Mark mark.RightParen ∷ ts) e = refl
    follows (token.Mark mark.Semicolon ∷ ts) e = refl
    follows (token.Mark mark.Comma ∷ ts) e = refl
    follows (token.Mark mark.RightBrace ∷ ts) e = refl
    follows (token.Mark mark.Colon ∷ ts) e = refl
    follows _ e = absurd cc

-- an expression of at most so many counted marks is read as its tree
pub expr_complete : (k : ℕ) (us : List TokenKind) (e : Expr) (r : List TokenKind) → (limited counted_marks k expr).sentence us e → EndsExpr r → expr_at k (us ++ r) ≡ read e r
unfolding expr_at
expr_complete k us e r h ends =
    let x = h.0 in
    let p = x.phrase in
    let paid : k ≡ cost p + (k - cost p) = (let c = cost_is p x.grouping in let t = ap counted_marks x.tokens in let few = h.1 in omega arith) in
    ap (λ (ts : List TokenKind). from_wanted k [] (ts ++ r)) x.tokens
    ∙ phrase_again p k (k - cost p) [] r x.grouping tt (quiet_up 0 (strength p) r (omega arith) (quiet_end r ends)) paid
    ∙ ap (λ (y : Expr). from_found y (k - cost p) [] r) (sym x.tree)
    ∙ ended_again e (k - cost p) r ends

-- at one place of a text stands at most one expression before a mark that ends it, with one tree
pub expr_unique : (us vs r s : List TokenKind) (e f : Expr) → expr.sentence us e → expr.sentence vs f → EndsExpr r → EndsExpr s → us ++ r ≡ vs ++ s → (e ≡ f) × (r ≡ s)
expr_unique us vs r s e f g h end stop same =
    let k = counted_marks us + counted_marks vs in
    let one = expr_complete k us e r (g, omega arith) end in
    let two = expr_complete k vs f s (h, omega arith) stop in
    let both = sym one ∙ ap (expr_at k) same ∙ two in
    (ap (value e) both, ap rest both)
  where
    value : Expr → Reading Expr → Expr
    value y (read x left) = x
    value y (stopped d) = y

    rest : Reading Expr → List TokenKind
    rest (read x left) = left
    rest (stopped d) = []
