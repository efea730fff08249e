-- No reading stops in a front of an expression, where there is room for its counted marks.
use Rattle.std.proofs.Common.{◌≡◌, ℕ, zero, suc, ◌+◌, ◌≤◌, true, cond, leb, List, [], ◌∷◌, ◌++◌, length, Option, Some, None, refl, sym, ap, subst, ◌∙◌, inl, inr, append_assoc, arith}
use Rattle.std.proofs.lemmas.Bool.{le-leb, leb-true, cases_Bool}
use Rattle.std.proofs.lemmas.List.{append-nil}
use Rattle.eq_vlex.specs.declared.mark.Mark.{Mark}
use Rattle.eq_vlex.specs.declared.mark.Mark.TheVariants as mark
use Rattle.eq_vlex.specs.declared.token.Constant.{Constant}
use Rattle.eq_vlex.specs.declared.token.TokenKind.{TokenKind}
use Rattle.eq_vlex.specs.declared.token.TokenKind.TheVariants as token
use Rattle.eq_vparse.specs.declared.stop.Stop.TheVariants.{Syntax}
use Rattle.eq_vparse.specs.declared.tree.UnOp.{UnOp}
use Rattle.eq_vparse.specs.declared.tree.BinOp.{BinOp}
use Rattle.eq_vparse.specs.declared.tree.Expr.{Expr}
use Rattle.eq_vparse.specs.declared.tree.Expr.TheVariants.{Const, Net, Bit, Part}
use Rattle.eq_vparse.specs.declared.tree.Expr.TheViews.{Concat, Repeat}
use Rattle.eq_vparse.specs.declared.pending.Pending.{Pending}
use Rattle.eq_vparse.specs.declared.pending.Pending.TheVariants.{Group, Operator, Left, Choice, Otherwise, Parts, Repeated}
use Rattle.eq_vparse.specs.declared.machine.State.TheVariants.{Wanted, Found}
use Rattle.eq_vparse.specs.declared.machine.Step.TheVariants.{Whole}
use Rattle.eq_vparse.specs.Operators.{unary_of, binary_of, strength_of}
use Rattle.eq_vparse.specs.Phrases.{operator, primary, shape, expr, counted_marks}
use Rattle.eq_vparse.specs.Pendings.{binding, applied, reduce}
use Rattle.eq_vparse.specs.Rules.{Rule, ◌>>=◌, AreMany, separated, mark as mark_rule}
use Rattle.eq_vparse.specs.Reading.{Reading, read, stopped, next}
use Rattle.eq_vparse.specs.Machine.{waiting, wanted, found, selected_at, counted_at, wait_at, brace_at, begin_mark, begin_at, group_at, otherwise_at, parts_at, repeated_end, repeated_at, close_at, settle_at, choose_at, operate_at, follow_at, step_at, expr_at, begins_expr}
use Rattle.eq_vparse.proofs.Again.{least, from_wanted, from_found, goes, counted_join, counted_unary, counted_binary, yes, other, const_again, bit_again, part_again, group_again, unary_again, repeat_again, follow_operator, bracket, closing, built}
use Rattle.eq_vparse.proofs.Begins.{unary_begins}
use Rattle.eq_vparse.proofs.Progress.{reads_by}
use Rattle.eq_vparse.proofs.Ruled.{Sub, sub_nothing, Live}
use Rattle.eq_vparse.proofs.Shapes.{body, tail_rule, sub_body, live_body}
use Rattle.eq_vparse.proofs.Local.{stops_alike}

-- what is open, and what waits before it
abbrev base : List Pending → List Pending
base [] = []
base (p ∷ ps) = cond (leb 1 (binding p)) (base ps) (p ∷ ps)

base_past : (p : Pending) (ps : List Pending) → 1 ≤ binding p → base (p ∷ ps) ≡ base ps
base_past p ps h = rw (le-leb 1 (binding p) h) refl

reduce_base : (level : ℕ) (x : Expr) (ps : List Pending) → 1 ≤ level → base (reduce level x ps).1 ≡ base ps
reduce_base level x [] h = refl
reduce_base level x (p ∷ ps) h =
    elim (cases_Bool (leb level (binding p))) [
      | inl e ↦ (let le = leb-true level (binding p) e in rw e (reduce_base level (applied p x) ps h ∙ sym (base_past p ps (omega arith))))
      | inr e ↦ rw e refl
    ]

reduce_open : (x : Expr) (ps : List Pending) → (reduce 1 x ps).1 ≡ base ps
reduce_open x [] = refl
reduce_open x (p ∷ ps) =
    elim (cases_Bool (leb 1 (binding p))) [
      | inl e ↦ rw e (reduce_open (applied p x) ps)
      | inr e ↦ rw e refl
    ]

-- nothing that belongs to a name
abbrev Clear : List TokenKind → Type 0
Clear (token.Mark mark.LeftBracket ∷ ts) = ⊥
Clear _ = Unit {0}

-- the reading goes over these tokens, and what is open stays as it is
abbrev Over : (List Pending → ℕ → List TokenKind → Reading Expr) → List TokenKind → Type 0
Over from ts = (ps : List Pending) (j : ℕ) (r : List TokenKind) → Clear r → (x : Expr) × (qs : List Pending) × (base qs ≡ base ps) × (from ps (counted_marks ts + j) (ts ++ r) ≡ from_found x j qs r)

record Operand (ts : List TokenKind) : Type 0 where
  begins : (r : List TokenKind) → begins_expr (ts ++ r) ≡ true
  runs : Over (λ ps n us. from_wanted n ps us) ts

as_operand : (ts us : List TokenKind) → ts ≡ us → Operand us → Operand ts
as_operand ts us e h = let P : List TokenKind → Type 0 = λ vs. Operand vs in subst P (sym e) h

-- ---- primaries

const_operand : (c : Constant) → Operand (token.Sized c ∷ [])
unfolding begins_expr
const_operand c = record {
  begins = λ r. refl;
  runs = λ ps j r clear. (Const c, ps, refl, ap (λ (n : ℕ). from_wanted n ps (token.Sized c ∷ r)) (let z : counted_marks (token.Sized c ∷ []) ≡ 0 = refl in omega arith) ∙ const_again c j ps r);
}

clear_name : (n : List ℕ) (ts : List TokenKind) → Clear ts → selected_at n ts ≡ read (Net n) ts
unfolding selected_at
clear_name n (token.Mark mark.LeftBracket ∷ ts) c = absurd c
clear_name n ts c = refl

name_again : (n : List ℕ) (k : ℕ) (ps : List Pending) (ts : List TokenKind) → Clear ts → from_wanted k ps (token.Word n ∷ ts) ≡ from_found (Net n) k ps ts
unfolding step_at begin_at
name_again n k ps ts c = goes (Wanted (waiting k ps)) (token.Word n ∷ ts) (Found (Net n) (waiting k ps)) ts (ap (λ (r : Reading Expr). next r (λ x. read (found x k ps))) (clear_name n ts c))

name_operand : (n : List ℕ) → Operand (token.Word n ∷ [])
unfolding begins_expr
name_operand n = record {
  begins = λ r. refl;
  runs = λ ps j r clear. (Net n, ps, refl, ap (λ (i : ℕ). from_wanted i ps (token.Word n ∷ r)) (let z : counted_marks (token.Word n ∷ []) ≡ 0 = refl in omega arith) ∙ name_again n j ps r clear);
}

bit_operand : (n : List ℕ) (d : ℕ) → Operand (token.Word n ∷ token.Mark mark.LeftBracket ∷ token.Decimal d ∷ token.Mark mark.RightBracket ∷ [])
unfolding begins_expr
bit_operand n d = record {
  begins = λ r. refl;
  runs = λ ps j r clear. (
    Bit n d,
    ps,
    refl,
    ap (λ (i : ℕ). from_wanted i ps (token.Word n ∷ token.Mark mark.LeftBracket ∷ token.Decimal d ∷ token.Mark mark.RightBracket ∷ r))
        (let z : counted_marks (token.Word n ∷ token.Mark mark.LeftBracket ∷ token.Decimal d ∷ token.Mark mark.RightBracket ∷ []) ≡ 0 = refl in omega arith) ∙ bit_again n d j ps r,
  );
}

part_operand : (n : List ℕ) (l m : ℕ) → Operand (token.Word n ∷ token.Mark mark.LeftBracket ∷ token.Decimal l ∷ token.Mark mark.Colon ∷ token.Decimal m ∷ token.Mark mark.RightBracket ∷ [])
unfolding begins_expr
part_operand n l m = record {
  begins = λ r. refl;
  runs = λ ps j r clear. (
    Part n l m,
    ps,
    refl,
    ap (λ (i : ℕ). from_wanted i ps (token.Word n ∷ token.Mark mark.LeftBracket ∷ token.Decimal l ∷ token.Mark mark.Colon ∷ token.Decimal m ∷ token.Mark mark.RightBracket ∷ r))
        (let z : counted_marks (token.Word n ∷ token.Mark mark.LeftBracket ∷ token.Decimal l ∷ token.Mark mark.Colon ∷ token.Decimal m ∷ token.Mark mark.RightBracket ∷ []) ≡ 0 = refl in omega arith) ∙ part_again n l m j ps r,
  );
}

-- at a token that may close what is open
settles : (x : Expr) (n : ℕ) (qs ps : List Pending) (ts : List TokenKind) → base qs ≡ ps → settle_at x (waiting n qs) ts ≡ close_at (reduce 1 x qs).0 n ps ts
unfolding settle_at
settles x n qs ps ts e = ap (λ (os : List Pending). close_at (reduce 1 x qs).0 n os ts) (reduce_open x qs ∙ e)

paren_closes : (x : Expr) (n : ℕ) (qs ps : List Pending) (r : List TokenKind) → base qs ≡ Group ∷ ps → from_found x n qs (token.Mark mark.RightParen ∷ r) ≡ from_found (reduce 1 x qs).0 n ps r
unfolding step_at follow_at operate_at close_at group_at
paren_closes x n qs ps r e = goes (Found x (waiting n qs)) (token.Mark mark.RightParen ∷ r) (Found (reduce 1 x qs).0 (waiting n ps)) r (settles x n qs (Group ∷ ps) (token.Mark mark.RightParen ∷ r) e)

paren_operand : (ts : List TokenKind) → Operand ts → Operand (token.Mark mark.LeftParen ∷ (ts ++ token.Mark mark.RightParen ∷ []))
unfolding begins_expr
paren_operand ts h = record {
  begins = λ r. refl;
  runs = λ ps j r clear.
      (let close : List TokenKind = token.Mark mark.RightParen ∷ [] in
      let i = h.runs (Group ∷ ps) j (token.Mark mark.RightParen ∷ r) tt in
      let paid : counted_marks (token.Mark mark.LeftParen ∷ (ts ++ close)) + j ≡ suc (counted_marks ts + j) =
      (let a = yes (token.Mark mark.LeftParen) (ts ++ close) refl in let b = counted_join ts close in let z : counted_marks close ≡ 0 = refl in omega arith) in (
        (reduce 1 i.0 i.1).0,
        ps,
        refl,
        ap (λ (n : ℕ). from_wanted n ps (token.Mark mark.LeftParen ∷ ((ts ++ close) ++ r))) paid
            ∙ group_again (counted_marks ts + j) ps ((ts ++ close) ++ r)
            ∙ ap (from_wanted (counted_marks ts + j) (Group ∷ ps)) (append_assoc ts close r)
            ∙ i.3 ∙ paren_closes i.0 j i.1 ps r i.2,
      ));
}

-- ---- parts

goal : Rule (Unit {0})
goal = record { sentence = λ ts a. Operand ts; front = λ ts. (us : List TokenKind) × Operand (ts ++ us) }

commas : Rule (Unit {0})
commas = mark_rule mark.Comma >>= λ _. goal

comma_first : (ts us vs c w : List TokenKind) → ts ≡ us ++ vs → us ≡ c ++ w → c ≡ token.Mark mark.Comma ∷ [] → ts ≡ token.Mark mark.Comma ∷ (w ++ vs)
comma_first ts us vs c w e f g = e ∙ ap (λ (x : List TokenKind). x ++ vs) (f ∙ ap (λ (d : List TokenKind). d ++ w) g)

clear_closing : (b : Option ℕ) (r : List TokenKind) → Clear (closing b ++ r)
clear_closing None r = tt
clear_closing (Some n) r = tt

clear_commas : (all : List (Unit {0})) (ts : List TokenKind) → AreMany commas ts all → (b : Option ℕ) (r : List TokenKind) → Clear (ts ++ (closing b ++ r))
unfolding commas goal
clear_commas [] ts h b r = let P : List TokenKind → Type 0 = λ us. Clear (us ++ (closing b ++ r)) in subst P (sym h) (clear_closing b r)
clear_commas (a ∷ rest) ts h b r =
    let c = h.3 in
    let P : List TokenKind → Type 0 = λ us. Clear (us ++ (closing b ++ r)) in
    subst P (sym (comma_first ts h.0 h.1 c.0 c.1 h.2 c.3 c.4)) tt

base_bracket : (b : Option ℕ) (es : List Expr) (ps : List Pending) → base (bracket b es ∷ ps) ≡ bracket b es ∷ ps
base_bracket None es ps = refl
base_bracket (Some n) es ps = refl

more_step : (b : Option ℕ) (es : List Expr) (x : Expr) (n : ℕ) (qs ps : List Pending) (ts : List TokenKind) → base qs ≡ bracket b es ∷ ps
    → from_found x n qs (token.Mark mark.Comma ∷ ts) ≡ from_wanted n (bracket b (es ++ (reduce 1 x qs).0 ∷ []) ∷ ps) ts
unfolding step_at follow_at operate_at close_at parts_at repeated_at
more_step None es x n qs ps ts e =
    goes (Found x (waiting n qs)) (token.Mark mark.Comma ∷ ts) (Wanted (waiting n (Parts (es ++ (reduce 1 x qs).0 ∷ []) ∷ ps))) ts (settles x n qs (Parts es ∷ ps) (token.Mark mark.Comma ∷ ts) e)
more_step (Some d) es x n qs ps ts e =
    goes (Found x (waiting n qs)) (token.Mark mark.Comma ∷ ts) (Wanted (waiting n (Repeated d (es ++ (reduce 1 x qs).0 ∷ []) ∷ ps))) ts (settles x n qs (Repeated d es ∷ ps) (token.Mark mark.Comma ∷ ts) e)

close_step : (b : Option ℕ) (es : List Expr) (x : Expr) (n : ℕ) (qs ps : List Pending) (ts : List TokenKind) → base qs ≡ bracket b es ∷ ps
    → from_found x n qs (closing b ++ ts) ≡ from_found (built b (es ++ (reduce 1 x qs).0 ∷ [])) n ps ts
unfolding step_at follow_at operate_at close_at parts_at repeated_at repeated_end
close_step None es x n qs ps ts e =
    goes (Found x (waiting n qs)) (token.Mark mark.RightBrace ∷ ts) (Found (Concat (es ++ (reduce 1 x qs).0 ∷ [])) (waiting n ps)) ts (settles x n qs (Parts es ∷ ps) (token.Mark mark.RightBrace ∷ ts) e)
close_step (Some d) es x n qs ps ts e =
    goes (Found x (waiting n qs)) (token.Mark mark.RightBrace ∷ token.Mark mark.RightBrace ∷ ts) (Found (Repeat d (es ++ (reduce 1 x qs).0 ∷ [])) (waiting n ps)) ts
    (settles x n qs (Repeated d es ∷ ps) (token.Mark mark.RightBrace ∷ token.Mark mark.RightBrace ∷ ts) e)

list_runs : (all : List (Unit {0})) (ts : List TokenKind) → AreMany commas ts all → (b : Option ℕ) (es : List Expr) (x : Expr) (qs ps : List Pending) (j : ℕ) (r : List TokenKind) → base qs ≡ bracket b es ∷ ps
    → (y : Expr) × (from_found x (counted_marks ts + j) qs (ts ++ (closing b ++ r)) ≡ from_found y j ps r)
unfolding commas goal
list_runs [] ts h b es x qs ps j r e = (
  built b (es ++ (reduce 1 x qs).0 ∷ []),
  ap (λ (us : List TokenKind). from_found x (counted_marks us + j) qs (us ++ (closing b ++ r))) h
      ∙ ap (λ (n : ℕ). from_found x n qs (closing b ++ r)) (let z : counted_marks [] ≡ 0 = refl in omega arith)
      ∙ close_step b es x j qs ps r e,
)
list_runs (a ∷ rest) ts h b es x qs ps j r e =
    let c = h.3 in
    let w = c.1 in
    let vs = h.1 in
    let end = closing b ++ r in
    let y = (reduce 1 x qs).0 in
    let next_es = es ++ y ∷ [] in
    let i = c.5.runs (bracket b next_es ∷ ps) (counted_marks vs + j) (vs ++ end) (clear_commas rest vs h.4 b r) in
    let further = list_runs rest vs h.4 b next_es i.0 i.1 ps j r (i.2 ∙ base_bracket b next_es ps) in
    let paid : counted_marks (token.Mark mark.Comma ∷ (w ++ vs)) + j ≡ counted_marks w + (counted_marks vs + j) = (let o = other (token.Mark mark.Comma) (w ++ vs) refl in let s = counted_join w vs in omega arith) in (
      further.0,
      ap (λ (us : List TokenKind). from_found x (counted_marks us + j) qs (us ++ end)) (comma_first ts h.0 h.1 c.0 c.1 h.2 c.3 c.4)
          ∙ ap (λ (n : ℕ). from_found x n qs (token.Mark mark.Comma ∷ ((w ++ vs) ++ end))) paid
          ∙ more_step b es x (counted_marks w + (counted_marks vs + j)) qs ps ((w ++ vs) ++ end) e
          ∙ ap (from_wanted (counted_marks w + (counted_marks vs + j)) (bracket b next_es ∷ ps)) (append_assoc w vs end)
          ∙ i.3 ∙ further.1,
    )

record Listed (ts : List TokenKind) : Type 0 where
  first : (r : List TokenKind) → begins_expr (ts ++ r) ≡ true
  runs : (b : Option ℕ) (ps : List Pending) (j : ℕ) (r : List TokenKind) → (y : Expr) × (from_wanted (counted_marks ts + j) (bracket b [] ∷ ps) (ts ++ (closing b ++ r)) ≡ from_found y j ps r)

listed_join : (all : List (Unit {0})) (us vs : List TokenKind) → Operand us → AreMany commas vs all → Listed (us ++ vs)
listed_join all us vs h more = record {
  first = λ r. ap begins_expr (append_assoc us vs r) ∙ h.begins (vs ++ r);
  runs = λ b ps j r.
      (let end = closing b ++ r in
      let i = h.runs (bracket b [] ∷ ps) (counted_marks vs + j) (vs ++ end) (clear_commas all vs more b r) in
      let further = list_runs all vs more b [] i.0 i.1 ps j r (i.2 ∙ base_bracket b [] ps) in (
        further.0,
        ap (λ (n : ℕ). from_wanted n (bracket b [] ∷ ps) ((us ++ vs) ++ end)) (let s = counted_join us vs in omega arith)
            ∙ ap (from_wanted (counted_marks us + (counted_marks vs + j)) (bracket b [] ∷ ps)) (append_assoc us vs end) ∙ i.3 ∙ further.1,
      ));
}

listed : (all : List (Unit {0})) (ts : List TokenKind) → (separated goal).sentence ts all → Listed ts
unfolding goal commas
listed all ts h =
    let m = h.5 in
    let P : List TokenKind → Type 0 = λ us. Listed us in
    subst P (sym (h.3 ∙ ap (λ (us : List TokenKind). h.0 ++ us) (m.3 ∙ ap (λ (us : List TokenKind). m.0 ++ us) m.5.0 ∙ append-nil m.0))) (listed_join m.2 h.0 m.0 h.4 m.4)

brace_begins : (n : ℕ) (ps : List Pending) (us : List TokenKind) → begins_expr us ≡ true → brace_at (waiting n ps) us ≡ read (wanted n (Parts [] ∷ ps)) us
unfolding brace_at begins_expr
brace_begins n ps (token.Decimal d ∷ us) e = absurd cc
brace_begins n ps us e = refl

brace_again : (n : ℕ) (ps : List Pending) (us : List TokenKind) → begins_expr us ≡ true → from_wanted (suc n) ps (token.Mark mark.LeftBrace ∷ us) ≡ from_wanted n (Parts [] ∷ ps) us
unfolding step_at begin_at begin_mark counted_at
brace_again n ps us e = goes (Wanted (waiting (suc n) ps)) (token.Mark mark.LeftBrace ∷ us) (Wanted (waiting n (Parts [] ∷ ps))) us (brace_begins n ps us e)

concat_operand : (ts : List TokenKind) → Listed ts → Operand (token.Mark mark.LeftBrace ∷ (ts ++ token.Mark mark.RightBrace ∷ []))
unfolding begins_expr
concat_operand ts h = record {
  begins = λ r. refl;
  runs = λ ps j r clear.
      (let close : List TokenKind = token.Mark mark.RightBrace ∷ [] in
      let i = h.runs None ps j r in
      let paid : counted_marks (token.Mark mark.LeftBrace ∷ (ts ++ close)) + j ≡ suc (counted_marks ts + j) =
      (let a = yes (token.Mark mark.LeftBrace) (ts ++ close) refl in let b = counted_join ts close in let z : counted_marks close ≡ 0 = refl in omega arith) in (
        i.0,
        ps,
        refl,
        ap (λ (n : ℕ). from_wanted n ps (token.Mark mark.LeftBrace ∷ ((ts ++ close) ++ r))) paid
            ∙ ap (λ (us : List TokenKind). from_wanted (suc (counted_marks ts + j)) ps (token.Mark mark.LeftBrace ∷ us)) (append_assoc ts close r)
            ∙ brace_again (counted_marks ts + j) ps (ts ++ token.Mark mark.RightBrace ∷ r) (h.first (token.Mark mark.RightBrace ∷ r)) ∙ i.1,
      ));
}

repeat_operand : (d : ℕ) (ts : List TokenKind) → Listed ts
    → Operand (token.Mark mark.LeftBrace ∷ token.Decimal d ∷ token.Mark mark.LeftBrace ∷ (ts ++ token.Mark mark.RightBrace ∷ token.Mark mark.RightBrace ∷ []))
unfolding begins_expr
repeat_operand d ts h = record {
  begins = λ r. refl;
  runs = λ ps j r clear.
      (let brace = token.Mark mark.LeftBrace in
      let close : List TokenKind = token.Mark mark.RightBrace ∷ token.Mark mark.RightBrace ∷ [] in
      let i = h.runs (Some d) ps j r in
      let paid : counted_marks (brace ∷ token.Decimal d ∷ brace ∷ (ts ++ close)) + j ≡ suc (suc (counted_marks ts + j)) =
      (let a = yes brace (token.Decimal d ∷ brace ∷ (ts ++ close)) refl in let o = other (token.Decimal d) (brace ∷ (ts ++ close)) refl in let c = yes brace (ts ++ close) refl in
      let b = counted_join ts close in let z : counted_marks close ≡ 0 = refl in omega arith) in (
        i.0,
        ps,
        refl,
        ap (λ (n : ℕ). from_wanted n ps (brace ∷ token.Decimal d ∷ brace ∷ ((ts ++ close) ++ r))) paid
            ∙ ap (λ (us : List TokenKind). from_wanted (suc (suc (counted_marks ts + j))) ps (brace ∷ token.Decimal d ∷ brace ∷ us)) (append_assoc ts close r)
            ∙ repeat_again d (counted_marks ts + j) ps (ts ++ (close ++ r)) ∙ i.1,
      ));
}

first : (ts us vs : List TokenKind) (t : TokenKind) → ts ≡ us ++ vs → us ≡ t ∷ [] → ts ≡ t ∷ vs
first ts us vs t e f = e ∙ ap (λ (x : List TokenKind). x ++ vs) f

then_is : (t : TokenKind) (us vs : List TokenKind) → us ≡ vs → t ∷ us ≡ t ∷ vs
then_is t us vs e = ap (λ (ws : List TokenKind). t ∷ ws) e

primary_operand : (ts : List TokenKind) (a : Unit {0}) → (primary goal).sentence ts a → Operand ts
unfolding goal
primary_operand ts a h = elim h [
  | inl x ↦ as_operand ts _ (first ts x.0 x.1 (token.Sized x.2) x.3 x.4 ∙ then_is (token.Sized x.2) x.1 [] x.5.0) (const_operand x.2)
  | inr (inl x) ↦ as_operand ts _ (first ts x.0 x.1 (token.Word x.2) x.3 x.4 ∙ then_is (token.Word x.2) x.1 [] x.5.0) (name_operand x.2)
  | inr (inr (inl x)) ↦ (let y = x.5 in let z = y.5 in
      as_operand ts _ (first ts x.0 x.1 (token.Word x.2) x.3 x.4 ∙ then_is (token.Word x.2) x.1 _ (first x.1 y.0 y.1 (token.Mark mark.LeftBracket) y.3 y.4 ∙ then_is (token.Mark mark.LeftBracket) y.1 _
      (first y.1 z.0 z.1 (token.Decimal z.2) z.3 z.4 ∙ then_is (token.Decimal z.2) z.1 (token.Mark mark.RightBracket ∷ []) z.5))) (bit_operand x.2 z.2))
  | inr (inr (inr (inl x))) ↦ (let y = x.5 in let z = y.5 in let u = z.5 in let v = u.5 in
      as_operand ts _ (first ts x.0 x.1 (token.Word x.2) x.3 x.4 ∙ then_is (token.Word x.2) x.1 _ (first x.1 y.0 y.1 (token.Mark mark.LeftBracket) y.3 y.4 ∙ then_is (token.Mark mark.LeftBracket) y.1 _
      (first y.1 z.0 z.1 (token.Decimal z.2) z.3 z.4 ∙ then_is (token.Decimal z.2) z.1 _ (first z.1 u.0 u.1 (token.Mark mark.Colon) u.3 u.4 ∙ then_is (token.Mark mark.Colon) u.1 _
      (first u.1 v.0 v.1 (token.Decimal v.2) v.3 v.4 ∙ then_is (token.Decimal v.2) v.1 (token.Mark mark.RightBracket ∷ []) v.5))))) (part_operand x.2 z.2 v.2))
  | inr (inr (inr (inr (inl x)))) ↦ (let y = x.5 in
      as_operand ts _ (first ts x.0 x.1 (token.Mark mark.LeftParen) x.3 x.4 ∙ then_is (token.Mark mark.LeftParen) x.1 (y.0 ++ token.Mark mark.RightParen ∷ []) (y.3 ∙ ap (λ (us : List TokenKind). y.0 ++ us) y.5)) (paren_operand y.0 y.4))
  | inr (inr (inr (inr (inr (inl x))))) ↦ (let y = x.5 in
      as_operand ts _ (first ts x.0 x.1 (token.Mark mark.LeftBrace) x.3 x.4 ∙ then_is (token.Mark mark.LeftBrace) x.1 (y.0 ++ token.Mark mark.RightBrace ∷ []) (y.3 ∙ ap (λ (us : List TokenKind). y.0 ++ us) y.5)) (concat_operand y.0 (listed y.2 y.0 y.4)))
  | inr (inr (inr (inr (inr (inr x))))) ↦ (let y = x.5 in let z = y.5 in let u = z.5 in let v = u.5 in
      as_operand ts _ (first ts x.0 x.1 (token.Mark mark.LeftBrace) x.3 x.4 ∙ then_is (token.Mark mark.LeftBrace) x.1 _ (first x.1 y.0 y.1 (token.Decimal y.2) y.3 y.4 ∙ then_is (token.Decimal y.2) y.1 _
      (first y.1 z.0 z.1 (token.Mark mark.LeftBrace) z.3 z.4 ∙ then_is (token.Mark mark.LeftBrace) z.1 (u.0 ++ token.Mark mark.RightBrace ∷ token.Mark mark.RightBrace ∷ [])
      (u.3 ∙ ap (λ (us : List TokenKind). u.0 ++ us) (first u.1 v.0 v.1 (token.Mark mark.RightBrace) v.3 v.4 ∙ then_is (token.Mark mark.RightBrace) v.1 (token.Mark mark.RightBrace ∷ []) v.5))))) (repeat_operand y.2 u.0 (listed u.2 u.0 u.4)))
]

-- ---- what stands behind a primary

operated_over : (m : Mark) (o : BinOp) (x : Expr) (n : ℕ) (ps : List Pending) (ts : List TokenKind) → binary_of m ≡ Some o
    → from_found x (suc n) ps (token.Mark m ∷ ts) ≡ from_wanted n (Left o (reduce (strength_of o) x ps).0 ∷ (reduce (strength_of o) x ps).1) ts
unfolding step_at operate_at wait_at counted_at
operated_over m o x n ps ts e =
    let r = reduce (strength_of o) x ps in
    goes (Found x (waiting (suc n) ps)) (token.Mark m ∷ ts) (Wanted (waiting n (Left o r.0 ∷ r.1))) ts (follow_operator m o x (waiting (suc n) ps) ts e)

chosen_over : (x : Expr) (n : ℕ) (ps : List Pending) (ts : List TokenKind) → from_found x (suc n) ps (token.Mark mark.Question ∷ ts) ≡ from_wanted n (Choice (reduce 2 x ps).0 ∷ (reduce 2 x ps).1) ts
unfolding step_at follow_at choose_at wait_at counted_at
chosen_over x n ps ts = let r = reduce 2 x ps in goes (Found x (waiting (suc n) ps)) (token.Mark mark.Question ∷ ts) (Wanted (waiting n (Choice r.0 ∷ r.1))) ts refl

colon_over : (c x : Expr) (n : ℕ) (qs ps : List Pending) (ts : List TokenKind) → base qs ≡ Choice c ∷ ps → from_found x n qs (token.Mark mark.Colon ∷ ts) ≡ from_wanted n (Otherwise c (reduce 1 x qs).0 ∷ ps) ts
unfolding step_at follow_at operate_at close_at otherwise_at
colon_over c x n qs ps ts e = goes (Found x (waiting n qs)) (token.Mark mark.Colon ∷ ts) (Wanted (waiting n (Otherwise c (reduce 1 x qs).0 ∷ ps))) ts (settles x n qs (Choice c ∷ ps) (token.Mark mark.Colon ∷ ts) e)

-- from an operand over the tokens behind it
abbrev Behind : List TokenKind → Type 0
Behind ts = (x : Expr) (ps : List Pending) (j : ℕ) (r : List TokenKind) → Clear r → (y : Expr) × (qs : List Pending) × (base qs ≡ base ps) × (from_found x (counted_marks ts + j) ps (ts ++ r) ≡ from_found y j qs r)

nothing_over : Behind []
nothing_over x ps j r clear = (x, ps, refl, ap (λ (n : ℕ). from_found x n ps r) (let z : counted_marks [] ≡ 0 = refl in omega arith))

binary_over : (m : Mark) (o : BinOp) (ts : List TokenKind) → binary_of m ≡ Some o → Operand ts → Behind (token.Mark m ∷ ts)
binary_over m o ts e h x ps j r clear =
    let two = least o in
    let low : 1 ≤ strength_of o = omega arith in
    let a = reduce (strength_of o) x ps in
    let i = h.runs (Left o a.0 ∷ a.1) j r clear in
    let paid : counted_marks (token.Mark m ∷ ts) + j ≡ suc (counted_marks ts + j) = (let s = yes (token.Mark m) ts (counted_binary m o e) in omega arith) in (
      i.0,
      i.1,
      i.2 ∙ base_past (Left o a.0) a.1 low ∙ reduce_base (strength_of o) x ps low,
      ap (λ (n : ℕ). from_found x n ps (token.Mark m ∷ (ts ++ r))) paid ∙ operated_over m o x (counted_marks ts + j) ps (ts ++ r) e ∙ i.3,
    )

choice_over : (us vs : List TokenKind) → Operand us → Operand vs → Behind (token.Mark mark.Question ∷ (us ++ token.Mark mark.Colon ∷ vs))
choice_over us vs g h x ps j r clear =
    let colon = token.Mark mark.Colon in
    let q = token.Mark mark.Question in
    let rest = us ++ colon ∷ vs in
    let a = reduce 2 x ps in
    let n = counted_marks vs + j in
    let i = g.runs (Choice a.0 ∷ a.1) n (colon ∷ (vs ++ r)) tt in
    let y = (reduce 1 i.0 i.1).0 in
    let k = h.runs (Otherwise a.0 y ∷ a.1) j r clear in
    let paid : counted_marks (q ∷ rest) + j ≡ suc (counted_marks us + n) = (let s = yes q rest refl in let t = counted_join us (colon ∷ vs) in let o = other colon vs refl in omega arith) in (
      k.0,
      k.1,
      k.2 ∙ reduce_base 2 x ps (omega arith),
      ap (λ (m : ℕ). from_found x m ps (q ∷ (rest ++ r))) paid
          ∙ chosen_over x (counted_marks us + n) ps (rest ++ r)
          ∙ ap (from_wanted (counted_marks us + n) (Choice a.0 ∷ a.1)) (append_assoc us (colon ∷ vs) r)
          ∙ i.3 ∙ colon_over a.0 i.0 n i.1 a.1 (vs ++ r) i.2 ∙ k.3,
    )

record Tail (ts : List TokenKind) : Type 0 where
  clear : (r : List TokenKind) → Clear r → Clear (ts ++ r)
  over : Behind ts

clear_binary : (m : Mark) (o : BinOp) (ts : List TokenKind) → binary_of m ≡ Some o → Clear (token.Mark m ∷ ts)
clear_binary mark.LeftBracket o ts e = absurd cc
clear_binary m o ts e = tt

as_tail : (ts us : List TokenKind) → ts ≡ us → Tail us → Tail ts
as_tail ts us e h = let P : List TokenKind → Type 0 = λ vs. Tail vs in subst P (sym e) h

tail : (o : Option (Unit {0})) (ts : List TokenKind) → (tail_rule goal).sentence ts o → Tail ts
unfolding goal
tail None ts h = as_tail ts [] h (record { clear = λ r c. c; over = nothing_over })
tail (Some a) ts h = elim h [
  | inl x ↦ (let m = x.4 in as_tail ts _ (first ts x.0 x.1 (token.Mark m.0) x.3 m.3) (record { clear = λ r c. clear_binary m.0 m.1 (x.1 ++ r) m.2; over = binary_over m.0 m.1 x.1 m.2 x.5 }))
  | inr x ↦ (let y = x.5 in let z = y.5 in
      as_tail ts _ (first ts x.0 x.1 (token.Mark mark.Question) x.3 x.4 ∙ then_is (token.Mark mark.Question) x.1 (y.0 ++ token.Mark mark.Colon ∷ z.1) (y.3 ∙ ap (λ (us : List TokenKind). y.0 ++ us) (first y.1 z.0 z.1 (token.Mark mark.Colon) z.3 z.4)))
      (record { clear = λ r c. tt; over = choice_over y.0 z.1 y.4 z.5 }))
]

-- ---- whole shapes

tail_operand : (us vs : List TokenKind) → Operand us → Tail vs → Operand (us ++ vs)
tail_operand us vs h t = record {
  begins = λ r. ap begins_expr (append_assoc us vs r) ∙ h.begins (vs ++ r);
  runs = λ ps j r clear.
      (let n = counted_marks vs + j in
      let i = h.runs ps n (vs ++ r) (t.clear r clear) in
      let k = t.over i.0 i.1 j r clear in
      (k.0, k.1, k.2 ∙ i.2, ap (λ (m : ℕ). from_wanted m ps ((us ++ vs) ++ r)) (let s = counted_join us vs in omega arith) ∙ ap (from_wanted (counted_marks us + n) ps) (append_assoc us vs r) ∙ i.3 ∙ k.3));
}

prefix_operand : (m : Mark) (o : UnOp) (ts : List TokenKind) → unary_of m ≡ Some o → Operand ts → Operand (token.Mark m ∷ ts)
unfolding begins_expr
prefix_operand m o ts e h = record {
  begins = λ r. unary_begins m o e;
  runs = λ ps j r clear.
      (let i = h.runs (Operator o ∷ ps) j r clear in
      let paid : counted_marks (token.Mark m ∷ ts) + j ≡ suc (counted_marks ts + j) = (let s = yes (token.Mark m) ts (counted_unary m o e) in omega arith) in
      (i.0, i.1, i.2, ap (λ (n : ℕ). from_wanted n ps (token.Mark m ∷ (ts ++ r))) paid ∙ unary_again m o (counted_marks ts + j) ps (ts ++ r) e ∙ i.3));
}

prefixes_operand : (past : List (Unit {0})) (us ts : List TokenKind) → AreMany (operator unary_of) us past → Operand ts → Operand (us ++ ts)
prefixes_operand [] us ts h x = as_operand (us ++ ts) ts (ap (λ (vs : List TokenKind). vs ++ ts) h) x
prefixes_operand (a ∷ past) us ts h x =
    let m = h.3 in
    as_operand (us ++ ts) (token.Mark m.0 ∷ (h.1 ++ ts)) (ap (λ (vs : List TokenKind). vs ++ ts) (first us h.0 h.1 (token.Mark m.0) h.2 m.3)) (prefix_operand m.0 m.1 (h.1 ++ ts) m.2 (prefixes_operand past h.1 ts h.4 x))

body_operand : (ts : List TokenKind) (a : Unit {0}) → (body goal).sentence ts a → Operand ts
body_operand ts a h =
    let p = h.5 in
    let t = p.5 in
    let end : p.1 ≡ t.0 = t.3 ∙ ap (λ (us : List TokenKind). t.0 ++ us) t.5.0 ∙ append-nil t.0 in
    let rest = as_operand h.1 (p.0 ++ t.0) (p.3 ∙ ap (λ (us : List TokenKind). p.0 ++ us) end) (tail_operand p.0 t.0 (primary_operand p.0 p.2 p.4) (tail t.2 t.0 t.4)) in
    as_operand ts (h.0 ++ h.1) h.3 (prefixes_operand h.2 h.0 h.1 h.4 rest)

live_goal : Live goal
unfolding goal
live_goal = record { some = (token.Word [] ∷ [], tt, name_operand []); goes_on = λ ts h. (h.0, tt, h.1) }

shape_operand : (n : ℕ) → Sub (shape n) goal
unfolding goal
shape_operand zero = sub_nothing goal
shape_operand (suc n) =
    let s = sub_body (shape n) goal (shape_operand n) in
    record {
      sentence = λ ts a h. body_operand ts a (s.sentence ts a h);
      front = λ ts h. (let z = (live_body goal live_goal).goes_on ts (s.front ts h) in (z.0, body_operand (ts ++ z.0) z.1 z.2));
    }

-- an expression with a `;` behind it is read
operand_read : (ts : List TokenKind) (j : ℕ) → Operand ts → (x : Expr) × (expr_at (counted_marks ts + j) (ts ++ token.Mark mark.Semicolon ∷ []) ≡ read x (token.Mark mark.Semicolon ∷ []))
unfolding expr_at step_at follow_at operate_at close_at
operand_read ts j h =
    let end : List TokenKind = token.Mark mark.Semicolon ∷ [] in
    let i = h.runs [] j end tt in
    ((reduce 1 i.0 i.1).0, i.3 ∙ reads_by (Found i.0 (waiting j i.1)) end (read (Whole (reduce 1 i.0 i.1).0) end) (settles i.0 j i.1 [] end i.2))

-- Where no sentence goes on, the token makes no front of an expression, whatever stands behind it.
pub expr_stuck : (k : ℕ) (us : List TokenKind) (t : TokenKind) (rest : List TokenKind) → expr_at k (us ++ t ∷ rest) ≡ stopped (Syntax (suc (length rest))) → expr.front (us ++ t ∷ []) → ⊥
unfolding goal
expr_stuck k us t rest is front =
    let g = (shape_operand front.0).front (us ++ t ∷ []) front.1 in
    let zs = g.0 in
    let whole = (us ++ t ∷ []) ++ zs in
    let end : List TokenKind = token.Mark mark.Semicolon ∷ [] in
    let m = counted_marks whole + k in
    let one = operand_read whole k g.1 in
    let two = stops_alike k m us t rest (zs ++ end) (omega arith) is in
    let same : whole ++ end ≡ us ++ t ∷ (zs ++ end) = ap (λ (ws : List TokenKind). ws ++ end) (append_assoc us (t ∷ []) zs) ∙ append_assoc us (t ∷ zs) end in
    clash one.0 end (suc (length (zs ++ end))) (sym one.1 ∙ ap (expr_at m) same ∙ two)
  where
    clash : (x : Expr) (left : List TokenKind) (n : ℕ) → read x left ≡ stopped (Syntax n) → ⊥
    clash x left n e = cc
