-- Where reading stops: what stands before is a front of an expression.
use Rattle.std.proofs.Common.{◌≡◌, ℕ, zero, suc, ◌<◌, ◌≤◌, true, List, [], ◌∷◌, ◌++◌, length, Option, Some, None, refl, sym, ap, subst, ◌∙◌, inl, inr, append_assoc, arith}
use Rattle.std.proofs.lemmas.List.{append-nil}
use Rattle.eq_vlex.specs.declared.mark.Mark.{Mark}
use Rattle.eq_vlex.specs.declared.mark.Mark.TheVariants as mark
use Rattle.eq_vlex.specs.declared.token.TokenKind.{TokenKind}
use Rattle.eq_vlex.specs.declared.token.TokenKind.TheVariants as token
use Rattle.eq_vparse.specs.declared.stop.Stop.{Stop}
use Rattle.eq_vparse.specs.declared.stop.Stop.TheVariants.{Syntax, TooDeep, Memory}
use Rattle.eq_vparse.specs.declared.tree.UnOp.{UnOp}
use Rattle.eq_vparse.specs.declared.tree.BinOp.{BinOp}
use Rattle.eq_vparse.specs.declared.tree.Expr.{Expr}
use Rattle.eq_vparse.specs.declared.pending.Pending.{Pending}
use Rattle.eq_vparse.specs.declared.pending.Pending.TheVariants.{Group, Operator, Left, Choice, Otherwise, Parts, Repeated}
use Rattle.eq_vparse.specs.declared.machine.Waiting.{Waiting}
use Rattle.eq_vparse.specs.declared.machine.State.{State}
use Rattle.eq_vparse.specs.declared.machine.State.TheVariants.{Wanted, Found}
use Rattle.eq_vparse.specs.declared.machine.Step.{Step}
use Rattle.eq_vparse.specs.declared.machine.Step.TheVariants.{More, Whole}
use Rattle.eq_vparse.specs.Operators.{unary_of, binary_of, strength_of}
use Rattle.eq_vparse.specs.Rules.{limited}
use Rattle.eq_vparse.specs.Phrases.{tokens_of, all_tokens_of, expr, is_counted, counted_marks}
use Rattle.eq_vparse.specs.Pendings.{reduce}
use Rattle.eq_vparse.specs.Reading.{Reading, read, stopped, next, decimal_at}
use Rattle.eq_vparse.specs.Looping.{loop, turned, iterate}
use Rattle.eq_vparse.specs.Machine.{waiting, wanted, found, range_at, select_at, selected_at, counted_at, wait_at, repeat_at, brace_at, begin_unary, begin_mark, begin_at, group_at, otherwise_at, parts_at, repeated_end, repeated_at, close_at, settle_at, choose_at, operate_at, follow_at, step_at, turn_of, turn_at, expr_at}
use Rattle.eq_vparse.proofs.Again.{counted_join, counted_unary, counted_binary}
use Rattle.eq_vparse.proofs.Shapes.{flat}
use Rattle.eq_vparse.proofs.Sound.{Has, Paid, Holds, Good, reduces, weaker, adds, in_braces, paid_mark, step_good}
use Rattle.eq_vparse.proofs.Progress.{step_shorter}
use Rattle.eq_vparse.proofs.Fronts.{primary_front, empty_front, unary_front, binary_tail, choice_tail, group_front, part_front, braces_front, repeat_front, repeat_end_front, waits_front, has_front, nothing_behind}

-- Where reading stops at no fault of depth: what stands before the place.
abbrev AtSyntax : ℕ → List TokenKind → List TokenKind → ℕ → Type 0
AtSyntax k front ts n = (us : List TokenKind) × (vs : List TokenKind) × (ts ≡ us ++ vs) × (length vs ≡ n) × flat.front (front ++ us) × (counted_marks (front ++ us) ≤ k)

-- Where it stops at a fault of depth: the mark that is one too many, which goes on with what stands before.
abbrev AtDepth : ℕ → List TokenKind → List TokenKind → ℕ → Type 0
AtDepth k front ts n =
    (us : List TokenKind) × (t : TokenKind) × (vs : List TokenKind) × (ts ≡ us ++ t ∷ vs) × (suc (length vs) ≡ n) × flat.front (front ++ (us ++ t ∷ [])) × (counted_marks (front ++ us) ≡ k) × (is_counted t ≡ true)

abbrev AtStop : ℕ → List TokenKind → List TokenKind → Stop → Type 0
AtStop k front ts (Syntax n) = AtSyntax k front ts n
AtStop k front ts (TooDeep n) = AtDepth k front ts n
AtStop k front ts Memory = Unit {0}

abbrev Stopped : {A : Type 0} → ℕ → List TokenKind → List TokenKind → Reading A → Type 0
Stopped k front ts (read a left) = Unit {0}
Stopped k front ts (stopped e) = AtStop k front ts e

plain : (front : List TokenKind) → flat.front front → flat.front (front ++ [])
plain front h = let P : List TokenKind → Type 0 = λ us. flat.front us in subst P (sym (append-nil front)) h

-- ---- operands

-- what stops behind a name
abbrev StopsName : List ℕ → List TokenKind → Reading Expr → Type 0
StopsName n ts (stopped (Syntax m)) = (us : List TokenKind) × (vs : List TokenKind) × (ts ≡ us ++ vs) × (length vs ≡ m) × flat.front (token.Word n ∷ us) × (counted_marks (token.Word n ∷ us) ≡ 0)
StopsName n ts (stopped (TooDeep m)) = ⊥
StopsName n ts _ = Unit {0}

bracket_front : (n : List ℕ) → flat.front (token.Word n ∷ token.Mark mark.LeftBracket ∷ [])
bracket_front n = primary_front _ (inr (inr (inl (inr (token.Word n ∷ [], _, n, refl, refl, inr (token.Mark mark.LeftBracket ∷ [], [], tt, refl, refl, inl (inl refl)))))))

index_front : (n : List ℕ) (d : ℕ) → flat.front (token.Word n ∷ token.Mark mark.LeftBracket ∷ token.Decimal d ∷ [])
index_front n d =
    primary_front _ (inr (inr (inl (inr (token.Word n ∷ [], _, n, refl, refl, inr (token.Mark mark.LeftBracket ∷ [], _, tt, refl, refl, inr (token.Decimal d ∷ [], [], d, refl, refl, inl refl)))))))

colon_front : (n : List ℕ) (d : ℕ) → flat.front (token.Word n ∷ token.Mark mark.LeftBracket ∷ token.Decimal d ∷ token.Mark mark.Colon ∷ [])
colon_front n d =
    primary_front _ (inr (inr (inr (inl (inr (
      token.Word n ∷ [],
      _,
      n,
      refl,
      refl,
      inr (
        token.Mark mark.LeftBracket ∷ [],
        _,
        tt,
        refl,
        refl,
        inr (
          token.Decimal d ∷ [],
          _,
          d,
          refl,
          refl,
          inr (token.Mark mark.Colon ∷ [], [], tt, refl, refl, inl (inl refl)),
        ),
      ),
    ))))))

range_front : (n : List ℕ) (d e : ℕ) → flat.front (token.Word n ∷ token.Mark mark.LeftBracket ∷ token.Decimal d ∷ token.Mark mark.Colon ∷ token.Decimal e ∷ [])
range_front n d e =
    primary_front _ (inr (inr (inr (inl (inr (
      token.Word n ∷ [],
      _,
      n,
      refl,
      refl,
      inr (
        token.Mark mark.LeftBracket ∷ [],
        _,
        tt,
        refl,
        refl,
        inr (
          token.Decimal d ∷ [],
          _,
          d,
          refl,
          refl,
          inr (token.Mark mark.Colon ∷ [], _, tt, refl, refl, inr (token.Decimal e ∷ [], [], e, refl, refl, inl refl)),
        ),
      ),
    ))))))

selects : (n : List ℕ) (ts : List TokenKind) → StopsName n ts (selected_at n ts)
unfolding selected_at select_at range_at decimal_at
selects n (token.Mark mark.LeftBracket ∷ token.Decimal d ∷ token.Mark mark.RightBracket ∷ r) = tt
selects n (token.Mark mark.LeftBracket ∷ token.Decimal d ∷ token.Mark mark.Colon ∷ token.Decimal e ∷ token.Mark mark.RightBracket ∷ r) = tt
selects n (token.Mark mark.LeftBracket ∷ token.Decimal d ∷ token.Mark mark.Colon ∷ token.Decimal e ∷ ts) =
    (token.Mark mark.LeftBracket ∷ token.Decimal d ∷ token.Mark mark.Colon ∷ token.Decimal e ∷ [], ts, refl, refl, range_front n d e, refl)
selects n (token.Mark mark.LeftBracket ∷ token.Decimal d ∷ token.Mark mark.Colon ∷ ts) = (token.Mark mark.LeftBracket ∷ token.Decimal d ∷ token.Mark mark.Colon ∷ [], ts, refl, refl, colon_front n d, refl)
selects n (token.Mark mark.LeftBracket ∷ token.Decimal d ∷ ts) = (token.Mark mark.LeftBracket ∷ token.Decimal d ∷ [], ts, refl, refl, index_front n d, refl)
selects n (token.Mark mark.LeftBracket ∷ ts) = (token.Mark mark.LeftBracket ∷ [], ts, refl, refl, bracket_front n, refl)
selects n _ = tt

module _ (k : ℕ) (front : List TokenKind) where
  wrong_stops : (room : ℕ) (ts : List TokenKind) → flat.front front → Paid k front room → AtSyntax k front ts (length ts)
  wrong_stops room ts h paid = ([], ts, refl, refl, plain front h, (let e = ap counted_marks (append-nil front) in omega arith))

  wait_stops : (p : Pending) (w : Waiting) (t : TokenKind) (ts : List TokenKind) → is_counted t ≡ true → flat.front (front ++ t ∷ []) → Paid k front w.room → Stopped k front (t ∷ ts) (wait_at p w (t ∷ ts))
  unfolding wait_at counted_at
  wait_stops p w t ts is h paid = waits w.room paid
    where
      waits : (room : ℕ) → Paid k front room → Stopped k front (t ∷ ts) (next (counted_at room (t ∷ ts)) (λ room. read (wanted room (p ∷ w.stack))))
      waits zero paid = ([], t, ts, refl, refl, h, ap counted_marks (append-nil front) ∙ omega arith, is)
      waits (suc room) paid = tt

  -- an expression may stand behind what waits
  module _ (opens : (us : List TokenKind) → flat.front us → flat.front (front ++ us)) where
    here : flat.front front
    here = let P : List TokenKind → Type 0 = λ us. flat.front us in subst P (append-nil front) (opens [] empty_front)

    name_stops : (w : Waiting) (n : List ℕ) (ts : List TokenKind) (p : Reading Expr) → Paid k front w.room → StopsName n ts p → Stopped k front (token.Word n ∷ ts) (next p (λ x. read (found x w.room w.stack)))
    name_stops w n ts (read x left) paid h = tt
    name_stops w n ts (stopped (Syntax m)) paid h = (token.Word n ∷ h.0, h.1, ap (λ (us : List TokenKind). token.Word n ∷ us) h.2, h.3, opens (token.Word n ∷ h.0) h.4, (let j = counted_join front (token.Word n ∷ h.0) in let z = h.5 in omega arith))
    name_stops w n ts (stopped (TooDeep m)) paid h = absurd h
    name_stops w n ts (stopped Memory) paid h = tt

    unary_stops : (o : Option UnOp) (m : Mark) (w : Waiting) (ts : List TokenKind) → unary_of m ≡ o → Paid k front w.room → Stopped k front (token.Mark m ∷ ts) (begin_unary o w (token.Mark m ∷ ts))
    unfolding begin_unary
    unary_stops None m w ts e paid = wrong_stops w.room (token.Mark m ∷ ts) here paid
    unary_stops (Some o) m w ts e paid = wait_stops (Operator o) w (token.Mark m) ts (counted_unary m o e) (opens (token.Mark m ∷ []) (unary_front m o [] e empty_front)) paid

    times_front : (n : ℕ) → flat.front (token.Mark mark.LeftBrace ∷ token.Decimal n ∷ [])
    times_front n = primary_front _ (inr (inr (inr (inr (inr (inr (inr (token.Mark mark.LeftBrace ∷ [], _, tt, refl, refl, inr (token.Decimal n ∷ [], [], n, refl, refl, inl (inl refl))))))))))

    brace_paid : (n room : ℕ) → Paid k (front ++ token.Mark mark.LeftBrace ∷ []) room → counted_marks (front ++ token.Mark mark.LeftBrace ∷ token.Decimal n ∷ []) ≤ k
    brace_paid n room paid =
        let brace = token.Mark mark.LeftBrace in
        (let a = counted_join front (brace ∷ token.Decimal n ∷ []) in let b = counted_join front (brace ∷ []) in let c : counted_marks (brace ∷ token.Decimal n ∷ []) ≡ 1 = refl in let d : counted_marks (brace ∷ []) ≡ 1 = refl in omega arith)

    repeat_stops : (n room : ℕ) (ps : List Pending) (ts : List TokenKind) → Paid k (front ++ token.Mark mark.LeftBrace ∷ []) room
        → Stopped k front (token.Mark mark.LeftBrace ∷ token.Decimal n ∷ ts) (repeat_at n (waiting room ps) ts)
    unfolding repeat_at wait_at counted_at
    repeat_stops n zero ps (token.Mark mark.LeftBrace ∷ ts) paid =
        let brace = token.Mark mark.LeftBrace in (
          brace ∷ token.Decimal n ∷ [],
          brace,
          ts,
          refl,
          refl,
          opens (brace ∷ token.Decimal n ∷ brace ∷ []) (repeat_front n [] (part_front [] empty_front)),
          (let a = counted_join front (brace ∷ token.Decimal n ∷ []) in let b = counted_join front (brace ∷ []) in let c : counted_marks (brace ∷ token.Decimal n ∷ []) ≡ 1 = refl in let d : counted_marks (brace ∷ []) ≡ 1 = refl in omega arith),
          refl,
        )
    repeat_stops n (suc room) ps (token.Mark mark.LeftBrace ∷ ts) paid = tt
    repeat_stops n room ps ts paid = (token.Mark mark.LeftBrace ∷ token.Decimal n ∷ [], ts, refl, refl, opens (token.Mark mark.LeftBrace ∷ token.Decimal n ∷ []) (times_front n), brace_paid n room paid)

    brace_stops : (room : ℕ) (ps : List Pending) (ts : List TokenKind) → Paid k (front ++ token.Mark mark.LeftBrace ∷ []) room → Stopped k front (token.Mark mark.LeftBrace ∷ ts) (brace_at (waiting room ps) ts)
    unfolding brace_at
    brace_stops room ps (token.Decimal n ∷ ts) paid = repeat_stops n room ps ts paid
    brace_stops room ps _ paid = tt

    mark_stops : (m : Mark) (w : Waiting) (ts : List TokenKind) → Paid k front w.room → Stopped k front (token.Mark m ∷ ts) (begin_mark m w (token.Mark m ∷ ts))
    unfolding begin_mark counted_at
    mark_stops mark.LeftParen w ts paid = wait_stops Group w (token.Mark mark.LeftParen) ts refl (opens (token.Mark mark.LeftParen ∷ []) (group_front [] empty_front)) paid
    mark_stops mark.LeftBrace w ts paid = braces w.room paid
      where
        brace : TokenKind
        brace = token.Mark mark.LeftBrace

        braces : (room : ℕ) → Paid k front room → Stopped k front (token.Mark mark.LeftBrace ∷ ts) (next (counted_at room (token.Mark mark.LeftBrace ∷ ts)) (λ room. brace_at (waiting room w.stack)))
        braces zero paid = ([], token.Mark mark.LeftBrace, ts, refl, refl, opens (token.Mark mark.LeftBrace ∷ []) (braces_front [] (part_front [] empty_front)), ap counted_marks (append-nil front) ∙ omega arith, refl)
        braces (suc room) paid = brace_stops room w.stack ts (paid_mark k front (token.Mark mark.LeftBrace) room refl paid)
    mark_stops m w ts paid = unary_stops (unary_of m) m w ts refl paid

    begin_stops : (w : Waiting) (ts : List TokenKind) → Paid k front w.room → Stopped k front ts (begin_at w ts)
    unfolding begin_at
    begin_stops w (token.Word n ∷ ts) paid = name_stops w n ts (selected_at n ts) paid (selects n ts)
    begin_stops w (token.Sized c ∷ ts) paid = tt
    begin_stops w (token.Mark m ∷ ts) paid = mark_stops m w ts paid
    begin_stops w ts paid = wrong_stops w.room ts here paid

  -- ---- behind an operand

  -- where what was found is a front, reading stops at what doesn't go on
  found_stops : (x : Expr) (room j : ℕ) (ps : List Pending) (ts : List TokenKind) → Has ps x front j → Paid k front room → AtSyntax k front ts (length ts)
  found_stops x room j ps ts h paid = ([], ts, refl, refl, has_front ps x front j [] h nothing_behind, (let e = ap counted_marks (append-nil front) in omega arith))

  repeated_stops : (n : ℕ) (es : List Expr) (x : Expr) (room : ℕ) (ps : List Pending) (ts : List TokenKind) → Has (Repeated n es ∷ ps) x front 1 → Paid k front room
      → Stopped k front ts (repeated_at n (es ++ x ∷ []) (waiting room ps) ts)
  unfolding repeated_at repeated_end
  repeated_stops n es x room ps (token.Mark mark.Comma ∷ ts) h paid = tt
  repeated_stops n es x room ps (token.Mark mark.RightBrace ∷ token.Mark mark.RightBrace ∷ ts) h paid = tt
  repeated_stops n es x room ps (token.Mark mark.RightBrace ∷ ts) h paid =
      let w = h.waits in
      let a = adds w.2 es w.1 x h.phrase w.4 h.grouping h.tree in
      let close : List TokenKind = token.Mark mark.RightBrace ∷ [] in
      let open_ = token.Mark mark.LeftBrace in
      let opens : List TokenKind = open_ ∷ token.Decimal n ∷ open_ ∷ [] in
      let parts : front ++ close ≡ w.0 ++ (opens ++ (all_tokens_of a.0 ++ close)) = in_braces front w.0 opens w.1 h.phrase a.0 close (h.parts ∙ ap (λ (f : List TokenKind). f ++ tokens_of h.phrase) w.5) a.3 in
      let P : List TokenKind → Type 0 = λ us. flat.front us in (
        close,
        ts,
        refl,
        refl,
        subst P (sym parts) (waits_front ps w.0 (opens ++ (all_tokens_of a.0 ++ close)) w.3 (repeat_end_front n a.0 a.1)),
        (let j = counted_join front close in let z : counted_marks close ≡ 0 = refl in omega arith),
      )
  repeated_stops n es x room ps ts h paid = found_stops x room 1 (Repeated n es ∷ ps) ts h paid

  group_stops : (x : Expr) (room : ℕ) (ps : List Pending) (ts : List TokenKind) → Has (Group ∷ ps) x front 1 → Paid k front room → Stopped k front ts (group_at x (waiting room ps) ts)
  unfolding group_at
  group_stops x room ps (token.Mark mark.RightParen ∷ ts) h paid = tt
  group_stops x room ps ts h paid = found_stops x room 1 (Group ∷ ps) ts h paid

  otherwise_stops : (c x : Expr) (room : ℕ) (ps : List Pending) (ts : List TokenKind) → Has (Choice c ∷ ps) x front 1 → Paid k front room → Stopped k front ts (otherwise_at c x (waiting room ps) ts)
  unfolding otherwise_at
  otherwise_stops c x room ps (token.Mark mark.Colon ∷ ts) h paid = tt
  otherwise_stops c x room ps ts h paid = found_stops x room 1 (Choice c ∷ ps) ts h paid

  parts_stops : (es : List Expr) (x : Expr) (room : ℕ) (ps : List Pending) (ts : List TokenKind) → Has (Parts es ∷ ps) x front 1 → Paid k front room → Stopped k front ts (parts_at (es ++ x ∷ []) (waiting room ps) ts)
  unfolding parts_at
  parts_stops es x room ps (token.Mark mark.Comma ∷ ts) h paid = tt
  parts_stops es x room ps (token.Mark mark.RightBrace ∷ ts) h paid = tt
  parts_stops es x room ps ts h paid = found_stops x room 1 (Parts es ∷ ps) ts h paid

  close_stops : (x : Expr) (room : ℕ) (ps : List Pending) (ts : List TokenKind) → Has ps x front 1 → Paid k front room → Stopped k front ts (close_at x room ps ts)
  unfolding close_at
  close_stops x room [] ts h paid = tt
  close_stops x room (Group ∷ ps) ts h paid = group_stops x room ps ts h paid
  close_stops x room (Operator o ∷ ps) ts h paid = found_stops x room 1 (Operator o ∷ ps) ts h paid
  close_stops x room (Left o a ∷ ps) ts h paid = found_stops x room 1 (Left o a ∷ ps) ts h paid
  close_stops x room (Choice c ∷ ps) ts h paid = otherwise_stops c x room ps ts h paid
  close_stops x room (Otherwise c a ∷ ps) ts h paid = found_stops x room 1 (Otherwise c a ∷ ps) ts h paid
  close_stops x room (Parts es ∷ ps) ts h paid = parts_stops es x room ps ts h paid
  close_stops x room (Repeated n es ∷ ps) ts h paid = repeated_stops n es x room ps ts h paid

  settle_stops : (x : Expr) (w : Waiting) (ts : List TokenKind) → Has w.stack x front 11 → Paid k front w.room → Stopped k front ts (settle_at x w ts)
  unfolding settle_at
  settle_stops x w ts h paid =
      let r = reduces 1 x w.stack front (omega arith) (omega arith) (weaker w.stack x front 1 (omega arith) h) in
      close_stops (reduce 1 x w.stack).0 w.room (reduce 1 x w.stack).1 ts r.0 paid

  operate_stops : (o : Option BinOp) (m : Mark) (x : Expr) (w : Waiting) (ts : List TokenKind) → binary_of m ≡ o → Has w.stack x front 11 → Paid k front w.room
      → Stopped k front (token.Mark m ∷ ts) (operate_at o x w (token.Mark m ∷ ts))
  unfolding operate_at
  operate_stops None m x w ts e h paid = settle_stops x w (token.Mark m ∷ ts) h paid
  operate_stops (Some o) m x w ts e h paid =
      let r = reduce (strength_of o) x w.stack in
      wait_stops (Left o r.0) (waiting w.room r.1) (token.Mark m) ts (counted_binary m o e) (has_front w.stack x front 11 (token.Mark m ∷ []) h (binary_tail m o [] e empty_front)) paid

  follow_stops : (x : Expr) (w : Waiting) (ts : List TokenKind) → Has w.stack x front 11 → Paid k front w.room → Stopped k front ts (follow_at x w ts)
  unfolding follow_at choose_at
  follow_stops x w (token.Mark mark.Question ∷ ts) h paid =
      let r = reduce 2 x w.stack in
      wait_stops (Choice r.0) (waiting w.room r.1) (token.Mark mark.Question) ts refl (has_front w.stack x front 11 (token.Mark mark.Question ∷ []) h (choice_tail [] empty_front)) paid
  follow_stops x w (token.Mark m ∷ ts) h paid = operate_stops (binary_of m) m x w ts refl h paid
  follow_stops x w ts h paid = settle_stops x w ts h paid

  step_stops : (s : State) (ts : List TokenKind) → Holds k s front → Stopped k front ts (step_at s ts)
  unfolding step_at
  step_stops (Wanted w) ts h = begin_stops (λ us f. waits_front w.stack front us h.0 f) w ts h.1
  step_stops (Found x w) ts h = follow_stops x w ts h.0 h.1

-- ---- all steps

module _ (k : ℕ) where
  -- the same place, seen from further on
  later : (front us left ts : List TokenKind) (e : Stop) → ts ≡ us ++ left → AtStop k (front ++ us) left e → AtStop k front ts e
  later front us left ts (Syntax n) is h =
      let P : List TokenKind → Type 0 = λ ws. flat.front ws × (counted_marks ws ≤ k) in
      let both = subst P (append_assoc front us h.0) (h.4, h.5) in
      (us ++ h.0, h.1, is ∙ ap (λ (ws : List TokenKind). us ++ ws) h.2 ∙ sym (append_assoc us h.0 h.1), h.3, both.0, both.1)
  later front us left ts (TooDeep n) is h =
      let P : List TokenKind → Type 0 = λ ws. flat.front ws in
      let Q : List TokenKind → Type 0 = λ ws. counted_marks ws ≡ k in (
        us ++ h.0,
        h.1,
        h.2,
        is ∙ ap (λ (ws : List TokenKind). us ++ ws) h.3 ∙ sym (append_assoc us h.0 (h.1 ∷ h.2)),
        h.4,
        subst P (append_assoc front us (h.0 ++ h.1 ∷ []) ∙ ap (λ (ws : List TokenKind). front ++ ws) (sym (append_assoc us h.0 (h.1 ∷ [])))) h.5,
        subst Q (append_assoc front us h.0) h.6,
        h.7,
      )
  later front us left ts Memory is h = tt

  stops_on : (n : ℕ) (ts front : List TokenKind) (e : Stop) (p : Reading Step) → Good k front ts p → Stopped k front ts p → turned (turn_of p) (iterate n turn_at) ≡ stopped e
      → ((s : State) (left more : List TokenKind) → p ≡ read (More s) left → Holds k s more → iterate n turn_at s left ≡ stopped e → AtStop k more left e) → AtStop k front ts e
  stops_on n ts front e (read (More s) left) g h is further = later front g.0 left ts e g.1 (further s left (front ++ g.0) refl g.2 is)
  stops_on n ts front e (read (Whole x) left) g h is further = absurd cc
  stops_on n ts front e (stopped d) g h is further = let P : Stop → Type 0 = λ c. AtStop k front ts c in subst P (ap stop is) h
    where
      stop : Reading Expr → Stop
      stop (read y us) = Memory
      stop (stopped b) = b

  stops : (n : ℕ) (s : State) (ts front : List TokenKind) (e : Stop) → length ts < n → Holds k s front → iterate n turn_at s ts ≡ stopped e → AtStop k front ts e
  stops zero s ts front e few h is = absurd (omega arith)
  stops (suc n) s ts front e few h is =
      stops_on n ts front e (step_at s ts) (step_good k s ts front h) (step_stops k front s ts h) is
      (λ s' left more stepped held it. (let shorter = step_shorter s ts s' left stepped in stops n s' left more e (omega arith) held it))

expr_at_stops : (k : ℕ) (ts : List TokenKind) (e : Stop) → expr_at k ts ≡ stopped e → AtStop k [] ts e
unfolding expr_at loop
expr_at_stops k ts e is = stops k (suc (length ts)) (Wanted (waiting k [])) ts [] e (omega arith) (refl, (let z : counted_marks [] ≡ 0 = refl in omega arith)) is

-- where no sentence goes on, what stands before is a front of an expression
pub expr_stops : (k : ℕ) (ts : List TokenKind) (n : ℕ) → expr_at k ts ≡ stopped (Syntax n) → (us : List TokenKind) × (vs : List TokenKind) × (ts ≡ us ++ vs) × (length vs ≡ n) × (limited counted_marks k expr).front us
expr_stops k ts n is = let h = expr_at_stops k ts (Syntax n) is in (h.0, h.1, h.2, h.3, (h.4, h.5))

-- the mark that is one too many: as many as may be stand before it, and it is no fault of the grammar
pub expr_deep : (k : ℕ) (ts : List TokenKind) (n : ℕ) → expr_at k ts ≡ stopped (TooDeep n)
    → (us : List TokenKind) × (t : TokenKind) × (vs : List TokenKind) × (ts ≡ us ++ t ∷ vs) × (suc (length vs) ≡ n) × expr.front (us ++ t ∷ []) × (counted_marks us ≡ k) × (is_counted t ≡ true)
expr_deep k ts n is = expr_at_stops k ts (TooDeep n) is
