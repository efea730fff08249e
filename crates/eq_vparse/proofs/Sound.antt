-- What is read as an expression is an expression: what waits and what was found keep the phrases that they came from.
use Rattle.std.proofs.Common.{◌≡◌, ℕ, zero, suc, ◌+◌, ◌<◌, ◌≤◌, true, false, leb, List, [], ◌∷◌, ◌++◌, length, Option, Some, None, refl, sym, ap, subst, ◌∙◌, inl, inr, append_assoc, arith}
use Rattle.std.proofs.lemmas.Bool.{leb-true, le-leb, cases_Bool}
use Rattle.std.proofs.lemmas.Bool.Decides.{nat_tests}
use Rattle.std.proofs.lemmas.List.{append-nil}
use Rattle.eq_vlex.specs.declared.mark.Mark.{Mark}
use Rattle.eq_vlex.specs.declared.mark.Mark.TheVariants as mark
use Rattle.eq_vlex.specs.declared.token.TokenKind.{TokenKind}
use Rattle.eq_vlex.specs.declared.token.TokenKind.TheVariants as token
use Rattle.eq_vparse.specs.declared.tree.UnOp.{UnOp}
use Rattle.eq_vparse.specs.declared.tree.BinOp.{BinOp}
use Rattle.eq_vparse.specs.declared.tree.Expr.{Expr}
use Rattle.eq_vparse.specs.declared.tree.Expr.TheViews.{Concat, Repeat, Unary, Binary, Cond}
use Rattle.eq_vparse.specs.declared.pending.Pending.{Pending}
use Rattle.eq_vparse.specs.declared.pending.Pending.TheVariants.{Group, Operator, Left, Choice, Otherwise, Parts, Repeated}
use Rattle.eq_vparse.specs.declared.machine.Waiting.{Waiting}
use Rattle.eq_vparse.specs.declared.machine.State.{State}
use Rattle.eq_vparse.specs.declared.machine.State.TheVariants.{Wanted, Found}
use Rattle.eq_vparse.specs.declared.machine.Step.{Step}
use Rattle.eq_vparse.specs.declared.machine.Step.TheVariants.{More, Whole}
use Rattle.eq_vparse.specs.Operators.{unary_of, binary_of, strength_of}
use Rattle.eq_vparse.specs.Phrases.{Phrase, const, net, bit, part, grouped, concat, repeat, unary, binary, cond as cond_phrase, Phrases, last, before as first, tokens_of, all_tokens_of, strength, IsGrouped, AreGrouped, tree_of, trees_of, expr, is_counted, counted_marks}
use Rattle.eq_vparse.specs.Rules.{limited}
use Rattle.eq_vparse.specs.Pendings.{reduce}
use Rattle.eq_vparse.specs.Reading.{Reading, read, stopped, next, decimal_at}
use Rattle.eq_vparse.specs.Looping.{loop, turned, iterate}
use Rattle.eq_vparse.specs.Machine.{waiting, wanted, found, range_at, select_at, selected_at, counted_at, wait_at, repeat_at, brace_at, begin_unary, begin_mark, begin_at, group_at, otherwise_at, parts_at, repeated_end, repeated_at, close_at, settle_at, choose_at, operate_at, follow_at, step_at, turn_of, turn_at, expr_at}
use Rattle.eq_vparse.proofs.Again.{Room, room_up, Low, least, most, leb-false, counted_join, counted_unary, counted_binary, yes, other}

-- ---- what the state stands for

-- the parts so far, each with a comma behind it
abbrev pub PartsOf : Option Phrases → List Expr → List TokenKind → Type 0
PartsOf None es body = (es ≡ []) × (body ≡ [])
PartsOf (Some qs) es body = AreGrouped qs × (es ≡ trees_of qs) × (body ≡ all_tokens_of qs ++ token.Mark mark.Comma ∷ [])

-- the tokens of what waits
abbrev pub Waits : List Pending → List TokenKind → Type 0
Waits [] front = front ≡ []
Waits (Group ∷ ps) front = (f : List TokenKind) × Waits ps f × (front ≡ f ++ token.Mark mark.LeftParen ∷ [])
Waits (Operator o ∷ ps) front = (f : List TokenKind) × (m : Mark) × Waits ps f × (unary_of m ≡ Some o) × (front ≡ f ++ token.Mark m ∷ [])
Waits (Left o a ∷ ps) front =
    (f : List TokenKind) × (m : Mark) × (p : Phrase) × Waits ps f × (binary_of m ≡ Some o) × IsGrouped p × (a ≡ tree_of p) × (strength_of o ≤ strength p) × Room ps (strength_of o)
    × (front ≡ f ++ (tokens_of p ++ token.Mark m ∷ []))
Waits (Choice c ∷ ps) front =
    (f : List TokenKind) × (p : Phrase) × Waits ps f × IsGrouped p × (c ≡ tree_of p) × (2 ≤ strength p) × Room ps 1 × (front ≡ f ++ (tokens_of p ++ token.Mark mark.Question ∷ []))
Waits (Otherwise c a ∷ ps) front =
    (f : List TokenKind) × (p : Phrase) × (q : Phrase) × Waits ps f × IsGrouped p × IsGrouped q × (c ≡ tree_of p) × (a ≡ tree_of q) × (2 ≤ strength p) × Room ps 1
    × (front ≡ f ++ (tokens_of p ++ token.Mark mark.Question ∷ (tokens_of q ++ token.Mark mark.Colon ∷ [])))
Waits (Parts es ∷ ps) front = (f : List TokenKind) × (body : List TokenKind) × (qs : Option Phrases) × Waits ps f × PartsOf qs es body × (front ≡ f ++ token.Mark mark.LeftBrace ∷ body)
Waits (Repeated n es ∷ ps) front =
    (f : List TokenKind) × (body : List TokenKind) × (qs : Option Phrases) × Waits ps f × PartsOf qs es body
    × (front ≡ f ++ token.Mark mark.LeftBrace ∷ token.Decimal n ∷ token.Mark mark.LeftBrace ∷ body)

-- the tokens of what waits and of an operand that binds so strongly
pub record Has (ps : List Pending) (x : Expr) (front : List TokenKind) (k : ℕ) : Type 0 where
  pub phrase : Phrase
  pub before : List TokenKind
  pub waits : Waits ps before
  pub grouping : IsGrouped phrase
  pub tree : x ≡ tree_of phrase
  pub strong : k ≤ strength phrase
  pub room : Room ps (strength phrase)
  pub parts : front ≡ before ++ tokens_of phrase

-- so many counted marks are those of the front and those that may still be taken
abbrev pub Paid : ℕ → List TokenKind → ℕ → Type 0
Paid k front room = counted_marks front + room ≡ k

abbrev pub Holds : ℕ → State → List TokenKind → Type 0
Holds k (Wanted w) front = Waits w.stack front × Paid k front w.room
Holds k (Found x w) front = Has w.stack x front 11 × Paid k front w.room

abbrev Sentence : ℕ → List TokenKind → Expr → Type 0
Sentence k us e = (limited counted_marks k expr).sentence us e

-- what a step says, where these tokens stand before it and these from it on
abbrev pub Good : ℕ → List TokenKind → List TokenKind → Reading Step → Type 0
Good k front ts (read (More s) left) = (us : List TokenKind) × (ts ≡ us ++ left) × Holds k s (front ++ us)
Good k front ts (read (Whole x) left) = (ts ≡ left) × Sentence k front x
Good k front ts (stopped e) = Unit {0}

room_all : (ps : List Pending) → Room ps 11
room_all (Operator o ∷ ps) = omega arith
room_all (Left o a ∷ ps) = omega (arith, most o)
room_all _ = tt

low_room : (ps : List Pending) (level : ℕ) → level ≤ 10 → Low level ps → Room ps level
low_room (Operator o ∷ ps) level high h = absurd (omega arith)
low_room (Left o a ∷ ps) level high h = h
low_room _ level high h = tt

low_choice : (ps : List Pending) → Low 2 ps → Room ps 1
low_choice (Operator o ∷ ps) h = absurd (omega arith)
low_choice (Left o a ∷ ps) h = absurd (omega (arith, least o))
low_choice _ h = tt

-- ---- marks that are paid for

paid_free : (k : ℕ) (front : List TokenKind) (t : TokenKind) (room : ℕ) → is_counted t ≡ false → Paid k front room → Paid k (front ++ t ∷ []) room
paid_free k front t room e paid = (let j = counted_join front (t ∷ []) in let n = other t [] e in let z : counted_marks [] ≡ 0 = refl in omega arith)

pub paid_mark : (k : ℕ) (front : List TokenKind) (t : TokenKind) (room : ℕ) → is_counted t ≡ true → Paid k front (suc room) → Paid k (front ++ t ∷ []) room
paid_mark k front t room e paid = (let j = counted_join front (t ∷ []) in let n = yes t [] e in let z : counted_marks [] ≡ 0 = refl in omega arith)

-- ---- what takes an operand

below : (a b : ℕ) → leb a b ≡ false → b < a
below a b e = grind (arith, nat_tests)

pub weaker : (ps : List Pending) (x : Expr) (front : List TokenKind) (k : ℕ) → k ≤ 11 → Has ps x front 11 → Has ps x front k
weaker ps x front k le h = record { phrase = h.phrase; before = h.before; waits = h.waits; grouping = h.grouping; tree = h.tree; strong = omega (arith, h.strong); room = h.room; parts = h.parts }

pub reduces : (level : ℕ) (x : Expr) (ps : List Pending) (front : List TokenKind) → 1 ≤ level → level ≤ 11 → Has ps x front level
    → Has (reduce level x ps).1 (reduce level x ps).0 front level × Low level (reduce level x ps).1
reduces level x [] front lo hi h = (h, tt)
reduces level x (Group ∷ ps) front lo hi h = rw (leb-false level 0 lo) (h, lo)
reduces level x (Operator o ∷ ps) front lo hi h =
    let w = h.waits in
    rw (le-leb level 11 hi) (reduces level (Unary o x) ps front lo hi (record {
      phrase = unary w.1 o h.phrase;
      before = w.0;
      waits = w.2;
      grouping = (w.3, h.grouping, h.room);
      tree = ap (Unary o) h.tree;
      strong = hi;
      room = room_all ps;
      parts = h.parts ∙ ap (λ (f : List TokenKind). f ++ tokens_of h.phrase) w.4 ∙ append_assoc w.0 (token.Mark w.1 ∷ []) (tokens_of h.phrase);
    }))
reduces level x (Left o a ∷ ps) front lo hi h =
    elim (cases_Bool (leb level (strength_of o))) [
      | inl e ↦
          let w = h.waits in
          let regroup : (w.0 ++ (tokens_of w.2 ++ token.Mark w.1 ∷ [])) ++ tokens_of h.phrase ≡ w.0 ++ (tokens_of w.2 ++ token.Mark w.1 ∷ tokens_of h.phrase) =
          append_assoc w.0 (tokens_of w.2 ++ token.Mark w.1 ∷ []) (tokens_of h.phrase) ∙ ap (λ (f : List TokenKind). w.0 ++ f) (append_assoc (tokens_of w.2) (token.Mark w.1 ∷ []) (tokens_of h.phrase)) in
          rw e (reduces level (Binary o a x) ps front lo hi (record {
            phrase = binary w.1 o w.2 h.phrase;
            before = w.0;
            waits = w.3;
            grouping = (w.4, w.5, h.grouping, w.7, omega (arith, h.room));
            tree = ap (λ (y : Expr). Binary o y x) w.6 ∙ ap (Binary o (tree_of w.2)) h.tree;
            strong = leb-true level (strength_of o) e;
            room = w.8;
            parts = h.parts ∙ ap (λ (f : List TokenKind). f ++ tokens_of h.phrase) w.9 ∙ regroup;
          }))
      | inr e ↦ rw e (h, below level (strength_of o) e)
    ]
reduces level x (Choice c ∷ ps) front lo hi h = rw (leb-false level 0 lo) (h, lo)
reduces level x (Otherwise c a ∷ ps) front lo hi h =
    elim (cases_Bool (leb level 1)) [
      | inl e ↦
          let w = h.waits in
          let q = token.Mark mark.Question in
          let colon = token.Mark mark.Colon in
          let regroup : (w.0 ++ (tokens_of w.1 ++ q ∷ (tokens_of w.2 ++ colon ∷ []))) ++ tokens_of h.phrase ≡ w.0 ++ (tokens_of w.1 ++ q ∷ (tokens_of w.2 ++ colon ∷ tokens_of h.phrase)) =
          append_assoc w.0 (tokens_of w.1 ++ q ∷ (tokens_of w.2 ++ colon ∷ [])) (tokens_of h.phrase)
          ∙ ap (λ (f : List TokenKind). w.0 ++ f) (append_assoc (tokens_of w.1) (q ∷ (tokens_of w.2 ++ colon ∷ [])) (tokens_of h.phrase))
          ∙ ap (λ (f : List TokenKind). w.0 ++ (tokens_of w.1 ++ q ∷ f)) (append_assoc (tokens_of w.2) (colon ∷ []) (tokens_of h.phrase)) in
          rw e (reduces level (Cond c a x) ps front lo hi (record {
            phrase = cond_phrase w.1 w.2 h.phrase;
            before = w.0;
            waits = w.3;
            grouping = (w.4, w.5, h.grouping, w.8);
            tree = ap (λ (y : Expr). Cond y a x) w.6 ∙ ap (λ (y : Expr). Cond (tree_of w.1) y x) w.7 ∙ ap (Cond (tree_of w.1) (tree_of w.2)) h.tree;
            strong = leb-true level 1 e;
            room = w.9;
            parts = h.parts ∙ ap (λ (f : List TokenKind). f ++ tokens_of h.phrase) w.10 ∙ regroup;
          }))
      | inr e ↦ rw e (h, below level 1 e)
    ]
reduces level x (Parts es ∷ ps) front lo hi h = rw (leb-false level 0 lo) (h, lo)
reduces level x (Repeated n es ∷ ps) front lo hi h = rw (leb-false level 0 lo) (h, lo)

-- ---- parts

-- one part more at the end
snoc : Phrases → Phrase → Phrases
snoc (last p) q = first p (last q)
snoc (first p qs) q = first p (snoc qs q)

snoc_tokens : (qs : Phrases) (q : Phrase) → all_tokens_of (snoc qs q) ≡ all_tokens_of qs ++ token.Mark mark.Comma ∷ tokens_of q
unfolding snoc
snoc_tokens (last p) q = refl
snoc_tokens (first p qs) q =
    ap (λ (ts : List TokenKind). tokens_of p ++ token.Mark mark.Comma ∷ ts) (snoc_tokens qs q) ∙ sym (append_assoc (tokens_of p) (token.Mark mark.Comma ∷ all_tokens_of qs) (token.Mark mark.Comma ∷ tokens_of q))

snoc_trees : (qs : Phrases) (q : Phrase) → trees_of (snoc qs q) ≡ trees_of qs ++ tree_of q ∷ []
unfolding snoc
snoc_trees (last p) q = refl
snoc_trees (first p qs) q = ap (λ (es : List Expr). tree_of p ∷ es) (snoc_trees qs q)

snoc_grouped : (qs : Phrases) (q : Phrase) → AreGrouped qs → IsGrouped q → AreGrouped (snoc qs q)
unfolding snoc
snoc_grouped (last p) q h g = (h, g)
snoc_grouped (first p qs) q h g = (h.0, snoc_grouped qs q h.1 g)

-- the parts with one more at their end
pub adds : (o : Option Phrases) (es : List Expr) (body : List TokenKind) (x : Expr) (p : Phrase) → PartsOf o es body → IsGrouped p → x ≡ tree_of p
    → (qs : Phrases) × AreGrouped qs × (es ++ x ∷ [] ≡ trees_of qs) × (body ++ tokens_of p ≡ all_tokens_of qs)
adds None es body x p h g is = (last p, g, ap (λ (ys : List Expr). ys ++ x ∷ []) h.0 ∙ ap (λ (y : Expr). y ∷ []) is, ap (λ (us : List TokenKind). us ++ tokens_of p) h.1)
adds (Some qs) es body x p h g is = (
  snoc qs p,
  snoc_grouped qs p h.0 g,
  ap (λ (ys : List Expr). ys ++ x ∷ []) h.1 ∙ ap (λ (y : Expr). trees_of qs ++ y ∷ []) is ∙ sym (snoc_trees qs p),
  ap (λ (us : List TokenKind). us ++ tokens_of p) h.2 ∙ append_assoc (all_tokens_of qs) (token.Mark mark.Comma ∷ []) (tokens_of p) ∙ sym (snoc_tokens qs p),
)

pub in_braces : (front before opens body : List TokenKind) (p : Phrase) (qs : Phrases) (behind : List TokenKind) → front ≡ (before ++ (opens ++ body)) ++ tokens_of p → body ++ tokens_of p ≡ all_tokens_of qs
    → front ++ behind ≡ before ++ (opens ++ (all_tokens_of qs ++ behind))
in_braces front before opens body p qs behind parts all =
    ap (λ (f : List TokenKind). f ++ behind) (parts ∙ append_assoc before (opens ++ body) (tokens_of p) ∙ ap (λ (f : List TokenKind). before ++ f) (append_assoc opens body (tokens_of p) ∙ ap (λ (f : List TokenKind). opens ++ f) all))
    ∙ append_assoc before (opens ++ all_tokens_of qs) behind
    ∙ ap (λ (f : List TokenKind). before ++ f) (append_assoc opens (all_tokens_of qs) behind)

-- ---- operands

-- what is read behind a name
abbrev IsOperand : List ℕ → List TokenKind → Reading Expr → Type 0
IsOperand n ts (read x left) = (us : List TokenKind) × (p : Phrase) × (ts ≡ us ++ left) × IsGrouped p × (x ≡ tree_of p) × (token.Word n ∷ us ≡ tokens_of p) × (11 ≤ strength p) × (counted_marks (tokens_of p) ≡ 0)
IsOperand n ts (stopped e) = Unit {0}

selects : (n : List ℕ) (ts : List TokenKind) → IsOperand n ts (selected_at n ts)
unfolding selected_at select_at range_at decimal_at
selects n (token.Mark mark.LeftBracket ∷ token.Decimal d ∷ token.Mark mark.RightBracket ∷ r) =
    (token.Mark mark.LeftBracket ∷ token.Decimal d ∷ token.Mark mark.RightBracket ∷ [], bit n d, refl, tt, refl, refl, omega arith, refl)
selects n (token.Mark mark.LeftBracket ∷ token.Decimal d ∷ token.Mark mark.Colon ∷ token.Decimal e ∷ token.Mark mark.RightBracket ∷ r) =
    (token.Mark mark.LeftBracket ∷ token.Decimal d ∷ token.Mark mark.Colon ∷ token.Decimal e ∷ token.Mark mark.RightBracket ∷ [], part n d e, refl, tt, refl, refl, omega arith, refl)
selects n (token.Mark mark.LeftBracket ∷ _) = tt
selects n _ = ([], net n, refl, tt, refl, refl, omega arith, refl)

module _ (k : ℕ) where
  operand_good : (w : Waiting) (n : List ℕ) (ts front : List TokenKind) → Waits w.stack front → Paid k front w.room → (p : Reading Expr) → IsOperand n ts p
      → Good k front (token.Word n ∷ ts) (next p (λ x. read (found x w.room w.stack)))
  operand_good w n ts front h paid (read x left) g = (
    token.Word n ∷ g.0,
    ap (λ (us : List TokenKind). token.Word n ∷ us) g.2,
    (
      record {
        phrase = g.1;
        before = front;
        waits = h;
        grouping = g.3;
        tree = g.4;
        strong = g.6;
        room = room_up w.stack 11 (strength g.1) g.6 (room_all w.stack);
        parts = ap (λ (us : List TokenKind). front ++ us) g.5;
      },
      (let j = counted_join front (token.Word n ∷ g.0) in let e = ap counted_marks g.5 in let z = g.7 in omega arith),
    ),
  )
  operand_good w n ts front h paid (stopped e) g = tt

  wait_good : (p : Pending) (w : Waiting) (t : TokenKind) (ts front : List TokenKind) → is_counted t ≡ true → Waits (p ∷ w.stack) (front ++ t ∷ []) → Paid k front w.room
      → Good k front (t ∷ ts) (wait_at p w (t ∷ ts))
  unfolding wait_at counted_at
  wait_good p w t ts front is h paid = waits w.room paid
    where
      waits : (room : ℕ) → Paid k front room → Good k front (t ∷ ts) (next (counted_at room (t ∷ ts)) (λ room. read (wanted room (p ∷ w.stack))))
      waits zero paid = tt
      waits (suc room) paid = (t ∷ [], refl, (h, paid_mark k front t room is paid))

  unary_good : (o : Option UnOp) (m : Mark) (w : Waiting) (ts front : List TokenKind) → unary_of m ≡ o → Waits w.stack front → Paid k front w.room
      → Good k front (token.Mark m ∷ ts) (begin_unary o w (token.Mark m ∷ ts))
  unfolding begin_unary
  unary_good None m w ts front e h paid = tt
  unary_good (Some o) m w ts front e h paid = wait_good (Operator o) w (token.Mark m) ts front (counted_unary m o e) (front, m, h, e, refl) paid

  repeat_good : (n room : ℕ) (ps : List Pending) (ts front : List TokenKind) → Waits ps front → Paid k (front ++ token.Mark mark.LeftBrace ∷ []) room
      → Good k front (token.Mark mark.LeftBrace ∷ token.Decimal n ∷ ts) (repeat_at n (waiting room ps) ts)
  unfolding repeat_at wait_at counted_at
  repeat_good n zero ps (token.Mark mark.LeftBrace ∷ ts) front h paid = tt
  repeat_good n (suc room) ps (token.Mark mark.LeftBrace ∷ ts) front h paid =
      let brace = token.Mark mark.LeftBrace in
      let all = brace ∷ token.Decimal n ∷ brace ∷ [] in
      (all, refl, ((front, [], None, h, (refl, refl), refl), (let a = counted_join front all in let b = counted_join front (brace ∷ []) in let c : counted_marks all ≡ 2 = refl in let d : counted_marks (brace ∷ []) ≡ 1 = refl in omega arith)))
  repeat_good n room ps _ front h paid = tt

  brace_good : (room : ℕ) (ps : List Pending) (ts front : List TokenKind) → Waits ps front → Paid k (front ++ token.Mark mark.LeftBrace ∷ []) room
      → Good k front (token.Mark mark.LeftBrace ∷ ts) (brace_at (waiting room ps) ts)
  unfolding brace_at
  brace_good room ps (token.Decimal n ∷ ts) front h paid = repeat_good n room ps ts front h paid
  brace_good room ps ts front h paid = (token.Mark mark.LeftBrace ∷ [], refl, ((front, [], None, h, (refl, refl), refl), paid))

  mark_good : (m : Mark) (w : Waiting) (ts front : List TokenKind) → Waits w.stack front → Paid k front w.room → Good k front (token.Mark m ∷ ts) (begin_mark m w (token.Mark m ∷ ts))
  unfolding begin_mark counted_at
  mark_good mark.LeftParen w ts front h paid = wait_good Group w (token.Mark mark.LeftParen) ts front refl (front, h, refl) paid
  mark_good mark.LeftBrace w ts front h paid = braces w.room paid
    where
      braces : (room : ℕ) → Paid k front room → Good k front (token.Mark mark.LeftBrace ∷ ts) (next (counted_at room (token.Mark mark.LeftBrace ∷ ts)) (λ room. brace_at (waiting room w.stack)))
      braces zero paid = tt
      braces (suc room) paid = brace_good room w.stack ts front h (paid_mark k front (token.Mark mark.LeftBrace) room refl paid)
  mark_good m w ts front h paid = unary_good (unary_of m) m w ts front refl h paid

  begin_good : (w : Waiting) (ts front : List TokenKind) → Waits w.stack front → Paid k front w.room → Good k front ts (begin_at w ts)
  unfolding begin_at
  begin_good w (token.Word n ∷ ts) front h paid = operand_good w n ts front h paid (selected_at n ts) (selects n ts)
  begin_good w (token.Sized c ∷ ts) front h paid =
      (token.Sized c ∷ [], refl, (record { phrase = const c; before = front; waits = h; grouping = tt; tree = refl; strong = omega arith; room = room_all w.stack; parts = refl }, paid_free k front (token.Sized c) w.room refl paid))
  begin_good w (token.Mark m ∷ ts) front h paid = mark_good m w ts front h paid
  begin_good w _ front h paid = tt

  -- ---- behind an operand

  -- an operand in parentheses or braces is whole
  enclosed : (x : Expr) (room : ℕ) (ps : List Pending) (t : TokenKind) (ts before front : List TokenKind) (p : Phrase) → is_counted t ≡ false → Waits ps before → IsGrouped p → x ≡ tree_of p → 11 ≤ strength p
      → front ++ t ∷ [] ≡ before ++ tokens_of p → Paid k front room → Good k front (t ∷ ts) (read (found x room ps) ts)
  enclosed x room ps t ts before front p free h grouping tree strong parts paid =
      (t ∷ [], refl, (record { phrase = p; before = before; waits = h; grouping = grouping; tree = tree; strong = strong; room = room_up ps 11 (strength p) strong (room_all ps); parts = parts }, paid_free k front t room free paid))

  group_good : (x : Expr) (room : ℕ) (ps : List Pending) (ts front : List TokenKind) → Has (Group ∷ ps) x front 1 → Paid k front room → Good k front ts (group_at x (waiting room ps) ts)
  unfolding group_at
  group_good x room ps (token.Mark mark.RightParen ∷ ts) front h paid =
      let w = h.waits in
      let close = token.Mark mark.RightParen in
      let parts : front ++ close ∷ [] ≡ w.0 ++ token.Mark mark.LeftParen ∷ (tokens_of h.phrase ++ close ∷ []) =
      ap (λ (f : List TokenKind). f ++ close ∷ []) (h.parts ∙ ap (λ (f : List TokenKind). f ++ tokens_of h.phrase) w.2)
      ∙ append_assoc (w.0 ++ token.Mark mark.LeftParen ∷ []) (tokens_of h.phrase) (close ∷ [])
      ∙ append_assoc w.0 (token.Mark mark.LeftParen ∷ []) (tokens_of h.phrase ++ close ∷ []) in
      enclosed x room ps close ts w.0 front (grouped h.phrase) refl w.1 h.grouping h.tree (omega arith) parts paid
  group_good x room ps _ front h paid = tt

  otherwise_good : (c x : Expr) (room : ℕ) (ps : List Pending) (ts front : List TokenKind) → Has (Choice c ∷ ps) x front 1 → Paid k front room → Good k front ts (otherwise_at c x (waiting room ps) ts)
  unfolding otherwise_at
  otherwise_good c x room ps (token.Mark mark.Colon ∷ ts) front h paid =
      let w = h.waits in
      let colon = token.Mark mark.Colon in
      let q = token.Mark mark.Question in
      let parts : front ++ colon ∷ [] ≡ w.0 ++ (tokens_of w.1 ++ q ∷ (tokens_of h.phrase ++ colon ∷ [])) =
      ap (λ (f : List TokenKind). f ++ colon ∷ []) (h.parts ∙ ap (λ (f : List TokenKind). f ++ tokens_of h.phrase) w.7)
      ∙ append_assoc (w.0 ++ (tokens_of w.1 ++ q ∷ [])) (tokens_of h.phrase) (colon ∷ [])
      ∙ append_assoc w.0 (tokens_of w.1 ++ q ∷ []) (tokens_of h.phrase ++ colon ∷ [])
      ∙ ap (λ (f : List TokenKind). w.0 ++ f) (append_assoc (tokens_of w.1) (q ∷ []) (tokens_of h.phrase ++ colon ∷ [])) in
      (colon ∷ [], refl, ((w.0, w.1, h.phrase, w.2, w.3, h.grouping, w.4, h.tree, w.5, w.6, parts), paid_free k front colon room refl paid))
  otherwise_good c x room ps _ front h paid = tt

  parts_good : (es : List Expr) (x : Expr) (room : ℕ) (ps : List Pending) (ts front : List TokenKind) → Has (Parts es ∷ ps) x front 1 → Paid k front room
      → Good k front ts (parts_at (es ++ x ∷ []) (waiting room ps) ts)
  unfolding parts_at
  parts_good es x room ps (token.Mark mark.Comma ∷ ts) front h paid =
      let w = h.waits in
      let a = adds w.2 es w.1 x h.phrase w.4 h.grouping h.tree in
      let comma = token.Mark mark.Comma in
      let open_ = token.Mark mark.LeftBrace in
      let parts : front ++ comma ∷ [] ≡ w.0 ++ open_ ∷ (all_tokens_of a.0 ++ comma ∷ []) = in_braces front w.0 (open_ ∷ []) w.1 h.phrase a.0 (comma ∷ []) (h.parts ∙ ap (λ (f : List TokenKind). f ++ tokens_of h.phrase) w.5) a.3 in
      (comma ∷ [], refl, ((w.0, all_tokens_of a.0 ++ comma ∷ [], Some a.0, w.3, (a.1, a.2, refl), parts), paid_free k front comma room refl paid))
  parts_good es x room ps (token.Mark mark.RightBrace ∷ ts) front h paid =
      let w = h.waits in
      let a = adds w.2 es w.1 x h.phrase w.4 h.grouping h.tree in
      let close = token.Mark mark.RightBrace in
      let open_ = token.Mark mark.LeftBrace in
      let parts : front ++ close ∷ [] ≡ w.0 ++ open_ ∷ (all_tokens_of a.0 ++ close ∷ []) = in_braces front w.0 (open_ ∷ []) w.1 h.phrase a.0 (close ∷ []) (h.parts ∙ ap (λ (f : List TokenKind). f ++ tokens_of h.phrase) w.5) a.3 in
      enclosed (Concat (es ++ x ∷ [])) room ps close ts w.0 front (concat a.0) refl w.3 a.1 (ap Concat a.2) (omega arith) parts paid
  parts_good es x room ps _ front h paid = tt

  repeated_good : (n : ℕ) (es : List Expr) (x : Expr) (room : ℕ) (ps : List Pending) (ts front : List TokenKind) → Has (Repeated n es ∷ ps) x front 1 → Paid k front room
      → Good k front ts (repeated_at n (es ++ x ∷ []) (waiting room ps) ts)
  unfolding repeated_at repeated_end
  repeated_good n es x room ps (token.Mark mark.Comma ∷ ts) front h paid =
      let w = h.waits in
      let a = adds w.2 es w.1 x h.phrase w.4 h.grouping h.tree in
      let comma = token.Mark mark.Comma in
      let open_ = token.Mark mark.LeftBrace in
      let opens : List TokenKind = open_ ∷ token.Decimal n ∷ open_ ∷ [] in
      let parts : front ++ comma ∷ [] ≡ w.0 ++ (opens ++ (all_tokens_of a.0 ++ comma ∷ [])) = in_braces front w.0 opens w.1 h.phrase a.0 (comma ∷ []) (h.parts ∙ ap (λ (f : List TokenKind). f ++ tokens_of h.phrase) w.5) a.3 in
      (comma ∷ [], refl, ((w.0, all_tokens_of a.0 ++ comma ∷ [], Some a.0, w.3, (a.1, a.2, refl), parts), paid_free k front comma room refl paid))
  repeated_good n es x room ps (token.Mark mark.RightBrace ∷ token.Mark mark.RightBrace ∷ ts) front h paid =
      let w = h.waits in
      let a = adds w.2 es w.1 x h.phrase w.4 h.grouping h.tree in
      let close : List TokenKind = token.Mark mark.RightBrace ∷ token.Mark mark.RightBrace ∷ [] in
      let open_ = token.Mark mark.LeftBrace in
      let opens : List TokenKind = open_ ∷ token.Decimal n ∷ open_ ∷ [] in
      let parts : front ++ close ≡ w.0 ++ (opens ++ (all_tokens_of a.0 ++ close)) = in_braces front w.0 opens w.1 h.phrase a.0 close (h.parts ∙ ap (λ (f : List TokenKind). f ++ tokens_of h.phrase) w.5) a.3 in (
        close,
        refl,
        (
          record {
            phrase = repeat n a.0;
            before = w.0;
            waits = w.3;
            grouping = a.1;
            tree = ap (Repeat n) a.2;
            strong = omega arith;
            room = room_all ps;
            parts = parts;
          },
          (let j = counted_join front close in let z : counted_marks close ≡ 0 = refl in omega arith),
        ),
      )
  repeated_good n es x room ps (token.Mark mark.RightBrace ∷ _) front h paid = tt
  repeated_good n es x room ps _ front h paid = tt

  close_good : (x : Expr) (room : ℕ) (ps : List Pending) (ts front : List TokenKind) → Has ps x front 1 → Paid k front room → Good k front ts (close_at x room ps ts)
  unfolding close_at
  close_good x room [] ts front h paid =
      (refl, (record { phrase = h.phrase; grouping = h.grouping; tokens = h.parts ∙ ap (λ (f : List TokenKind). f ++ tokens_of h.phrase) h.waits; tree = h.tree }, omega arith))
  close_good x room (Group ∷ ps) ts front h paid = group_good x room ps ts front h paid
  close_good x room (Operator o ∷ ps) ts front h paid = tt
  close_good x room (Left o a ∷ ps) ts front h paid = tt
  close_good x room (Choice c ∷ ps) ts front h paid = otherwise_good c x room ps ts front h paid
  close_good x room (Otherwise c a ∷ ps) ts front h paid = tt
  close_good x room (Parts es ∷ ps) ts front h paid = parts_good es x room ps ts front h paid
  close_good x room (Repeated n es ∷ ps) ts front h paid = repeated_good n es x room ps ts front h paid

  settle_good : (x : Expr) (w : Waiting) (ts front : List TokenKind) → Has w.stack x front 11 → Paid k front w.room → Good k front ts (settle_at x w ts)
  unfolding settle_at
  settle_good x w ts front h paid =
      let r = reduces 1 x w.stack front (omega arith) (omega arith) (weaker w.stack x front 1 (omega arith) h) in
      close_good (reduce 1 x w.stack).0 w.room (reduce 1 x w.stack).1 ts front r.0 paid

  operate_good : (o : Option BinOp) (m : Mark) (x : Expr) (w : Waiting) (ts front : List TokenKind) → binary_of m ≡ o → Has w.stack x front 11 → Paid k front w.room
      → Good k front (token.Mark m ∷ ts) (operate_at o x w (token.Mark m ∷ ts))
  unfolding operate_at
  operate_good None m x w ts front e h paid = settle_good x w (token.Mark m ∷ ts) front h paid
  operate_good (Some o) m x w ts front e h paid =
      let level = strength_of o in
      let lo : 1 ≤ level = omega (arith, least o) in
      let hi : level ≤ 11 = omega (arith, most o) in
      let r = reduces level x w.stack front lo hi (weaker w.stack x front level hi h) in
      let a = r.0 in
      let parts = ap (λ (f : List TokenKind). f ++ token.Mark m ∷ []) a.parts ∙ append_assoc a.before (tokens_of a.phrase) (token.Mark m ∷ []) in
      wait_good (Left o (reduce level x w.stack).0) (waiting w.room (reduce level x w.stack).1) (token.Mark m) ts front (counted_binary m o e)
      (a.before, m, a.phrase, a.waits, e, a.grouping, a.tree, a.strong, low_room (reduce level x w.stack).1 level (most o) r.1, parts) paid

  choose_good : (x : Expr) (w : Waiting) (ts front : List TokenKind) → Has w.stack x front 11 → Paid k front w.room → Good k front (token.Mark mark.Question ∷ ts) (choose_at x w (token.Mark mark.Question ∷ ts))
  unfolding choose_at
  choose_good x w ts front h paid =
      let r = reduces 2 x w.stack front (omega arith) (omega arith) (weaker w.stack x front 2 (omega arith) h) in
      let a = r.0 in
      let q = token.Mark mark.Question in
      let parts = ap (λ (f : List TokenKind). f ++ q ∷ []) a.parts ∙ append_assoc a.before (tokens_of a.phrase) (q ∷ []) in
      wait_good (Choice (reduce 2 x w.stack).0) (waiting w.room (reduce 2 x w.stack).1) q ts front refl
      (a.before, a.phrase, a.waits, a.grouping, a.tree, a.strong, low_choice (reduce 2 x w.stack).1 r.1, parts) paid

  follow_good : (x : Expr) (w : Waiting) (ts front : List TokenKind) → Has w.stack x front 11 → Paid k front w.room → Good k front ts (follow_at x w ts)
  unfolding follow_at
  follow_good x w (token.Mark mark.Question ∷ ts) front h paid = choose_good x w ts front h paid
  follow_good x w (token.Mark m ∷ ts) front h paid = operate_good (binary_of m) m x w ts front refl h paid
  follow_good x w ts front h paid = settle_good x w ts front h paid

  pub step_good : (s : State) (ts front : List TokenKind) → Holds k s front → Good k front ts (step_at s ts)
  unfolding step_at
  step_good (Wanted w) ts front h = begin_good w ts front h.0 h.1
  step_good (Found x w) ts front h = follow_good x w ts front h.0 h.1

  -- ---- all steps

  abbrev Sounds : List TokenKind → List TokenKind → Expr → List TokenKind → Type 0
  Sounds front ts e r = (us : List TokenKind) × (ts ≡ us ++ r) × Sentence k (front ++ us) e

  goes_on : (n : ℕ) (ts front : List TokenKind) (e : Expr) (r : List TokenKind) (p : Reading Step) → Good k front ts p → turned (turn_of p) (iterate n turn_at) ≡ read e r
      → ((s : State) (left more : List TokenKind) → Holds k s more → iterate n turn_at s left ≡ read e r → Sounds more left e r) → Sounds front ts e r
  goes_on n ts front e r (read (More s) left) g is later =
      let l = later s left (front ++ g.0) g.2 is in
      let P : List TokenKind → Type 0 = λ us. Sentence k us e in
      (g.0 ++ l.0, g.1 ∙ ap (λ (us : List TokenKind). g.0 ++ us) l.1 ∙ sym (append_assoc g.0 l.0 r), subst P (append_assoc front g.0 l.0) l.2)
  goes_on n ts front e r (read (Whole x) left) g is later =
      let P : Expr → Type 0 = λ y. Sentence k (front ++ []) y in
      let Q : List TokenKind → Type 0 = λ us. Sentence k us x in
      ([], g.0 ∙ left_is x left e r is, subst P (tree_is x left e r is) (subst Q (sym (append-nil front)) g.1))
    where
      tree : Reading Expr → Expr → Expr
      tree (read y us) z = y
      tree (stopped s) z = z

      rest : Reading Expr → List TokenKind
      rest (read y us) = us
      rest (stopped s) = []

      left_is : (x : Expr) (left : List TokenKind) (e : Expr) (r : List TokenKind) → read x left ≡ read e r → left ≡ r
      left_is x left e r is = ap rest is

      tree_is : (x : Expr) (left : List TokenKind) (e : Expr) (r : List TokenKind) → read x left ≡ read e r → x ≡ e
      tree_is x left e r is = ap (λ (p : Reading Expr). tree p x) is
  goes_on n ts front e r (stopped s) g is later = absurd cc

  runs : (n : ℕ) (s : State) (ts front : List TokenKind) (e : Expr) (r : List TokenKind) → Holds k s front → iterate n turn_at s ts ≡ read e r → Sounds front ts e r
  runs zero s ts front e r h is = absurd cc
  runs (suc n) s ts front e r h is = goes_on n ts front e r (step_at s ts) (step_good s ts front h) is (λ s left more held it. runs n s left more e r held it)

-- what is read is an expression of at most so many counted marks
pub expr_sound : (k : ℕ) (ts : List TokenKind) (e : Expr) (r : List TokenKind) → expr_at k ts ≡ read e r → (us : List TokenKind) × (ts ≡ us ++ r) × (limited counted_marks k expr).sentence us e
unfolding expr_at loop
expr_sound k ts e r is = runs k (suc (length ts)) (Wanted (waiting k [])) ts [] e r (refl, (let z : counted_marks [] ≡ 0 = refl in omega arith)) is
