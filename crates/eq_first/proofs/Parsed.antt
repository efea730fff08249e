-- The tokens of a phrase are read as what it denotes, and what is read is what a phrase of these tokens denotes.
use Rattle.std.proofs.Common.{◌≡◌, ◌≢◌, ℕ, zero, suc, ◌+◌, ◌<◌, ◌≤◌, Bool, true, false, cond, leb, List, [], ◌∷◌, ◌++◌, get_or, Option, Some, None, refl, sym, ap, subst, ◌∙◌, inl, inr, append_assoc, arith}
use Rattle.std.specs.Prelude.{AllPairs, IsSomeAnd, option_map, slice_get, bytes_eq}
use Rattle.std.proofs.lemmas.Bool.{leb-true, le-leb, cases_Bool}
use Rattle.std.proofs.lemmas.Bool.Decides.{nat_tests}
use Rattle.std.proofs.lemmas.List.{append-nil}
use Rattle.std.proofs.lemmas.Option.{cond_some, same_Some, none-some, get_or_from_slice_get, slice_get_within}
use Rattle.std.proofs.lemmas.Slice.Eq.{bytes_eq-Decides}
use Rattle.eq_first.specs.declared.module.Direction.{Direction}
use Rattle.eq_first.specs.declared.module.Direction.TheVariants.{Input, Output}
use Rattle.eq_first.specs.declared.module.Port.{Port}
use Rattle.eq_first.specs.declared.module.Expr.{Expr}
use Rattle.eq_first.specs.declared.module.Expr.TheVariants.{Port as PortExpr}
use Rattle.eq_first.specs.declared.module.Expr.TheViews.{Not as NotExpr}
use Rattle.eq_first.specs.declared.token.Operator.{Operator}
use Rattle.eq_first.specs.declared.token.Operator.TheVariants as operators
use Rattle.eq_first.specs.declared.token.Mark.TheVariants.{Open, Close, Comma, Semicolon, Equals, Not, And, Xor, Or}
use Rattle.eq_first.specs.declared.expression.Pending.{Pending}
use Rattle.eq_first.specs.declared.expression.Pending.TheVariants as pending
use Rattle.eq_first.specs.Tokens.{Token, word, mark}
use Rattle.eq_first.specs.Phrases.{Phrase, named, grouped, negated, joined, mark_of, tokens_of, strength_of, strength, IsGrouped, IsPortAt, join, Denotes}
use Rattle.eq_first.specs.Lines.{◌>>=◌}
use Rattle.eq_first.specs.Header.{place_from, place_of, is_input, input_of}
use Rattle.eq_first.specs.Machine.{State, binding, applied, reduce, wanted, found, begin_at, operate, closed, close, follow_at, step, step_from, finish, ended, run, whole}
use Rattle.eq_first.proofs.Texts.{bind_some}
use Rattle.eq_first.proofs.Lexed.{chosen}

-- ---- a name's place

-- every earlier port has another name
abbrev pub FirstAt : List Port → ℕ → List ℕ → Type 0
FirstAt ports n name = (i : ℕ) (q : Port) → i < n → slice_get ports i ≡ Some q → q.name ≢ name

place_first : (k n : ℕ) (ports : List Port) (name : List ℕ) (p : Port) → slice_get ports n ≡ Some p → p.name ≡ name → FirstAt ports n name → place_from k ports name ≡ Some (k + n)
place_first k n [] name p at is first = absurd cc
place_first k zero (q ∷ ports) name p at is first =
    let same : q ≡ p = same_Some q p at in
    let like : bytes_eq name q.name ≡ true = (bytes_eq-Decides name q.name).1 (sym (ap (λ (x : Port). x.name) same ∙ is)) in
    rw like (ap Some (omega arith))
place_first k (suc n) (q ∷ ports) name p at is first =
    let other : bytes_eq name q.name ≡ false = unlike (bytes_eq name q.name) (λ e. first 0 q (omega arith) refl (sym ((bytes_eq-Decides name q.name).0 e))) in
    let more = place_first (suc k) n ports name p at is (λ i x lt e. first (suc i) x (omega arith) e) in
    rw other (more ∙ ap Some (omega arith))
  where
    unlike : (b : Bool) → (b ≡ true → ⊥) → b ≡ false
    unlike true h = absurd (h refl)
    unlike false h = refl

place_takes : (k m : ℕ) (ports : List Port) (name : List ℕ) → place_from k ports name ≡ Some m → (n : ℕ) × (p : Port) × (m ≡ k + n) × (slice_get ports n ≡ Some p) × (p.name ≡ name)
place_takes k m [] name e = absurd cc
place_takes k m (q ∷ ports) name e =
    elim (chosen (bytes_eq name q.name) (Some k) (place_from (suc k) ports name) (Some m) e) [
      | inl c ↦ let same = same_Some k m c.1 in (0, q, omega arith, refl, sym ((bytes_eq-Decides name q.name).0 c.0))
      | inr c ↦ let more = place_takes (suc k) m ports name c.1 in let at = more.2 in (suc more.0, more.1, omega arith, more.3, more.4)
    ]

abbrev pub Distinct : List Port → Type 0
Distinct ports = AllPairs (λ p q. p.name ≢ q.name) ports

first_of : (ports : List Port) (n : ℕ) (p : Port) → Distinct ports → slice_get ports n ≡ Some p → FirstAt ports n p.name
first_of ports n p apart at i q lt e =
    let R : Port → Port → Type 0 = λ x y. x.name ≢ y.name in
    let one = apart i n p lt (slice_get_within ports n p at) in
    let left : get_or ports i p ≡ q = get_or_from_slice_get ports i q p e in
    let right : get_or ports n p ≡ p = get_or_from_slice_get ports n p p at in
    let L : Port → Type 0 = λ x. R x (get_or ports n p) in
    let two = subst L left one in
    let K : Port → Type 0 = λ y. R q y in
    subst K right two

-- a port that is there, and what holds of it
pub some_at : (P : Port → Type 0) (o : Option Port) → IsSomeAnd o P → (p : Port) × (o ≡ Some p) × P p
some_at P None h = absurd h
some_at P (Some p) h = (p, refl, h)

pub at_some : (P : Port → Type 0) (o : Option Port) (p : Port) → o ≡ Some p → P p → IsSomeAnd o P
at_some P o p e h = let Q : Option Port → Type 0 = λ r. IsSomeAnd r P in subst Q (sym e) h

pub place_again : (ports : List Port) (d : Direction) (name : List ℕ) (n : ℕ) → Distinct ports → IsPortAt ports d name n → place_of ports name ≡ Some n
unfolding place_of
place_again ports d name n apart h =
    let p = some_at (λ q. (q.direction ≡ d) × (q.name ≡ name)) (slice_get ports n) h in
    let N : List ℕ → Type 0 = λ x. FirstAt ports n x in
    place_first 0 n ports name p.0 p.1 p.2.1 (subst N p.2.1 (first_of ports n p.0 apart p.1)) ∙ ap Some (omega arith)

pub place_is : (ports : List Port) (name : List ℕ) (n : ℕ) → place_of ports name ≡ Some n → (p : Port) × (slice_get ports n ≡ Some p) × (p.name ≡ name)
unfolding place_of
place_is ports name n e =
    let t = place_takes 0 n ports name e in
    let same : t.0 ≡ n = omega arith in
    let P : ℕ → Type 0 = λ k. slice_get ports k ≡ Some t.1 in
    (t.1, subst P same t.3, t.4)

pub input_again : (ports : List Port) (name : List ℕ) (n : ℕ) → Distinct ports → IsPortAt ports Input name n → input_of ports name ≡ Some n
unfolding input_of
input_again ports name n apart h =
    let p = some_at (λ q. (q.direction ≡ Input) × (q.name ≡ name)) (slice_get ports n) h in
    rw (place_again ports Input name n apart h, p.1, p.2.0) refl

input_way : (d : Direction) → is_input d ≡ true → d ≡ Input
input_way Input e = refl
input_way Output e = absurd cc

pub input_takes : (ports : List Port) (name : List ℕ) (n : ℕ) → input_of ports name ≡ Some n → IsPortAt ports Input name n
unfolding input_of
input_takes ports name n e =
    let a = bind_some (place_of ports name) (λ m. slice_get ports m >>= λ p. cond (is_input p.direction) (Some m) None) n e in
    let b = bind_some (slice_get ports a.0) (λ p. cond (is_input p.direction) (Some a.0) None) n a.2 in
    let g = cond_some (is_input b.0.direction) a.0 n b.2 in
    let p = place_is ports name a.0 a.1 in
    let same : p.0 ≡ b.0 = same_Some p.0 b.0 (sym p.1 ∙ b.1) in
    let P : ℕ → Type 0 = λ k. IsPortAt ports Input name k in
    subst P g.1 (at_some (λ q. (q.direction ≡ Input) × (q.name ≡ name)) (slice_get ports a.0) b.0 b.1 (input_way b.0.direction g.0, sym (ap (λ (x : Port). x.name) same) ∙ p.2))

-- ---- from a phrase to its expression

-- an operand that binds so strongly may be given to what waits
abbrev pub Room : List Pending → ℕ → Type 0
Room [] k = Unit {0}
Room (pending.Open ∷ ps) k = Unit {0}
Room (pending.Not ∷ ps) k = 4 ≤ k
Room (pending.Left o a ∷ ps) k = suc (strength_of o) ≤ k

-- no operator that binds more strongly follows
abbrev pub Quiet : ℕ → List Token → Type 0
Quiet k (mark And ∷ ts) = 3 ≤ k
Quiet k (mark Xor ∷ ts) = 2 ≤ k
Quiet k (mark Or ∷ ts) = 1 ≤ k
Quiet k _ = Unit {0}

least : (o : Operator) → 1 ≤ strength_of o
least operators.And = omega arith
least operators.Xor = omega arith
least operators.Or = omega arith

most : (o : Operator) → strength_of o ≤ 3
most operators.And = omega arith
most operators.Xor = omega arith
most operators.Or = omega arith

room_up : (ps : List Pending) (j k : ℕ) → j ≤ k → Room ps j → Room ps k
room_up [] j k le h = tt
room_up (pending.Open ∷ ps) j k le h = tt
room_up (pending.Not ∷ ps) j k le h = omega arith
room_up (pending.Left o a ∷ ps) j k le h = omega arith

room_4 : (ps : List Pending) → Room ps 4
room_4 [] = tt
room_4 (pending.Open ∷ ps) = tt
room_4 (pending.Not ∷ ps) = omega arith
room_4 (pending.Left o a ∷ ps) = omega (arith, most o)

quiet_up : (j k : ℕ) (ts : List Token) → j ≤ k → Quiet j ts → Quiet k ts
quiet_up j k (mark And ∷ ts) le h = omega arith
quiet_up j k (mark Xor ∷ ts) le h = omega arith
quiet_up j k (mark Or ∷ ts) le h = omega arith
quiet_up j k _ le h = tt

quiet_at : (o : Operator) (k : ℕ) (ts : List Token) → strength_of o ≤ k → Quiet k (mark (mark_of o) ∷ ts)
quiet_at operators.And k ts h = h
quiet_at operators.Xor k ts h = h
quiet_at operators.Or k ts h = h

leb-false : (a b : ℕ) → b < a → leb a b ≡ false
leb-false a b h = grind (arith, nat_tests)

absorbed : (ports : List Port) (p : Pending) (x : Expr) (ps : List Pending) (ts : List Token) → 1 ≤ binding p → Quiet (binding p) ts
    → run ports (found x (p ∷ ps)) ts ≡ run ports (found (applied p x) ps) ts
unfolding run step follow_at operate close finish
absorbed ports p x ps [] h q = rw (le-leb 1 (binding p) h) refl
absorbed ports p x ps (mark And ∷ ts) h q = rw (le-leb 3 (binding p) q) refl
absorbed ports p x ps (mark Xor ∷ ts) h q = rw (le-leb 2 (binding p) q) refl
absorbed ports p x ps (mark Or ∷ ts) h q = rw (le-leb 1 (binding p) q) refl
absorbed ports p x ps (mark Close ∷ ts) h q = rw (le-leb 1 (binding p) h) refl
absorbed ports p x ps (t ∷ ts) h q = refl

stays : (level : ℕ) (x : Expr) (ps : List Pending) → 1 ≤ level → level ≤ 3 → Room ps level → reduce level x ps ≡ (x, ps)
stays level x [] low high h = refl
stays level x (pending.Open ∷ ps) low high h = rw (leb-false level 0 low) refl
stays level x (pending.Not ∷ ps) low high h = absurd (omega arith)
stays level x (pending.Left o a ∷ ps) low high h = rw (leb-false level (strength_of o) h) refl

operated : (ports : List Port) (o : Operator) (x : Expr) (ps : List Pending) (ts : List Token) → Room ps (strength_of o)
    → run ports (found x ps) (mark (mark_of o) ∷ ts) ≡ run ports (wanted (pending.Left o x ∷ ps)) ts
unfolding run step follow_at operate
operated ports operators.And x ps ts h = rw (stays 3 x ps (omega arith) (omega arith) h) refl
operated ports operators.Xor x ps ts h = rw (stays 2 x ps (omega arith) (omega arith) h) refl
operated ports operators.Or x ps ts h = rw (stays 1 x ps (omega arith) (omega arith) h) refl

named_run : (ports : List Port) (w : List ℕ) (n : ℕ) (ps : List Pending) (ts : List Token) → input_of ports w ≡ Some n → run ports (wanted ps) (word w ∷ ts) ≡ run ports (found (PortExpr n) ps) ts
unfolding run step begin_at
named_run ports w n ps ts e = rw e refl

open_run : (ports : List Port) (ps : List Pending) (ts : List Token) → run ports (wanted ps) (mark Open ∷ ts) ≡ run ports (wanted (pending.Open ∷ ps)) ts
unfolding run step begin_at
open_run ports ps ts = refl

not_run : (ports : List Port) (ps : List Pending) (ts : List Token) → run ports (wanted ps) (mark Not ∷ ts) ≡ run ports (wanted (pending.Not ∷ ps)) ts
unfolding run step begin_at
not_run ports ps ts = refl

close_run : (ports : List Port) (x : Expr) (ps : List Pending) (ts : List Token) → run ports (found x (pending.Open ∷ ps)) (mark Close ∷ ts) ≡ run ports (found x ps) ts
unfolding run step follow_at close
close_run ports x ps ts = refl

parse_again : (ports : List Port) (p : Phrase) (e : Expr) (ps : List Pending) (ts : List Token) → Distinct ports → IsGrouped p → Denotes ports p e → Room ps (strength p) → Quiet (strength p) ts
    → run ports (wanted ps) (tokens_of p ++ ts) ≡ run ports (found e ps) ts
parse_again ports (named w) e ps ts apart g d room quiet =
    named_run ports w d.0 ps ts (input_again ports w d.0 apart d.1) ∙ ap (λ (x : Expr). run ports (found x ps) ts) (sym d.2)
parse_again ports (grouped p) e ps ts apart g d room quiet =
    open_run ports ps ((tokens_of p ++ mark Close ∷ []) ++ ts)
    ∙ ap (run ports (wanted (pending.Open ∷ ps))) (append_assoc (tokens_of p) (mark Close ∷ []) ts)
    ∙ parse_again ports p e (pending.Open ∷ ps) (mark Close ∷ ts) apart g d tt tt
    ∙ close_run ports e ps ts
parse_again ports (negated p) e ps ts apart g d room quiet =
    not_run ports ps (tokens_of p ++ ts)
    ∙ parse_again ports p d.0 (pending.Not ∷ ps) ts apart g.0 d.1 g.1 (quiet_up 4 (strength p) ts g.1 quiet)
    ∙ absorbed ports pending.Not d.0 ps ts (omega arith) quiet
    ∙ ap (λ (x : Expr). run ports (found x ps) ts) (sym d.2)
parse_again ports (joined o p q) e ps ts apart g d room quiet =
    ap (run ports (wanted ps)) (append_assoc (tokens_of p) (mark (mark_of o) ∷ tokens_of q) ts)
    ∙ parse_again ports p d.0 ps (mark (mark_of o) ∷ (tokens_of q ++ ts)) apart g.0 d.2 (room_up ps (strength_of o) (strength p) g.2 room) (quiet_at o (strength p) (tokens_of q ++ ts) g.2)
    ∙ operated ports o d.0 ps (tokens_of q ++ ts) room
    ∙ parse_again ports q d.1 (pending.Left o d.0 ∷ ps) ts apart g.1 d.3 g.3 (quiet_up (strength_of o) (strength q) ts (omega (arith, g.3)) quiet)
    ∙ absorbed ports (pending.Left o d.0) d.1 ps ts (least o) quiet
    ∙ ap (λ (x : Expr). run ports (found x ps) ts) (sym d.4)

ended_run : (ports : List Port) (x : Expr) → run ports (found x []) [] ≡ Some x
unfolding run finish
ended_run ports x = refl

pub phrase_again : (ports : List Port) (p : Phrase) (e : Expr) → Distinct ports → IsGrouped p → Denotes ports p e → run ports (wanted []) (tokens_of p) ≡ Some e
phrase_again ports p e apart g d =
    ap (run ports (wanted [])) (sym (append-nil (tokens_of p))) ∙ parse_again ports p e [] [] apart g d tt tt ∙ ended_run ports e

-- ---- from what was read to its phrase

-- the tokens of what waits
abbrev pub Waits : List Port → List Pending → List Token → Type 0
Waits ports [] front = front ≡ []
Waits ports (pending.Open ∷ ps) front = (f : List Token) × Waits ports ps f × (front ≡ f ++ mark Open ∷ [])
Waits ports (pending.Not ∷ ps) front = (f : List Token) × Waits ports ps f × (front ≡ f ++ mark Not ∷ [])
Waits ports (pending.Left o a ∷ ps) front = (f : List Token) × (p : Phrase) × Waits ports ps f × IsGrouped p × Denotes ports p a × (strength_of o ≤ strength p) × Room ps (strength_of o) × (front ≡ f ++ (tokens_of p ++ mark (mark_of o) ∷ []))

-- the tokens of what waits and of an operand that binds so strongly
pub record Has (ports : List Port) (ps : List Pending) (x : Expr) (front : List Token) (k : ℕ) : Type 0 where
  pub phrase : Phrase
  pub before : List Token
  pub waits : Waits ports ps before
  pub grouping : IsGrouped phrase
  pub meaning : Denotes ports phrase x
  pub strong : k ≤ strength phrase
  pub room : Room ps (strength phrase)
  pub parts : front ≡ before ++ tokens_of phrase

-- what waits binds less strongly
abbrev pub Low : ℕ → List Pending → Type 0
Low level [] = Unit {0}
Low level (p ∷ ps) = binding p < level

reduces : (ports : List Port) (level : ℕ) (x : Expr) (ps : List Pending) (front : List Token) → 1 ≤ level → level ≤ 4 → Has ports ps x front level
    → Has ports (reduce level x ps).1 (reduce level x ps).0 front level × Low level (reduce level x ps).1
reduces ports level x [] front low high h = (h, tt)
reduces ports level x (pending.Open ∷ ps) front low high h = rw (leb-false level 0 low) (h, low)
reduces ports level x (pending.Not ∷ ps) front low high h =
    let w = h.waits in
    rw (le-leb level 4 high) (reduces ports level (NotExpr x) ps front low high (record {
      phrase = negated h.phrase;
      before = w.0;
      waits = w.1;
      grouping = (h.grouping, h.room);
      meaning = (x, h.meaning, refl);
      strong = high;
      room = room_4 ps;
      parts = h.parts ∙ ap (λ (f : List Token). f ++ tokens_of h.phrase) w.2 ∙ append_assoc w.0 (mark Not ∷ []) (tokens_of h.phrase);
    }))
reduces ports level x (pending.Left o a ∷ ps) front low high h =
    elim (cases_Bool (leb level (strength_of o))) [
      | inl e ↦
          let w = h.waits in
          let regroup : (w.0 ++ (tokens_of w.1 ++ mark (mark_of o) ∷ [])) ++ tokens_of h.phrase ≡ w.0 ++ (tokens_of w.1 ++ mark (mark_of o) ∷ tokens_of h.phrase) =
          append_assoc w.0 (tokens_of w.1 ++ mark (mark_of o) ∷ []) (tokens_of h.phrase) ∙ ap (λ (f : List Token). w.0 ++ f) (append_assoc (tokens_of w.1) (mark (mark_of o) ∷ []) (tokens_of h.phrase)) in
          rw e (reduces ports level (join o a x) ps front low high (record {
            phrase = joined o w.1 h.phrase;
            before = w.0;
            waits = w.2;
            grouping = (w.3, h.grouping, w.5, h.room);
            meaning = (a, x, w.4, h.meaning, refl);
            strong = leb-true level (strength_of o) e;
            room = w.6;
            parts = h.parts ∙ ap (λ (f : List Token). f ++ tokens_of h.phrase) w.7 ∙ regroup;
          }))
      | inr e ↦ rw e (h, below level (strength_of o) e)
    ]
  where
    below : (a b : ℕ) → leb a b ≡ false → b < a
    below a b e = grind (arith, nat_tests)

low_room : (ps : List Pending) (level : ℕ) → level ≤ 3 → Low level ps → Room ps level
low_room [] level high h = tt
low_room (pending.Open ∷ ps) level high h = tt
low_room (pending.Not ∷ ps) level high h = absurd (omega arith)
low_room (pending.Left o a ∷ ps) level high h = h

-- the tokens of a state
abbrev pub Holds : List Port → Option Expr → List Pending → List Token → Type 0
Holds ports None ps front = Waits ports ps front
Holds ports (Some x) ps front = Has ports ps x front 4

abbrev pub HoldsState : List Port → State → List Token → Type 0
HoldsState ports s front = Holds ports s.operand s.stack front

weaker : (ports : List Port) (ps : List Pending) (x : Expr) (front : List Token) (k : ℕ) → k ≤ 4 → Has ports ps x front 4 → Has ports ps x front k
weaker ports ps x front k le h = record { phrase = h.phrase; before = h.before; waits = h.waits; grouping = h.grouping; meaning = h.meaning; strong = omega (arith, h.strong); room = h.room; parts = h.parts }

mapped : {A B : Type 0} (f : A → B) (o : Option A) (y : B) → option_map f o ≡ Some y → (x : A) × (o ≡ Some x) × (f x ≡ y)
mapped f (Some x) y e = (x, refl, same_Some (f x) y e)
mapped f None y e = absurd cc

begins : (ports : List Port) (ps : List Pending) (t : Token) (next : State) (front : List Token) → Waits ports ps front → begin_at ports ps t ≡ Some next → HoldsState ports next (front ++ t ∷ [])
unfolding begin_at
begins ports ps (word w) next front h e =
    let m = mapped (λ n. found (PortExpr n) ps) (input_of ports w) next e in
    let P : State → Type 0 = λ s. HoldsState ports s (front ++ word w ∷ []) in
    subst P m.2 (record { phrase = named w; before = front; waits = h; grouping = tt; meaning = (m.0, input_takes ports w m.0 m.1, refl); strong = omega arith; room = room_4 ps; parts = refl })
begins ports ps (mark Not) next front h e = let P : State → Type 0 = λ s. HoldsState ports s (front ++ mark Not ∷ []) in subst P (same_Some _ next e) (front, h, refl)
begins ports ps (mark Open) next front h e = let P : State → Type 0 = λ s. HoldsState ports s (front ++ mark Open ∷ []) in subst P (same_Some _ next e) (front, h, refl)
begins ports ps (mark Close) next front h e = absurd (none-some next e)
begins ports ps (mark Comma) next front h e = absurd (none-some next e)
begins ports ps (mark Semicolon) next front h e = absurd (none-some next e)
begins ports ps (mark Equals) next front h e = absurd (none-some next e)
begins ports ps (mark And) next front h e = absurd (none-some next e)
begins ports ps (mark Xor) next front h e = absurd (none-some next e)
begins ports ps (mark Or) next front h e = absurd (none-some next e)

operates : (ports : List Port) (o : Operator) (x : Expr) (ps : List Pending) (next : State) (front : List Token) → Has ports ps x front 4 → operate o x ps ≡ next → HoldsState ports next (front ++ mark (mark_of o) ∷ [])
unfolding operate
operates ports o x ps next front h e =
    let r = reduces ports (strength_of o) x ps front (least o) (omega (arith, most o)) (weaker ports ps x front (strength_of o) (omega (arith, most o)) h) in
    let k = r.0 in
    let P : State → Type 0 = λ s. HoldsState ports s (front ++ mark (mark_of o) ∷ []) in
    subst P e (
      k.before,
      k.phrase,
      k.waits,
      k.grouping,
      k.meaning,
      k.strong,
      low_room _ (strength_of o) (most o) r.1,
      ap (λ (f : List Token). f ++ mark (mark_of o) ∷ []) k.parts ∙ append_assoc k.before (tokens_of k.phrase) (mark (mark_of o) ∷ []),
    )

closes : (ports : List Port) (x : Expr) (ps : List Pending) (next : State) (front : List Token) → Has ports ps x front 1 → closed x ps ≡ Some next → HoldsState ports next (front ++ mark Close ∷ [])
closes ports x [] next front h e = absurd (none-some next e)
closes ports x (pending.Open ∷ ps) next front h e =
    let w = h.waits in
    let P : State → Type 0 = λ s. HoldsState ports s (front ++ mark Close ∷ []) in
    subst P (same_Some _ next e) (record {
      phrase = grouped h.phrase;
      before = w.0;
      waits = w.1;
      grouping = h.grouping;
      meaning = h.meaning;
      strong = omega arith;
      room = room_4 ps;
      parts = ap (λ (f : List Token). f ++ mark Close ∷ []) (h.parts ∙ ap (λ (f : List Token). f ++ tokens_of h.phrase) w.2)
          ∙ append_assoc (w.0 ++ mark Open ∷ []) (tokens_of h.phrase) (mark Close ∷ []) ∙ append_assoc w.0 (mark Open ∷ []) (tokens_of h.phrase ++ mark Close ∷ []);
    })
closes ports x (pending.Not ∷ ps) next front h e = absurd (none-some next e)
closes ports x (pending.Left o a ∷ ps) next front h e = absurd (none-some next e)

follows : (ports : List Port) (x : Expr) (ps : List Pending) (t : Token) (next : State) (front : List Token) → Has ports ps x front 4 → follow_at x ps t ≡ Some next → HoldsState ports next (front ++ t ∷ [])
unfolding follow_at close
follows ports x ps (mark And) next front h e = operates ports operators.And x ps next front h (same_Some _ next e)
follows ports x ps (mark Xor) next front h e = operates ports operators.Xor x ps next front h (same_Some _ next e)
follows ports x ps (mark Or) next front h e = operates ports operators.Or x ps next front h (same_Some _ next e)
follows ports x ps (mark Close) next front h e =
    let r = reduces ports 1 x ps front (omega arith) (omega arith) (weaker ports ps x front 1 (omega arith) h) in
    closes ports _ _ next front r.0 e
follows ports x ps (mark Open) next front h e = absurd (none-some next e)
follows ports x ps (mark Not) next front h e = absurd (none-some next e)
follows ports x ps (mark Comma) next front h e = absurd (none-some next e)
follows ports x ps (mark Semicolon) next front h e = absurd (none-some next e)
follows ports x ps (mark Equals) next front h e = absurd (none-some next e)
follows ports x ps (word w) next front h e = absurd (none-some next e)

steps : (ports : List Port) (o : Option Expr) (ps : List Pending) (t : Token) (next : State) (front : List Token) → Holds ports o ps front → step_from ports o ps t ≡ Some next → HoldsState ports next (front ++ t ∷ [])
steps ports None ps t next front h e = begins ports ps t next front h e
steps ports (Some x) ps t next front h e = follows ports x ps t next front h e

-- what the tokens denote
abbrev pub Phrased : List Port → Expr → List Token → Type 0
Phrased ports e ts = (p : Phrase) × IsGrouped p × Denotes ports p e × (ts ≡ tokens_of p)

wholes : (ports : List Port) (x e : Expr) (ps : List Pending) (front : List Token) → Has ports ps x front 1 → whole (x, ps) ≡ Some e → Phrased ports e front
wholes ports x e [] front h is =
    let P : Expr → Type 0 = λ y. Phrased ports y front in
    subst P (same_Some x e is) (h.phrase, h.grouping, h.meaning, h.parts ∙ ap (λ (f : List Token). f ++ tokens_of h.phrase) h.waits)
wholes ports x e (p ∷ ps) front h is = absurd (none-some e is)

finishes : (ports : List Port) (o : Option Expr) (ps : List Pending) (e : Expr) (front : List Token) → Holds ports o ps front → ended o ps ≡ Some e → Phrased ports e front
finishes ports None ps e front h is = absurd (none-some e is)
finishes ports (Some x) ps e front h is =
    let r = reduces ports 1 x ps front (omega arith) (omega arith) (weaker ports ps x front 1 (omega arith) h) in
    wholes ports (reduce 1 x ps).0 e (reduce 1 x ps).1 front r.0 is

runs : (ports : List Port) (s : State) (ts front : List Token) (e : Expr) → HoldsState ports s front → run ports s ts ≡ Some e → Phrased ports e (front ++ ts)
unfolding run finish step
runs ports s [] front e h is =
    let P : List Token → Type 0 = λ us. Phrased ports e us in
    subst P (sym (append-nil front)) (finishes ports s.operand s.stack e front h is)
runs ports s (t ∷ ts) front e h is =
    let a = bind_some (step_from ports s.operand s.stack t) (λ next. run ports next ts) e is in
    let P : List Token → Type 0 = λ us. Phrased ports e us in
    subst P (append_assoc front (t ∷ []) ts) (runs ports a.0 ts (front ++ t ∷ []) e (steps ports s.operand s.stack t a.0 front h a.1) a.2)

pub phrase_takes : (ports : List Port) (ts : List Token) (e : Expr) → run ports (wanted []) ts ≡ Some e → Phrased ports e ts
phrase_takes ports ts e is = runs ports (wanted []) ts [] e refl is
