-- Where no line may follow, or what stands there isn't one that may, is the first fault.
use Rattle.std.proofs.Common.{◌≡◌, ℕ, ◌+◌, ◌-◌, ◌<◌, zero, suc, List, [], ◌∷◌, ◌++◌, length, map, None, Some, Option, slice_get, arith, refl, sym, ap, ◌∙◌, subst, append_assoc}
use Rattle.std.specs.Prelude.{codes}
use Rattle.std.specs.List.{AllByRecursion}
use Rattle.std.proofs.lemmas.Grind.{flat_map-append}
use Rattle.std.proofs.lemmas.List.{append-nil, length-map, length_push, map-append}
use Rattle.eq_proof.specs.Text.{AgreeOn, lines_of}
use Rattle.eq_wit.specs.declared.types.Evidence.{Evidence}
use Rattle.eq_wit.specs.declared.state.State.{State}
use Rattle.eq_wit.specs.declared.state.State.TheVariants as state
use Rattle.eq_wit.specs.declared.state.Tally.{Tally}
use Rattle.eq_wit.specs.Faults.{IsDue, IsEvidenceText, IsTyped, lines_of_evidence, text_of_evidence}
use Rattle.eq_wit.specs.Line.{Line, line_text, lines_text}
use Rattle.eq_wit.specs.inner.Judging.{IsReached, Runs}
use Rattle.eq_wit.specs.inner.Reading.{MayComeNext, title}
use Rattle.eq_wit.specs.inner.Standing.{Stands, lines_read}
use Rattle.eq_wit.proofs.Forward.{evidence_runs, tail_lines}
use Rattle.eq_wit.proofs.PieceRuns.{joined_runs}
use Rattle.eq_wit.proofs.GoesOn.{goes_on}
use Rattle.eq_wit.proofs.LinesRead.{one_line_more}
use Rattle.eq_wit.proofs.Plain.{by_test, evidence_plain}
use Rattle.eq_wit.proofs.SameLines.{follows_plain, same_next}
use Rattle.eq_wit.proofs.Sizes.{plain_has_words}
use Rattle.eq_wit.proofs.StandingOn.{stands_on}
use Rattle.eq_wit.proofs.TextLines.{lines_before, same_words}
use Rattle.eq_wit.proofs.Words.{IsPlainLine}

lines_text-more : (ls : List Line) (l : Line) → lines_text (ls ++ l ∷ []) ≡ lines_text ls ++ line_text l
lines_text-more ls l = flat_map-append line_text ls (l ∷ []) ∙ ap (λ (t : List ℕ). lines_text ls ++ t) (append-nil (line_text l))

-- ---- what has been reached

pub record IsRun (a : State) (ls : List Line) (b : State) : Type 0 where
  pub stands : Stands b
  pub read : lines_read b ≡ lines_read a ++ ls
  pub plain : AllByRecursion IsPlainLine ls

pub run_of : (a b : State) (ls : List Line) → Stands a → Runs a ls b → IsRun a ls b
run_of a b [] h e = record {
  stands = subst Stands e h;
  read = ap lines_read (sym e) ∙ sym (append-nil (lines_read a));
  plain = tt;
}
run_of a b (l ∷ ls) h r =
    let next = run_of r.0 b ls (stands_on a l r.0 h r.1) r.2 in
    record {
      stands = next.stands;
      read = next.read ∙ ap (λ (xs : List Line). xs ++ ls) (one_line_more a l r.0 h r.1)
          ∙ append_assoc (lines_read a) (l ∷ []) ls;
      plain = (follows_plain a l r.0 h r.1, next.plain);
    }

title_plain : IsPlainLine title
title_plain = (by_test (codes "eqe") refl, (by_test (codes "1") refl, tt))

pub stands_there : (text : List ℕ) (s : State) (line : ℕ) (rest : List ℕ) → IsReached text s line rest → Stands s
stands_there text s line rest h = (run_of state.Titled s h.lines tt h.runs).stands

-- a line more
pub reached_more : (text : List ℕ) (s next : State) (line : ℕ) (l : Line) (rest after : List ℕ) →
    IsReached text s line rest → MayComeNext s l next → rest ≡ line_text l ++ after → IsReached text next (line + 1) after
reached_more text s next line l rest after h f e = record {
  lines = h.lines ++ l ∷ [];
  runs = joined_runs state.Titled s next h.lines (l ∷ []) h.runs (next, f, refl);
  text_is = h.text_is ∙ ap (λ (t : List ℕ). lines_text (title ∷ h.lines) ++ t) e
      ∙ sym (append_assoc (lines_text (title ∷ h.lines)) (line_text l) after)
      ∙ ap (λ (t : List ℕ). t ++ after) (sym (lines_text-more (title ∷ h.lines) l));
  number = omega (arith, h.number, length_push h.lines l);
}

-- ---- places of lists in two parts

module _ {X : Type 0} where
  get_before : (a b : List X) (k : ℕ) → k < length a → slice_get (a ++ b) k ≡ slice_get a k
  get_before [] b k h = absurd (omega arith)
  get_before (x ∷ a) b zero h = refl
  get_before (x ∷ a) b (suc k) h = get_before a b k (omega arith)

  pub get_behind : (a b : List X) (k : ℕ) → slice_get (a ++ b) (length a + k) ≡ slice_get b k
  get_behind [] b k = ap (slice_get b) (omega arith)
  get_behind (x ∷ a) b k =
      let place : suc (length a) + k ≡ suc (length a + k) = omega arith in
      ap (slice_get (x ∷ (a ++ b))) place ∙ get_behind a b k

-- the texts of two lists of lines agree at the first places
abbrev AgreeBelow : ℕ → List Line → List Line → Type 0
AgreeBelow n a b = (k : ℕ) → k < n → slice_get (map line_text a) k ≡ slice_get (map line_text b) k

-- what goes the same way comes to the same place
record Along (s z : State) (from : ℕ) (ms : List Line) : Type 0 where
  rest : List Line
  runs : Runs s rest z
  at : (k : ℕ) → slice_get ms (from + k) ≡ slice_get rest k

along : (a s z : State) (ls ms : List Line) → Stands a → Runs a ls s → Runs a ms z → AgreeBelow (length ls) ls ms →
    Along s z (length ls) ms
along a s z [] ms h e g agree = record {
  rest = ms;
  runs = subst (λ (x : State). Runs x ms z) e g;
  at = λ k. ap (slice_get ms) (omega arith);
}
along a s z (l ∷ ls) [] h f g agree = absurd (cc (agree 0 (omega arith)))
along a s z (l ∷ ls) (m ∷ ms) h f g agree =
    let same : line_text l ≡ line_text m = cc (agree 0 (omega arith)) in
    let words = same_words l m (follows_plain a l f.0 h f.1) (follows_plain a m g.0 h g.1) same in
    let next : g.0 ≡ f.0 = same_next a m l g.0 f.0 h g.1 f.1 (sym words) in
    let further = along f.0 s z ls ms (stands_on a l f.0 h f.1) f.2 (subst (λ (x : State). Runs x ms z) next g.2)
    (λ k less. agree (suc k) (omega arith)) in
    record {
      rest = further.rest;
      runs = further.runs;
      at = λ k.
          let place : suc (length ls) + k ≡ suc (length ls + k) = omega arith in
          ap (slice_get (m ∷ ms)) place ∙ further.at k;
    }

-- ---- lines of texts

pub reached_lines : (text : List ℕ) (s : State) (line : ℕ) (rest : List ℕ) (h : IsReached text s line rest) →
    lines_of text ≡ map line_text (title ∷ h.lines) ++ lines_of rest
reached_lines text s line rest h = ap lines_of h.text_is
    ∙ lines_before (title ∷ h.lines) rest (title_plain, (run_of state.Titled s h.lines tt h.runs).plain)

pub evidence_lines_of : (e : Evidence) → IsTyped e → lines_of (text_of_evidence e) ≡ map line_text (title ∷ tail_lines e) ++ []
evidence_lines_of e h = ap lines_of (sym (append-nil (text_of_evidence e)))
    ∙ lines_before (lines_of_evidence e) [] (evidence_plain e.part e.heads e.decided (plain_has_words e h))

-- an evidence that has the text's lines so far stands there too, with its further lines
evidence_along : (text : List ℕ) (s : State) (line : ℕ) (rest : List ℕ) → (r : IsReached text s line rest) → (e : Evidence) →
    (h : IsTyped e) → AgreeOn line (text_of_evidence e) text →
    (t : Tally) × Along s (state.Ended t) (length r.lines) (tail_lines e)
evidence_along text s line rest r e h agree =
    let runs = evidence_runs e h in
    let ours = reached_lines text s line rest r in
    let theirs = evidence_lines_of e h in
    let long : length (map line_text r.lines) ≡ length r.lines = length-map r.lines line_text in (
      runs.0,
      along state.Titled s (state.Ended runs.0) r.lines (tail_lines e) tt r.runs runs.1 (λ k less.
          sym (get_before (map line_text r.lines) (lines_of rest) k (omega (arith, long)))
          ∙ ap (λ (ls : List (List ℕ)). slice_get ls (suc k)) (sym ours)
          ∙ sym (agree (suc k) (omega (arith, r.number)))
          ∙ ap (λ (ls : List (List ℕ)). slice_get ls (suc k)) (theirs ∙ append-nil (map line_text (title ∷ tail_lines e)))),
    )

-- the line behind what was read
pub line_here : (text : List ℕ) (s : State) (line : ℕ) (rest : List ℕ) → IsReached text s line rest →
    slice_get (lines_of text) line ≡ slice_get (lines_of rest) 0
line_here text s line rest r =
    let long : length (map line_text (title ∷ r.lines)) ≡ length (title ∷ r.lines) = length-map (title ∷ r.lines) line_text in
    let place : line ≡ length (map line_text (title ∷ r.lines)) + 0 = omega (arith, long, r.number) in
    ap (λ (ls : List (List ℕ)). slice_get ls line) (reached_lines text s line rest r)
    ∙ ap (slice_get (map line_text (title ∷ r.lines) ++ lines_of rest)) place
    ∙ get_behind (map line_text (title ∷ r.lines)) (lines_of rest) 0

pub map_get : (ls : List Line) (k : ℕ) → (l : Line) → slice_get ls k ≡ Some l → slice_get (map line_text ls) k ≡ Some (line_text l)
map_get [] k l e = absurd (cc e)
map_get (x ∷ ls) zero l e = let is : x ≡ l = cc e in ap (λ (y : Line). Some (line_text y)) is
map_get (x ∷ ls) (suc k) l e = map_get ls k l e

map_none : (ls : List Line) (k : ℕ) → slice_get ls k ≡ None → slice_get (map line_text ls) k ≡ None
map_none [] k e = refl
map_none (x ∷ ls) zero e = absurd (cc e)
map_none (x ∷ ls) (suc k) e = map_none ls k e

-- the lines of evidences that agree so far with the text, at the place behind
pub due_follows : (text : List ℕ) (s : State) (line : ℕ) (rest : List ℕ) → IsReached text s line rest → (due : Line) →
    IsDue text (line + 1) due → (next : State) × MayComeNext s due next
due_follows text s line rest r due h =
    let place : line + 1 - 1 ≡ line = omega arith in
    let way = evidence_along text s line rest r h.evidence h.plain
    (subst (λ (n : ℕ). AgreeOn n (text_of_evidence h.evidence) text) place h.agrees) in
    let far : suc (length r.lines + 0) ≡ line + 1 - 1 = omega (arith, r.number) in
    let there : slice_get (title ∷ tail_lines h.evidence) (suc (length r.lines + 0)) ≡ Some due =
    ap (slice_get (lines_of_evidence h.evidence)) far ∙ h.there in
    first_of_rest s (state.Ended way.0) way.1.rest due way.1.runs (sym (way.1.at 0) ∙ there) where
      first_of_rest : (s z : State) (ms : List Line) (due : Line) → Runs s ms z → slice_get ms 0 ≡ Some due →
          (next : State) × MayComeNext s due next
      first_of_rest s z [] due f e = absurd (cc e)
      first_of_rest s z (m ∷ ms) due f e = let is : m ≡ due = cc e in (f.0, subst (λ (x : Line). MayComeNext s x f.0) is f.1)

pub lines_there : (text : List ℕ) (s : State) (line : ℕ) (rest : List ℕ) → (r : IsReached text s line rest) →
    lines_read s ≡ title ∷ r.lines
lines_there text s line rest r = (run_of state.Titled s r.lines tt r.runs).read

-- any evidence that begins with these lines agrees so far
agrees_so_far : (text : List ℕ) (s : State) (line : ℕ) (rest : List ℕ) → (r : IsReached text s line rest) →
    (e : Evidence) → (h : IsTyped e) → (more : List Line) → lines_of_evidence e ≡ lines_read s ++ more →
    AgreeOn line (text_of_evidence e) text
agrees_so_far text s line rest r e h more is k less =
    let front : List (List ℕ) = map line_text (title ∷ r.lines) in
    let long : length front ≡ length (title ∷ r.lines) = length-map (title ∷ r.lines) line_text in
    let all : lines_of_evidence e ≡ (title ∷ r.lines) ++ more =
    is ∙ ap (λ (ls : List Line). ls ++ more) (lines_there text s line rest r) in
    ap (λ (ls : List (List ℕ)). slice_get ls k) (evidence_lines_of e h ∙ append-nil (map line_text (lines_of_evidence e))
    ∙ ap (map line_text) all ∙ map-append line_text (title ∷ r.lines) more)
    ∙ get_before front (map line_text more) k (omega (arith, long, r.number))
    ∙ sym (get_before front (lines_of rest) k (omega (arith, long, r.number)))
    ∙ ap (λ (ls : List (List ℕ)). slice_get ls k) (sym (reached_lines text s line rest r))

pub begins_so : (text : List ℕ) (s : State) (line : ℕ) (rest : List ℕ) → IsReached text s line rest →
    (good : List ℕ) × IsEvidenceText good × AgreeOn line good text
begins_so text s line rest r =
    let c = goes_on s (stands_there text s line rest r) in (
      text_of_evidence c.evidence,
      (c.evidence, record { plain = c.typed; text_is = refl }),
      agrees_so_far text s line rest r c.evidence c.typed c.more c.lines,
    )

-- a line that may follow is due
pub follows_due : (text : List ℕ) (s : State) (line : ℕ) (rest : List ℕ) → IsReached text s line rest → (l : Line)
    (next : State) → MayComeNext s l next → IsDue text (line + 1) l
follows_due text s line rest r l next f =
    let stands = stands_there text s line rest r in
    let c = goes_on next (stands_on s l next stands f) in
    let place : line + 1 - 1 ≡ line = omega arith in
    let far : length (title ∷ r.lines) + 0 ≡ line + 1 - 1 = omega (arith, r.number) in
    let all : lines_of_evidence c.evidence ≡ lines_read s ++ (l ∷ c.more) =
    c.lines ∙ ap (λ (ls : List Line). ls ++ c.more) (one_line_more s l next stands f) ∙ append_assoc (lines_read s) (l ∷ []) c.more in
    record {
      evidence = c.evidence;
      plain = c.typed;
      agrees = subst (λ (n : ℕ). AgreeOn n (text_of_evidence c.evidence) text) (sym place)
          (agrees_so_far text s line rest r c.evidence c.typed (l ∷ c.more) all);
      there = ap (slice_get (lines_of_evidence c.evidence)) (sym far)
          ∙ ap (λ (ls : List Line). slice_get ls (length (title ∷ r.lines) + 0))
          (all ∙ ap (λ (ls : List Line). ls ++ l ∷ c.more) (lines_there text s line rest r))
          ∙ get_behind (title ∷ r.lines) (l ∷ c.more) 0;
    }

-- where what stands there is no line that may follow, no evidence continues with it
pub breaks_here : (text : List ℕ) (s : State) (line : ℕ) (rest : List ℕ) → IsReached text s line rest →
    ((l : Line) (next : State) → MayComeNext s l next → slice_get (lines_of rest) 0 ≡ Some (line_text l) → ⊥) →
    ((t : Tally) → s ≡ state.Ended t → slice_get (lines_of rest) 0 ≡ None → ⊥) →
    (good : List ℕ) → IsEvidenceText good → AgreeOn (line + 1) good text → ⊥
breaks_here text s line rest r other ended good is agree =
    let e : Evidence = is.0 in
    let h : IsTyped e = is.1.plain in
    let same : good ≡ text_of_evidence e = is.1.text_is in
    let agrees : AgreeOn (line + 1) (text_of_evidence e) text = subst (λ (g : List ℕ). AgreeOn (line + 1) g text) same agree in
    let way = evidence_along text s line rest r e h (λ k less. agrees k (omega arith)) in
    let far : suc (length r.lines + 0) ≡ line = omega (arith, r.number) in
    let here : slice_get (map line_text (lines_of_evidence e)) line ≡ slice_get (lines_of rest) 0 =
    ap (λ (ls : List (List ℕ)). slice_get ls line) (sym (evidence_lines_of e h ∙ append-nil (map line_text (lines_of_evidence e))))
    ∙ agrees line (omega arith) ∙ line_here text s line rest r in
    by_rest s way.0 way.1.rest (lines_of_evidence e) line (slice_get (lines_of rest) 0) way.1.runs
    (ap (slice_get (lines_of_evidence e)) (sym far) ∙ way.1.at 0) here other ended where
      by_rest : (s : State) (t : Tally) (ms ls : List Line) (line : ℕ) (x : Option (List ℕ)) → Runs s ms (state.Ended t) →
          slice_get ls line ≡ slice_get ms 0 → slice_get (map line_text ls) line ≡ x →
          ((l : Line) (next : State) → MayComeNext s l next → x ≡ Some (line_text l) → ⊥) →
          ((t : Tally) → s ≡ state.Ended t → x ≡ None → ⊥) → ⊥
      by_rest s t [] ls line x f there here other ended = ended t f (sym here ∙ map_none ls line there)
      by_rest s t (m ∷ ms) ls line x f there here other ended = other m f.0 f.1 (sym here ∙ map_get ls line m there)

-- the reading isn't over, so a line may follow
pub some_follow : (text : List ℕ) (s : State) (line : ℕ) (rest : List ℕ) → IsReached text s line rest →
    ((t : Tally) → s ≡ state.Ended t → ⊥) → (l : Line) × (next : State) × MayComeNext s l next
some_follow text s line rest r going =
    let c = goes_on s (stands_there text s line rest r) in
    let way = evidence_along text s line rest r c.evidence c.typed
    (agrees_so_far text s line rest r c.evidence c.typed c.more c.lines) in
    by_rest s way.0 way.1.rest way.1.runs going where
      by_rest : (s : State) (t : Tally) (ms : List Line) → Runs s ms (state.Ended t) → ((t : Tally) → s ≡ state.Ended t → ⊥) →
          (l : Line) × (next : State) × MayComeNext s l next
      by_rest s t [] f going = absurd (going t f)
      by_rest s t (m ∷ ms) f going = (m, f.0, f.1)

-- what was read are plain lines
pub read_plain : (text : List ℕ) (s : State) (line : ℕ) (rest : List ℕ) → (r : IsReached text s line rest) →
    AllByRecursion IsPlainLine (title ∷ r.lines)
read_plain text s line rest r = (title_plain, (run_of state.Titled s r.lines tt r.runs).plain)

-- a line of the text among those that were read
pub text_at : (text : List ℕ) (s : State) (line : ℕ) (rest : List ℕ) → (r : IsReached text s line rest) → (k : ℕ) →
    k < line → slice_get (lines_of text) k ≡ slice_get (map line_text (title ∷ r.lines)) k
text_at text s line rest r k less =
    let long : length (map line_text (title ∷ r.lines)) ≡ length (title ∷ r.lines) = length-map (title ∷ r.lines) line_text in
    ap (λ (ls : List (List ℕ)). slice_get ls k) (reached_lines text s line rest r)
    ∙ get_before (map line_text (title ∷ r.lines)) (lines_of rest) k (omega (arith, long, r.number))
