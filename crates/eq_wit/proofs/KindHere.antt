-- What kind of fault stands where the reading stops.
use Rattle.std.proofs.Common.{◌≡◌, ◌≢◌, ℕ, ◌+◌, ◌-◌, ◌^◌, ◌<◌, zero, suc, Bool, true, false, cond, List, [], ◌∷◌, ◌++◌, length, map, None, Some, slice_get, arith, refl, sym, ap, ◌∙◌, subst, append_assoc, inl, inr}
use Rattle.std.specs.Prelude.{codes, ◌==◌}
use Rattle.std.specs.Fmt.{decimal}
use Rattle.std.proofs.lemmas.Option.{slice_get_within}
use Rattle.std.proofs.lemmas.List.{append-nil}
use Rattle.eq_bits.specs.declared.node.Node.{Node}
use Rattle.eq_bits.specs.declared.node.Node.TheVariants.{Input}
use Rattle.eq_bits.specs.declared.part.Part.{Part}
use Rattle.eq_proof.specs.Text.{AgreeOn, lines_of, with_byte}
use Rattle.eq_wit.specs.declared.types.Evidence.{Evidence}
use Rattle.eq_wit.specs.declared.types.Head.{Head}
use Rattle.eq_wit.specs.declared.types.WitKind.{WitKind}
use Rattle.eq_wit.specs.declared.types.WitKind.TheVariants as kind
use Rattle.eq_wit.specs.declared.state.State.{State}
use Rattle.eq_wit.specs.declared.state.State.TheVariants as state
use Rattle.eq_wit.specs.declared.state.Tally.{Tally}
use Rattle.eq_wit.specs.Faults.{HasKind, IsAmiss, IsFirstFault, RepeatsInput, lines_of_evidence, text_line, text_of_evidence}
use Rattle.eq_wit.specs.Line.{Field, HasForm, Line, Number, Word, field_text, line_text, lines_text, spaced_fields}
use Rattle.eq_wit.specs.Texts.{evidence_lines, node_line}
use Rattle.eq_wit.specs.inner.Judging.{EndsWithEvidence, FaultAtFirst, HasFormAt, HasNoFeed, IsFaulty, IsReached, NamesAgain, MakesEvidence, KindAt, words_in}
use Rattle.eq_wit.specs.inner.Reading.{MayComeNext, count_line, part_line, title}
use Rattle.eq_wit.specs.inner.Standing.{inputs_of, lines_read}
use Rattle.eq_wit.proofs.FaultHere.{begins_so, breaks_here, due_follows, evidence_lines_of, follows_due, get_behind, line_here, lines_there, map_get, read_plain, some_follow, stands_there, text_at}
use Rattle.eq_wit.proofs.GoesOn.{ended_lines, goes_on, make_evidence, typed_by}
use Rattle.eq_wit.proofs.InputForms.{IsNodes, by_place, input_form, input_there}
use Rattle.eq_wit.proofs.Lists.{map_at}
use Rattle.eq_wit.proofs.Plain.{node_plain}
use Rattle.eq_wit.proofs.SameLines.{follows_plain}
use Rattle.eq_wit.proofs.TextLines.{first_line, line_before, one_line, same_words, text_there, words_back, words_there}
use Rattle.eq_wit.proofs.Words.{AreWords, IsPlainLine, IsWord, IsWord-name, Words, words_of}

-- ---- from the place to the text

-- words of a line's form are words
form_words : (l : Line) (ws : Words) → AreWords l → HasForm l ws → AreWords (map Word ws)
form_words [] [] h k = tt
form_words [] (w ∷ ws) h k = absurd k
form_words (Word text ∷ fields) [] h k = absurd k
form_words (Number text ∷ fields) [] h k = absurd k
form_words (Word text ∷ fields) (w ∷ ws) h k = (subst IsWord (sym k.0) h.0, form_words fields ws h.1 k.1)
form_words (Number text ∷ fields) (w ∷ ws) h k = (IsWord-name w k.0, form_words fields ws h.1 k.1)

form_plain : (l : Line) (ws : Words) → IsPlainLine l → HasForm l ws → IsPlainLine (map Word ws)
form_plain [] ws h k = absurd h
form_plain (field ∷ fields) [] h k = absurd (no_form field fields k) where
  no_form : (field : Field) (fields : List Field) → HasForm (field ∷ fields) [] → ⊥
  no_form (Word text) fields k = k
  no_form (Number text) fields k = k
form_plain (field ∷ fields) (w ∷ ws) h k = form_words (field ∷ fields) (w ∷ ws) h k

words_again : (ws : Words) → words_of (map Word ws) ≡ ws
words_again [] = refl
words_again (w ∷ ws) = ap (λ (xs : Words). w ∷ xs) (words_again ws)

input_plain : (i : ℕ) → i < 2 ^ 32 → IsPlainLine (node_line (Input i))
input_plain i small = node_plain (Input i) (omega (arith, small))

-- the line of the text, where it goes on with these bytes and a line feed
the_line : (bytes after : List ℕ) → HasNoFeed bytes → slice_get (lines_of (bytes ++ 10 ∷ after)) 0 ≡ Some (bytes ++ 10 ∷ [])
the_line bytes after free = ap (λ (ls : List (List ℕ)). slice_get ls 0) (line_before bytes after free)

text_here : (text : List ℕ) (s : State) (line : ℕ) (bytes after : List ℕ) → IsReached text s line (bytes ++ 10 ∷ after) →
    HasNoFeed bytes → text_line text (line + 1) ≡ Some (bytes ++ 10 ∷ [])
text_here text s line bytes after r free =
    let place : line + 1 - 1 ≡ line = omega arith in
    ap (slice_get (lines_of text)) place ∙ line_here text s line (bytes ++ 10 ∷ after) r ∙ the_line bytes after free

node_at_line : (nodes : List Node) (m : ℕ) (node : Node) → slice_get nodes m ≡ Some node →
    slice_get (map node_line nodes) m ≡ Some (node_line node)
node_at_line [] m node e = absurd (cc e)
node_at_line (x ∷ nodes) zero node e = let is : x ≡ node = cc e in ap (λ (y : Node). Some (node_line y)) is
node_at_line (x ∷ nodes) (suc m) node e = node_at_line nodes m node e

second_repeats : (text : List ℕ) (s : State) (line : ℕ) (bytes after : List ℕ) → IsReached text s line (bytes ++ 10 ∷ after) →
    HasNoFeed bytes → NamesAgain s (words_in bytes) → RepeatsInput text (line + 1)
second_repeats text state.Titled line bytes after r free h = absurd h
second_repeats text (state.Named name) line bytes after r free h = absurd h
second_repeats text (state.Inputs d left) line bytes after r free h = absurd h
second_repeats text (state.Nodes d seen left) line bytes after r free h =
    let rest : List ℕ = bytes ++ 10 ∷ after in
    let s : State = state.Nodes d seen left in
    let node = node_line (Input h.0) in
    let stands = stands_there text s line rest r in
    let small : h.0 < length d.inputs = stands.1.there h.1 (Input h.0) h.2 in
    let few = stands.0.few in
    let front : List Line = title ∷ part_line d.name ∷ inputs_of d in
    let count : Line = count_line (codes "nodes") (length d.nodes + left) in
    let p : ℕ = length front + suc h.1 in
    let at : slice_get (title ∷ r.lines) p ≡ Some node =
    ap (λ (ls : List Line). slice_get ls p) (sym (lines_there text s line rest r))
    ∙ get_behind front (count ∷ map node_line d.nodes) (suc h.1) ∙ node_at_line d.nodes h.1 (Input h.0) h.2 in
    let within : p < length (title ∷ r.lines) = slice_get_within (title ∷ r.lines) p node at in
    let back : p + 1 - 1 ≡ p = omega arith in (
      h.0,
      p + 1,
      omega (arith, small, few),
      omega arith,
      omega (arith, within, r.number),
      ap (slice_get (lines_of text)) back ∙ text_at text s line rest r p (omega (arith, within, r.number))
          ∙ map_get (title ∷ r.lines) p node at,
      text_here text s line bytes after r free ∙ ap (λ (t : List ℕ). Some t) (sym (text_there node bytes (sym h.3))),
    )
second_repeats text (state.Outputs d left) line bytes after r free h = absurd h
second_repeats text (state.Tries t) line bytes after r free h = absurd h
second_repeats text (state.Queries t o) line bytes after r free h = absurd h
second_repeats text (state.Regs t o q k) line bytes after r free h = absurd h
second_repeats text (state.Frames t o q k run left) line bytes after r free h = absurd h
second_repeats text (state.Steps t o q k log) line bytes after r free h = absurd h
second_repeats text (state.Closing t) line bytes after r free h = absurd h
second_repeats text (state.Ended t) line bytes after r free h = absurd h

-- what stands for an input at a node's place, and in an earlier line
named_before : (text : List ℕ) (s : State) (line : ℕ) (rest : List ℕ) (ws : Words) → IsReached text s line rest → IsNodes s →
    (i k : ℕ) → i < 2 ^ 32 → k < line → slice_get (lines_of text) k ≡ Some (line_text (node_line (Input i))) →
    words_of (node_line (Input i)) ≡ ws → NamesAgain s ws
named_before text state.Titled line rest ws r n i k small less e is = n
named_before text (state.Named name) line rest ws r n i k small less e is = n
named_before text (state.Inputs d left) line rest ws r n i k small less e is = n
named_before text (state.Nodes d seen left) line rest ws r n i k small less e is =
    let s : State = state.Nodes d seen left in
    let found = map_at line_text (title ∷ r.lines) k (line_text (node_line (Input i)))
    (sym (text_at text s line rest r k less) ∙ e) in
    let plain = by_place (title ∷ r.lines) k found.0 (read_plain text s line rest r) found.1 in
    let words : words_of found.0 ≡ words_of (node_line (Input i)) =
    same_words found.0 (node_line (Input i)) plain (input_plain i small) (sym found.2) in
    let there = input_there d seen left k found.0 (decimal i)
    (ap (λ (ls : List Line). slice_get ls k) (lines_there text s line rest r) ∙ found.1) words in
    (there.0, there.1, there.2, sym is ∙ sym words ∙ ap words_of there.3)
named_before text (state.Outputs d left) line rest ws r n i k small less e is = n
named_before text (state.Tries t) line rest ws r n i k small less e is = n
named_before text (state.Queries t o) line rest ws r n i k small less e is = n
named_before text (state.Regs t o q k) line rest ws r n i j small less e is = n
named_before text (state.Frames t o q k run left) line rest ws r n i j small less e is = n
named_before text (state.Steps t o q k log) line rest ws r n i j small less e is = n
named_before text (state.Closing t) line rest ws r n i k small less e is = n
named_before text (state.Ended t) line rest ws r n i k small less e is = n

repeats_second : (text : List ℕ) (s : State) (line : ℕ) (bytes after : List ℕ) → IsReached text s line (bytes ++ 10 ∷ after) →
    HasNoFeed bytes → HasFormAt s (words_in bytes) → RepeatsInput text (line + 1) → NamesAgain s (words_in bytes)
repeats_second text s line bytes after r free form h =
    let now : line_text (node_line (Input h.0)) ≡ bytes ++ 10 ∷ [] =
    cc (sym h.6 ∙ text_here text s line bytes after r free) in
    let words : words_of (node_line (Input h.0)) ≡ words_in bytes =
    words_there (node_line (Input h.0)) bytes (input_plain h.0 h.2) now in
    let nodes : IsNodes s = input_form s form.0 form.1 (decimal h.0) form.2
    (subst (λ (ws : Words). HasForm form.0 ws) (sym words) form.3) in
    named_before text s line (bytes ++ 10 ∷ after) (words_in bytes) r nodes h.0 (h.1 - 1) h.2 (omega (arith, h.3, h.4))
    h.5 words

-- ---- the fault

not_first : (text : List ℕ) (s : State) (line : ℕ) (rest : List ℕ) → IsReached text s line rest → line + 1 ≢ 1
not_first text s line rest r e = absurd (omega (arith, e, r.number))

-- behind what was read the text breaks
breaks_with : (text : List ℕ) (s : State) (line : ℕ) (rest : List ℕ) (kind' : WitKind) → IsReached text s line rest →
    ((l : Line) (next : State) → MayComeNext s l next → slice_get (lines_of rest) 0 ≡ Some (line_text l) → ⊥) →
    ((t : Tally) → s ≡ state.Ended t → slice_get (lines_of rest) 0 ≡ None → ⊥) →
    HasKind text (line + 1) kind' → IsFirstFault text (line + 1) kind'
breaks_with text s line rest kind' r other ended h =
    let place : line ≡ line + 1 - 1 = omega arith in
    let good = begins_so text s line rest r in
    record {
      first = record {
        begins = (good.0, good.1, subst (λ (n : ℕ). AgreeOn n good.0 text) place good.2);
        breaks = breaks_here text s line rest r other ended;
      };
      kind_is = h;
    }

-- a line is there, and one is due
not_amiss : (text : List ℕ) (s : State) (line : ℕ) (rest here : List ℕ) → IsReached text s line rest →
    slice_get (lines_of rest) 0 ≡ Some here → (l : Line) → (next : State) → MayComeNext s l next → ¬ IsAmiss text (line + 1)
not_amiss text s line rest here r there l next f amiss = elim amiss [
  | inl none ↦
      let place : line ≡ line + 1 - 1 = omega arith in
      absurd (cc (sym none ∙ ap (slice_get (lines_of text)) (sym place) ∙ line_here text s line rest r ∙ there))
  | inr no_due ↦ absurd (no_due l (follows_due text s line rest r l next f))
]

kind_by : (text : List ℕ) (s : State) (line : ℕ) (bytes after : List ℕ) (kind' : WitKind) →
    IsReached text s line (bytes ++ 10 ∷ after) → HasNoFeed bytes → KindAt s (words_in bytes) kind' →
    HasKind text (line + 1) kind'
kind_by text s line bytes after kind.Head r free h = absurd h
kind_by text s line bytes after kind.End r free h = (
  not_first text s line (bytes ++ 10 ∷ after) r,
  inr (λ due d.
      let f = due_follows text s line (bytes ++ 10 ∷ after) r due d in
      absurd (subst (λ (x : State). MayComeNext x due f.0) h.1 f.1)),
)
kind_by text s line bytes after kind.Number r free h =
    let rest : List ℕ = bytes ++ 10 ∷ after in
    let form = h.0 in (
      not_first text s line rest r,
      not_amiss text s line rest (bytes ++ 10 ∷ []) r (the_line bytes after free) form.0 form.1 form.2,
      (
        (
          form.0,
          words_in bytes,
          follows_due text s line rest r form.0 form.1 form.2,
          form.3,
          text_here text s line bytes after r free ∙ ap (λ (t : List ℕ). Some t) (sym (words_back bytes)),
        ),
        λ again. h.1 (repeats_second text s line bytes after r free form again),
      ),
    )
kind_by text s line bytes after kind.Word r free h =
    let rest : List ℕ = bytes ++ 10 ∷ after in
    let some = some_follow text s line rest r h.0 in (
      not_first text s line rest r,
      not_amiss text s line rest (bytes ++ 10 ∷ []) r (the_line bytes after free) some.0 some.1 some.2,
      λ fault.
          let right = fault.0 in
          let f = due_follows text s line rest r right.0 right.2 in
          let plain = form_plain right.0 right.1
          (follows_plain s right.0 f.0 (stands_there text s line rest r) f.1) right.3 in
          let same : line_text (map Word right.1) ≡ bytes ++ 10 ∷ [] =
          cc (sym right.4 ∙ text_here text s line bytes after r free) in
          let words : right.1 ≡ words_in bytes =
          sym (words_again right.1) ∙ words_there (map Word right.1) bytes plain same in
          let form : HasFormAt s (words_in bytes) =
          (right.0, f.0, f.1, subst (λ (ws : Words). HasForm right.0 ws) words right.3) in
          fault.1 (second_repeats text s line bytes after r free (h.1 form)),
    )

-- a line that isn't one that may follow
pub fault_here : (text : List ℕ) (s : State) (line : ℕ) (bytes after : List ℕ) (kind' : WitKind) →
    IsReached text s line (bytes ++ 10 ∷ after) → HasNoFeed bytes → IsFaulty s (words_in bytes) kind' →
    IsFirstFault text (line + 1) kind'
fault_here text s line bytes after kind' r free h =
    let stands = stands_there text s line (bytes ++ 10 ∷ after) r in
    breaks_with text s line (bytes ++ 10 ∷ after) kind' r
    (λ l next f e.
    let same : line_text l ≡ bytes ++ 10 ∷ [] = cc (sym e ∙ the_line bytes after free) in
    h.refused l next f (words_there l bytes (follows_plain s l next stands f) same))
    (λ t is e. absurd (cc (sym e ∙ the_line bytes after free))) (kind_by text s line bytes after kind' r free h.kind_is)

-- the text ends, and the reading isn't over
pub fault_at_end : (text : List ℕ) (s : State) (line : ℕ) → IsReached text s line [] →
    ((t : Tally) → s ≡ state.Ended t → ⊥) → IsFirstFault text (line + 1) kind.End
fault_at_end text s line r going =
    let place : line + 1 - 1 ≡ line = omega arith in
    breaks_with text s line [] kind.End r (λ l next f e. absurd (cc e)) (λ t is e. going t is)
    (not_first text s line [] r, inl (ap (slice_get (lines_of text)) place ∙ line_here text s line [] r))

-- a line feed ends no bytes without one
no_end : (front bytes : List ℕ) → HasNoFeed bytes → front ++ 10 ∷ [] ≡ bytes → ⊥
no_end [] [] h e = absurd (cc e)
no_end [] (b ∷ bytes) h e =
    let is : 10 ≡ b = cc (e) in
    let P : ℕ → Type 0 = λ c. (c == 10) ≡ false in
    absurd (cc (subst P (sym is) h.0))
no_end (x ∷ front) [] h e = absurd (cc e)
no_end (x ∷ front) (b ∷ bytes) h e = no_end front bytes h.1 (cc (e))

no_text : (l : Line) (bytes : List ℕ) → HasNoFeed bytes → line_text l ≡ bytes → ⊥
no_text [] bytes h e = no_end [] bytes h e
no_text (field ∷ fields) bytes h e = no_end (field_text field ++ spaced_fields fields) bytes h
    (append_assoc (field_text field) (spaced_fields fields) (10 ∷ []) ∙ e)

-- the last line has no line feed
pub fault_without_feed : (text : List ℕ) (s : State) (line b : ℕ) (bytes : List ℕ) → IsReached text s line (b ∷ bytes) →
    HasNoFeed (b ∷ bytes) → ((t : Tally) → s ≡ state.Ended t → ⊥) → IsFirstFault text (line + 1) kind.Word
fault_without_feed text s line b bytes r free going =
    let rest : List ℕ = b ∷ bytes in
    let there : slice_get (lines_of rest) 0 ≡ Some rest = ap (λ (ls : List (List ℕ)). slice_get ls 0) (one_line b bytes free) in
    let some = some_follow text s line rest r going in
    let place : line + 1 - 1 ≡ line = omega arith in
    let here : text_line text (line + 1) ≡ Some rest =
    ap (slice_get (lines_of text)) place ∙ line_here text s line rest r ∙ there in
    breaks_with text s line rest kind.Word r
    (λ l next f e. no_text l rest free (cc (sym e ∙ there)))
    (λ t is e. going t is) (
      not_first text s line rest r,
      not_amiss text s line rest rest r there some.0 some.1 some.2,
      λ fault. let right = fault.0 in no_text (map Word right.1) rest free (cc (sym right.4 ∙ here)),
    )

no_none : (b : ℕ) (bytes : List ℕ) → slice_get (lines_of (b ∷ bytes)) 0 ≡ None → ⊥
no_none b bytes e = by_test' (b == 10) b (lines_of bytes) e where
  by_test' : (t : Bool) (b : ℕ) (ls : List (List ℕ)) → slice_get (cond t ((10 ∷ []) ∷ ls) (with_byte b ls)) 0 ≡ None → ⊥
  by_test' true b ls e = absurd (cc e)
  by_test' false b [] e = absurd (cc e)
  by_test' false b (l ∷ ls) e = absurd (cc e)

-- something stands behind the last line
pub fault_behind : (text : List ℕ) (t : Tally) (line b : ℕ) (bytes : List ℕ) → IsReached text (state.Ended t) line (b ∷ bytes) →
    IsFirstFault text (line + 1) kind.End
fault_behind text t line b bytes r =
    breaks_with text (state.Ended t) line (b ∷ bytes) kind.End r (λ l next f e. absurd f)
    (λ u is e. no_none b bytes e) (
      not_first text (state.Ended t) line (b ∷ bytes) r,
      inr (λ due d. absurd ((due_follows text (state.Ended t) line (b ∷ bytes) r due d).1)),
    )

-- ---- the first line

pub fault_at_first : FaultAtFirst
fault_at_first text none =
    let c = goes_on state.Titled tt in
    record {
      first = record {
        begins = (
          text_of_evidence c.evidence,
          (c.evidence, record { plain = c.typed; text_is = refl }),
          λ k less. absurd (omega (arith, less)),
        );
        breaks = λ good is agree.
            let e : Evidence = is.0 in
            let theirs : slice_get (lines_of good) 0 ≡ Some (line_text title) =
            ap (λ (g : List ℕ). slice_get (lines_of g) 0) is.1.text_is
            ∙ ap (λ (ls : List (List ℕ)). slice_get ls 0) (evidence_lines_of e is.1.plain) in
            let begins = first_line text (line_text title) (sym (agree 0 (omega arith)) ∙ theirs) in
            none begins.0 begins.1;
      };
      kind_is = refl;
    }

-- ---- the last line

pub makes_evidence : MakesEvidence
makes_evidence text t line rest r = make_evidence t (stands_there text (state.Ended t) line rest r)

pub ends_with_evidence : EndsWithEvidence
ends_with_evidence text t line e r part heads decided =
    let s : State = state.Ended t in
    let stands = stands_there text s line [] r in
    let all : lines_of_evidence e ≡ lines_read s =
    ap (λ (p : Part). evidence_lines p e.heads e.decided) part ∙ ap (λ (hs : List Head). evidence_lines t.part hs e.decided) heads
    ∙ ap (evidence_lines t.part t.heads) decided ∙ sym (ended_lines t) in
    record {
      plain = typed_by t e stands part heads decided;
      text_is = r.text_is ∙ append-nil (lines_text (title ∷ r.lines)) ∙ ap lines_text (sym (all ∙ lines_there text s line [] r));
    }
