-- What a text comes to that was read line by line.
use Rattle.std.proofs.Common.{◌≡◌, ℕ, ◌+◌, ◌-◌, ◌<◌, List, [], ◌∷◌, ◌++◌, Result, Ok, Err, length, slice_get, arith, refl, sym, ap, ◌∙◌, subst, inl, inr, length-append}
use Rattle.std.specs.Prelude.{◌⊎◌, IfOk, IsErrOf, MatchResult}
use Rattle.std.proofs.lemmas.List.{append-nil}
use Rattle.eq_induct.specs.declared.types.Decided.{Decided}
use Rattle.eq_induct.specs.declared.types.PartVerdict.{PartVerdict}
use Rattle.eq_induct.specs.Outcome.{verdict_of}
use Rattle.eq_wit.specs.declared.state.State.{State}
use Rattle.eq_wit.specs.declared.state.State.TheVariants as state
use Rattle.eq_wit.specs.declared.state.Stop.{Stop}
use Rattle.eq_wit.specs.declared.state.Stop.TheVariants as stop
use Rattle.eq_wit.specs.declared.state.Tally.{Tally}
use Rattle.eq_wit.specs.declared.types.Evidence.{Evidence}
use Rattle.eq_wit.specs.declared.types.WitErr.{WitErr}
use Rattle.eq_wit.specs.declared.types.WitErr.TheVariants as err
use Rattle.eq_wit.specs.declared.types.WitKind.{WitKind}
use Rattle.eq_wit.specs.declared.types.WitKind.TheVariants as kind
use Rattle.eq_wit.specs.Evidence.{MakeEvidence}
use Rattle.eq_wit.specs.Faults.{IsFirstFault, Prints}
use Rattle.eq_wit.specs.Line.{line_text}
use Rattle.eq_wit.specs.inner.Counting.{IsAnswered, IsAt}
use Rattle.eq_wit.specs.inner.Judging.{HasNoFeed, IsFaulty, IsReached, StopsBy, words_in}
use Rattle.eq_wit.specs.inner.Reading.{title}
use Rattle.eq_wit.proofs.KindHere.{ends_with_evidence, fault_at_end, fault_behind, fault_here, fault_without_feed, makes_evidence}
use Rattle.eq_wit.proofs.OneEvidence.{one_evidence}
use Rattle.eq_wit.proofs.OneFault.{one_fault}

-- behind the first line
pub begins : (text rest : List ℕ) → text ≡ line_text title ++ rest → IsAt text state.Titled 1 rest
begins text rest e =
    let long : length (line_text title ++ rest) ≡ length (line_text title) + length rest =
    length-append (line_text title) rest in
    let six : length (line_text title) ≡ 6 = refl in
    record {
      reached = record {
        lines = [];
        runs = refl;
        text_is = e ∙ ap (λ (t : List ℕ). t ++ rest) (sym (append-nil (line_text title)));
        number = refl;
      };
      conflicts = omega arith;
      within = omega (arith, ap length e, long, six);
    }

pub empty_by : (xs : List ℕ) → length xs ≡ 0 → xs ≡ []
empty_by [] e = refl
empty_by (x ∷ xs) e = absurd (omega (arith, e))

-- ---- faults

pub stops_at_line : (text : List ℕ) (s : State) (line : ℕ) (bytes after : List ℕ) (k : WitKind) →
    IsAt text s line (bytes ++ 10 ∷ after) → HasNoFeed bytes → IsFaulty s (words_in bytes) k → IsFirstFault text (line + 1) k
stops_at_line text s line bytes after k h free fault = fault_here text s line bytes after k h.reached free fault

pub stops_by : (text : List ℕ) (s : State) (line : ℕ) (bytes after : List ℕ) (x : Stop) (r : WitErr) →
    IsAt text s line (bytes ++ 10 ∷ after) → HasNoFeed bytes → StopsBy (IsFaulty s (words_in bytes)) x →
    ((k : WitKind) → x ≡ stop.Fault k → r ≡ err.At (line + 1) k) → (x ≡ stop.Memory → r ≡ err.Memory) → IsAnswered text r
stops_by text s line bytes after (stop.Fault k) r h free fault at none =
    subst (IsAnswered text) (sym (at k refl)) (stops_at_line text s line bytes after k h free fault)
stops_by text s line bytes after stop.Memory r h free fault at none = subst (IsAnswered text) (sym (none refl)) tt

pub stops_at_end : (text : List ℕ) (s : State) (line : ℕ) → IsAt text s line [] → ((t : Tally) → s ≡ state.Ended t → ⊥) →
    IsFirstFault text (line + 1) kind.End
stops_at_end text s line h going = fault_at_end text s line h.reached going

pub stops_without_feed : (text : List ℕ) (s : State) (line : ℕ) (rest : List ℕ) → IsAt text s line rest → HasNoFeed rest →
    0 < length rest → ((t : Tally) → s ≡ state.Ended t → ⊥) → IsFirstFault text (line + 1) kind.Word
stops_without_feed text s line [] h free some going = absurd (omega (arith, some))
stops_without_feed text s line (b ∷ bytes) h free some going = fault_without_feed text s line b bytes h.reached free going

pub stops_behind : (text : List ℕ) (s : State) (t : Tally) (line : ℕ) (rest : List ℕ) → IsAt text s line rest →
    0 < length rest → s ≡ state.Ended t → IsFirstFault text (line + 1) kind.End
stops_behind text s t line [] h some e = absurd (omega (arith, some))
stops_behind text s t line (b ∷ bytes) h some e =
    fault_behind text t line b bytes (subst (λ (x : State). IsReached text x line (b ∷ bytes)) e h.reached)

-- ---- the last line

abbrev decided_with : Tally → PartVerdict → Decided
decided_with t v = record { tries = t.tries; verdict = v; conflicts = t.conflicts }

-- what was read makes an evidence
pub made_by : (text : List ℕ) (t : Tally) (line : ℕ) (v : PartVerdict) → IsReached text (state.Ended t) line [] →
    v ≡ verdict_of (slice_get t.tries (length t.tries - 1)) → MakeEvidence t.part t.heads (decided_with t v)
made_by text t line v r e = subst (λ (w : PartVerdict). MakeEvidence t.part t.heads (decided_with t w)) (sym e)
    (makes_evidence text t line [] r)

-- and the text is its text
pub printed_by : (text : List ℕ) (t : Tally) (line : ℕ) (v : PartVerdict) (e : Evidence) →
    IsReached text (state.Ended t) line [] → v ≡ verdict_of (slice_get t.tries (length t.tries - 1)) →
    e.part ≡ t.part → e.heads ≡ t.heads → e.decided ≡ decided_with t v → Prints e text
printed_by text t line v e r says part heads decided =
    ends_with_evidence text t line e r part heads (decided ∙ ap (decided_with t) says)

-- ---- the whole

abbrev ReadsAs : List ℕ → Result Evidence WitErr → Type 0
ReadsAs text result = MatchResult result (λ e. Prints e text) (IsAnswered text)

pub reads_evidence : (text : List ℕ) (result : Result Evidence WitErr) → ReadsAs text result → IfOk result (λ e. Prints e text)
reads_evidence text (Ok e) h = h
reads_evidence text (Err x) h = tt

pub names_fault : (text : List ℕ) (result : Result Evidence WitErr) → ReadsAs text result → (line : ℕ) (k : WitKind) →
    IsErrOf result (err.At line k) → IsFirstFault text line k
names_fault text result h line k e = subst (ReadsAs text) e h

-- an evidence's text is read as that evidence
pub only_evidence : (text : List ℕ) (result : Result Evidence WitErr) → ReadsAs text result → (e : Evidence) → Prints e text →
    MatchResult result (λ found. found ≡ e) (λ x. x ≡ err.Memory)
only_evidence text (Ok found) h e prints = one_evidence text found e h prints
only_evidence text (Err (err.At line k)) h e prints = absurd (one_fault.never_both text line k (e, prints) h)
only_evidence text (Err err.Memory) h e prints = refl

-- and a fault is named
pub only_fault : (text : List ℕ) (result : Result Evidence WitErr) → ReadsAs text result → (line : ℕ) (k : WitKind) →
    IsFirstFault text line k → IsErrOf result (err.At line k) ⊎ IsErrOf result err.Memory
only_fault text (Ok found) h line k fault = absurd (one_fault.never_both text line k (found, h) fault)
only_fault text (Err (err.At m j)) h line k fault =
    let same : m ≡ line = one_fault.line text m line j k h fault in
    let alike : j ≡ k = one_fault.kind text m line j k h fault in
    inl (ap (λ (n : ℕ). Err (err.At n j)) same ∙ ap (λ (i : WitKind). Err (err.At line i)) alike)
only_fault text (Err err.Memory) h line k fault = inr refl
