-- What is promised where a line is read, from what was seen to; and what stays behind the line.
use Rattle.std.proofs.Common.{◌≡◌, ℕ, ◌+◌, ◌^◌, ◌<◌, ◌≤◌, zero, suc, Bool, List, [], ◌∷◌, ◌++◌, Option, Some, length, slice_get, arith, refl, sym, ap, ◌∙◌, subst, inl, inr, append_assoc, length-append}
use Rattle.std.specs.Prelude.{nat_lt, replicate, None, slice_set}
use Rattle.std.proofs.lemmas.Bool.{cases_eq}
use Rattle.std.proofs.lemmas.List.{length-replicate}
use Rattle.std.proofs.lemmas.List.Sums.{count_by-le-length}
use Rattle.eq_bits.specs.declared.part.Part.{Part}
use Rattle.eq_bits.specs.declared.run.Run.{Run}
use Rattle.eq_proof.specs.Derivation.{nonempty_of}
use Rattle.eq_proof.specs.Inference.{Inference}
use Rattle.eq_unroll.specs.declared.query.Query.{Query}
use Rattle.eq_unroll.specs.Query.{IsUnrollable, frame_count}
use Rattle.eq_wit.specs.declared.counted.Counts.{Counts}
use Rattle.eq_wit.specs.declared.state.Draft.{Draft}
use Rattle.eq_wit.specs.declared.state.Due.{Due}
use Rattle.eq_wit.specs.declared.state.Due.TheVariants.{Run as a_run, Log as a_log}
use Rattle.eq_wit.specs.declared.state.Open.{Open}
use Rattle.eq_wit.specs.declared.state.State.{State}
use Rattle.eq_wit.specs.declared.state.State.TheVariants as state
use Rattle.eq_wit.specs.declared.state.Steps.{Steps}
use Rattle.eq_wit.specs.declared.state.Tally.{Tally}
use Rattle.eq_wit.specs.declared.types.WitKind.TheVariants as kind
use Rattle.eq_wit.specs.Line.{Line, line_text}
use Rattle.eq_wit.specs.Texts.{first_number}
use Rattle.eq_wit.specs.inner.Counting.{AreCounts, AreFirsts, HasCounts, IsAt, Keeps, conflicts_at}
use Rattle.eq_wit.specs.inner.Judging.{IsFaulty, TakesLine, words_in}
use Rattle.eq_wit.specs.inner.Reading.{MayAsk, MayComeFrames, MayComeInputs, MayComeNext, MayComeNodes, MayComeOutputs, MayComeQueries, MayComeSteps, MayComeTries, behind_query, in_frames, in_steps, one_less, with_conflicts}
use Rattle.eq_wit.specs.inner.Standing.{Stands}
use Rattle.eq_wit.proofs.Counts.{some_clauses}
use Rattle.eq_wit.proofs.FaultHere.{reached_more}
use Rattle.eq_wit.proofs.Lists.{length-set, replicate_at, set_other, set_same}
use Rattle.eq_wit.proofs.TextLines.{text_there}

-- ---- what is promised

-- a query can be asked where one is due
asked_by : (part : Part) (left : ℕ) → MayAsk part left → 0 < left → IsUnrollable part 1
asked_by part zero h some = absurd (omega (arith, some))
asked_by part (suc left) h some = h

pub may_ask : (t : Tally) (o : Open) → Stands (state.Queries t o) → 0 < o.left → IsUnrollable t.part 1
may_ask t o h some = asked_by t.part o.left h.asked.may some

pub few_tries : (t : Tally) (o : Open) → Stands (state.Queries t o) → length t.tries < 2 ^ 32
few_tries t o h = omega (arith, h.tries.few)

-- the number of a log's first step
pub from_two : (t : Tally) (o : Open) (q : Query) (k : ℕ) (x : Steps) → Stands (state.Steps t o q k x) → 1 < x.first
from_two t o q k x h = omega (arith, some_clauses t.part q k, h.2.first)

pub steps_due : (t : Tally) (o : Open) (q : Query) (k : ℕ) (x : Steps) → Stands (state.Steps t o q k x) → 0 < x.left
steps_due t o q k x h = h.3

pub few_left : (t : Tally) (o : Open) (q : Query) (k : ℕ) (x : Steps) → Stands (state.Steps t o q k x) →
    length x.log + x.left < 2 ^ 32
few_left t o q k x h = h.2.few

pub regs_may : (t : Tally) (o : Open) (q : Query) (k : ℕ) → Stands (state.Regs t o q k) → IsUnrollable t.part k
regs_may t o q k h = h.1

pub frames_due : (t : Tally) (o : Open) (q : Query) (k : ℕ) (run : Run) (left : ℕ) →
    Stands (state.Frames t o q k run left) → 0 < left
frames_due t o q k run left h = h.3

-- nothing may follow the last line
pub ended_faulty : (t : Tally) (ws : List (List ℕ)) → IsFaulty (state.Ended t) ws kind.End
ended_faulty t ws = record { refused = λ l next f e. f; kind_is = (t, refl) }

-- ---- what is known of the part

pub none_known : (part : Part) (q : Query) (firsts : List (Option ℕ)) → firsts ≡ replicate 65 None → AreFirsts part q firsts
none_known part q firsts e = record {
  long = ap length e ∙ length-replicate {A = Option ℕ} 65 None;
  known = λ k n at.
      absurd (cc (replicate_at {X = Option ℕ} 65 None k (Some n) (sym (ap (λ (xs : List (Option ℕ)). slice_get xs k) e) ∙ at)));
}

pub one_known : (part : Part) (q : Query) (firsts : List (Option ℕ)) (k : ℕ) → k < length firsts → AreFirsts part q firsts →
    AreFirsts part q (slice_set firsts k (Some (first_number part q k)))
one_known part q firsts k within h = record {
  long = length-set firsts k (Some (first_number part q k)) ∙ h.long;
  known = λ j n at. elim (cases_eq k j) [
    | inl same ↦
        let here : slice_get (slice_set firsts k (Some (first_number part q k))) k ≡ Some (Some (first_number part q k)) =
        set_same firsts k (Some (first_number part q k)) within in
        let found : slice_get (slice_set firsts k (Some (first_number part q k))) k ≡ Some (Some n) =
        subst (λ (i : ℕ). slice_get (slice_set firsts k (Some (first_number part q k))) i ≡ Some (Some n)) (sym same) at in
        let is : n ≡ first_number part q k = cc (sym found ∙ here) in
        is ∙ ap (first_number part q) same
    | inr differ ↦ h.known j n (sym (set_other firsts k j (Some (first_number part q k)) differ) ∙ at)
  ];
}

-- ---- what stays behind a line

one_conflict : (step : Inference) → nonempty_of (step ∷ []) ≤ 1
one_conflict step = count_by-le-length (λ (x : Inference). nat_lt 0 (length x.clause)) (step ∷ [])

inputs_keep : (d : Draft) (left : ℕ) (l : Line) (next : State) → MayComeInputs d left l next → Keeps (state.Inputs d left) next
inputs_keep d zero l next f = subst (Keeps (state.Inputs d 0)) (sym f.3) (record { counts = λ c h. h; conflicts = omega arith })
inputs_keep d (suc left) l next f =
    subst (Keeps (state.Inputs d (suc left))) (sym f.3) (record { counts = λ c h. h; conflicts = omega arith })

nodes_keep : (d : Draft) (seen : List Bool) (left : ℕ) (l : Line) (next : State) → MayComeNodes d seen left l next →
    Keeps (state.Nodes d seen left) next
nodes_keep d seen zero l next f =
    subst (Keeps (state.Nodes d seen 0)) (sym f.3) (record { counts = λ c h. h; conflicts = omega arith })
nodes_keep d seen (suc left) l next f =
    subst (Keeps (state.Nodes d seen (suc left))) (sym f.3) (record { counts = λ c h. h; conflicts = omega arith })

outputs_keep : (d : Draft) (left : ℕ) (l : Line) (next : State) → MayComeOutputs d left l next → Keeps (state.Outputs d left) next
outputs_keep d zero l next f =
    subst (Keeps (state.Outputs d 0)) (sym f.3) (record { counts = λ c h. h f.0.0; conflicts = omega arith })
outputs_keep d (suc left) l next f =
    subst (Keeps (state.Outputs d (suc left))) (sym f.3) (record { counts = λ c h. h; conflicts = omega arith })

-- the states of a try keep what is known of its part
record IsOf (part : Part) (conflicts : ℕ) (next : State) : Type 0 where
  counts : (c : Counts) → AreCounts part c → HasCounts next c
  same : conflicts_at next ≡ conflicts

frames_of : (t : Tally) (o : Open) (q : Query) (k : ℕ) (run : Run) (left : ℕ) →
    IsOf t.part t.conflicts (in_frames t o q k run left)
frames_of t o q k run zero = record { counts = λ c h. h; same = refl }
frames_of t o q k run (suc left) = record { counts = λ c h. h; same = refl }

steps_of : (t : Tally) (o : Open) (q : Query) (k : ℕ) (spent : Bool) (first : ℕ) (log : List Inference) (left : ℕ) →
    IsOf t.part t.conflicts (in_steps t o q k spent first log left)
steps_of t o q k spent first log zero = record { counts = λ c h. h; same = refl }
steps_of t o q k spent first log (suc left) = record { counts = λ c h. h; same = refl }

query_of : (t : Tally) (o : Open) (q : Query) (k : ℕ) (due : Due) → IsOf t.part t.conflicts (behind_query t o q k due)
query_of t o q k a_run = record { counts = λ c h. h; same = refl }
query_of t o q k (a_log spent n) = steps_of t o q k spent (first_number t.part q k) [] n

tries_keep : (t : Tally) (left : ℕ) (l : Line) (next : State) → MayComeTries t left l next → Keeps (state.Tries t) next
tries_keep t zero l next f = subst (Keeps (state.Tries t)) (sym f.1) (record { counts = λ c h. h; conflicts = omega arith })
tries_keep t (suc left) l next f =
    subst (Keeps (state.Tries t)) (sym f.3) (record { counts = λ c h. h; conflicts = omega arith })

queries_keep : (t : Tally) (o : Open) (left : ℕ) (l : Line) (next : State) → MayComeQueries t o left l next →
    Keeps (state.Queries t o) next
queries_keep t o zero l next f =
    subst (Keeps (state.Queries t o)) (sym f.3) (record { counts = λ c h. h; conflicts = omega arith })
queries_keep t o (suc left) l next f =
    let of = query_of t (one_less o left) f.0.query f.0.k f.0.due in
    subst (Keeps (state.Queries t o)) (sym f.3) (record { counts = of.counts; conflicts = omega (arith, of.same) })

frames_keep : (t : Tally) (o : Open) (q : Query) (k : ℕ) (run : Run) (left : ℕ) (l : Line) (next : State) →
    MayComeFrames t o q k run left l next → Keeps (state.Frames t o q k run left) next
frames_keep t o q k run zero l next f = absurd f
frames_keep t o q k run (suc left) l next f =
    let r : Run = record { regs = run.regs; inputs = run.inputs ++ f.0 ∷ [] } in
    let of = frames_of t o q k r left in
    subst (Keeps (state.Frames t o q k run (suc left))) (sym f.3)
    (record { counts = of.counts; conflicts = omega (arith, of.same) })

steps_keep : (t : Tally) (o : Open) (q : Query) (k : ℕ) (x : Steps) (left : ℕ) (l : Line) (next : State) →
    MayComeSteps t o q k x.spent x.first x.log left l next → Keeps (state.Steps t o q k x) next
steps_keep t o q k x zero l next f = absurd f
steps_keep t o q k x (suc left) l next f =
    let more = nonempty_of (f.0 ∷ []) in
    let of = steps_of (with_conflicts t (t.conflicts + more)) o q k x.spent x.first (x.log ++ f.0 ∷ []) left in
    subst (Keeps (state.Steps t o q k x)) (sym f.3)
    (record { counts = of.counts; conflicts = omega (arith, of.same, one_conflict f.0) })

pub keeps_on : (s : State) (l : Line) (next : State) → MayComeNext s l next → Keeps s next
keeps_on state.Titled l next f = subst (Keeps state.Titled) (sym f.3) (record { counts = λ c h. h; conflicts = omega arith })
keeps_on (state.Named name) l next f =
    subst (Keeps (state.Named name)) (sym f.3) (record { counts = λ c h. h; conflicts = omega arith })
keeps_on (state.Inputs d left) l next f = inputs_keep d left l next f
keeps_on (state.Nodes d seen left) l next f = nodes_keep d seen left l next f
keeps_on (state.Outputs d left) l next f = outputs_keep d left l next f
keeps_on (state.Tries t) l next f = tries_keep t t.left l next f
keeps_on (state.Queries t o) l next f = queries_keep t o o.left l next f
keeps_on (state.Regs t o q k) l next f =
    let r : Run = record { regs = f.0; inputs = [] } in
    let of = frames_of t o q k r (frame_count q k) in
    subst (Keeps (state.Regs t o q k)) (sym f.3) (record { counts = of.counts; conflicts = omega (arith, of.same) })
keeps_on (state.Frames t o q k run left) l next f = frames_keep t o q k run left l next f
keeps_on (state.Steps t o q k log) l next f = steps_keep t o q k log log.left l next f
keeps_on (state.Closing t) l next f =
    subst (Keeps (state.Closing t)) (sym f.1) (record { counts = λ c h. h; conflicts = omega arith })
keeps_on (state.Ended t) l next f = absurd f

-- ---- a line further

-- the reading has come a line further
pub one_further : (text : List ℕ) (s next : State) (line : ℕ) (bytes after : List ℕ) →
    IsAt text s line (bytes ++ 10 ∷ after) → TakesLine s (words_in bytes) next → IsAt text next (line + 1) after
one_further text s next line bytes after h f =
    let l : Line = f.0 in
    let there : bytes ++ 10 ∷ after ≡ line_text l ++ after =
    sym (ap (λ (t : List ℕ). t ++ after) (text_there l bytes f.2) ∙ append_assoc bytes (10 ∷ []) after) in
    let kept = keeps_on s l next f.1 in
    let long : length (bytes ++ 10 ∷ after) ≡ length bytes + length (10 ∷ after) = length-append bytes (10 ∷ after) in
    record {
      reached = reached_more text s next line l (bytes ++ 10 ∷ after) after h.reached f.1 there;
      conflicts = omega (arith, kept.conflicts, h.conflicts);
      within = omega (arith, long, h.within);
    }

pub kept_further : (s next : State) (ws : List (List ℕ)) (c : Counts) → TakesLine s ws next → HasCounts s c → HasCounts next c
kept_further s next ws c f h = (keeps_on s f.0 next f.1).counts c h
