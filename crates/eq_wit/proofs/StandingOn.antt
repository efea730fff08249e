-- What was seen to is so behind a line that may follow.
use Rattle.std.proofs.Common.{◌≡◌, ℕ, ◌+◌, ◌^◌, ◌<◌, zero, suc, Bool, true, false, List, [], ◌∷◌, ◌++◌, Some, length, slice_get, arith, refl, sym, ap, ◌∙◌, subst, inl, inr}
use Rattle.std.specs.Prelude.{All, slice_set}
use Rattle.std.proofs.lemmas.Bool.{cases_eq}
use Rattle.std.proofs.lemmas.List.{length-replicate, length_push}
use Rattle.std.proofs.lemmas.List.Elements.{All-push}
use Rattle.std.proofs.lemmas.List.Sums.{sum_by-append}
use Rattle.eq_names.specs.Name.{IsName}
use Rattle.eq_bits.specs.declared.node.Node.{Node}
use Rattle.eq_bits.specs.declared.node.Node.TheVariants.{Const, Input, Not, And, Xor, Mux, Buf, Reg}
use Rattle.eq_bits.specs.declared.part.Output.{Output}
use Rattle.eq_bits.specs.declared.part.Part.{Part}
use Rattle.eq_bits.specs.declared.run.Run.{Run}
use Rattle.eq_bits.specs.Node.{IsNode, NamesInput}
use Rattle.eq_bits.specs.Part.{NamesNodes}
use Rattle.eq_proof.specs.Derivation.{nonempty_of}
use Rattle.eq_proof.specs.Inference.{Inference}
use Rattle.eq_proof.specs.Lrat.{IsStep}
use Rattle.eq_unroll.specs.declared.query.Query.{Query}
use Rattle.eq_unroll.specs.Query.{IsUnrollable, frame_count}
use Rattle.eq_induct.specs.declared.types.Answer.{Answer}
use Rattle.eq_induct.specs.declared.types.Answer.TheVariants.{Sat, Unsat, Spent}
use Rattle.eq_induct.specs.declared.types.Asked.{Asked}
use Rattle.eq_induct.specs.declared.types.End.{End}
use Rattle.eq_induct.specs.declared.types.Try.{Try}
use Rattle.eq_induct.specs.Answers.{learned_for}
use Rattle.eq_induct.specs.Attempts.{learned}
use Rattle.eq_wit.specs.declared.state.Draft.{Draft}
use Rattle.eq_wit.specs.declared.state.Tally.{Tally}
use Rattle.eq_wit.specs.declared.state.Open.{Open}
use Rattle.eq_wit.specs.declared.state.State.{State}
use Rattle.eq_wit.specs.declared.state.State.TheVariants as state
use Rattle.eq_wit.specs.Evidence.{FitsQuery}
use Rattle.eq_wit.specs.Faults.{HasLog, IsShortEnd}
use Rattle.eq_wit.specs.Line.{Line}
use Rattle.eq_wit.specs.Texts.{first_number}
use Rattle.eq_wit.specs.declared.state.Due.{Due}
use Rattle.eq_wit.specs.declared.state.Due.TheVariants.{Run as a_run, Log as a_log}
use Rattle.eq_wit.specs.inner.Reading.{FitsDue, MayComeNext, MayComeFrames, MayComeInputs, MayComeNodes, MayComeOutputs, MayComeQueries, MayComeSteps, MayComeTries, IsMadeFrom, MayAsk, MayHave, MayStand, behind_query, begun, in_frames, in_steps, log_answer, marked, one_less, with_answer, with_conflicts, with_frame, with_node, with_try}
use Rattle.eq_wit.specs.inner.Standing.{AreMarks, HasRunSoFar, HasNamedInputs, HasNames, HasNodes, HasSteps, IsReadAsked, IsReadHead, IsReadTry, IsTrying, Stands, learned_by}
use Rattle.eq_wit.proofs.Lists.{All-none, at_end, get_end, get_front, length-set, more_at, none_at, replicate_at, set_other, set_same}

-- ---- the part

stands_begun : (name : List ℕ) (n : ℕ) → IsName name → n < 2 ^ 32 → Stands (state.Inputs (begun name) n)
stands_begun name n h small = (
  record {
    name = h;
    inputs = All-none IsName [] refl;
    few = omega (arith, small);
  },
  refl,
  refl,
)

inputs_on : (d : Draft) (left : ℕ) (l : Line) (s : State) → Stands (state.Inputs d left) → MayComeInputs d left l s → Stands s
inputs_on d zero l s h f =
    let none : length d.nodes ≡ 0 = ap length h.1 in
    subst Stands (sym f.3) (
      record { name = h.0.name; inputs = h.0.inputs; few = omega (arith, h.0.few) },
      record {
        few = omega (arith, none, f.1);
        operands = λ m node e. absurd (none_at d.nodes m node h.1 e);
        there = λ m node e. absurd (none_at d.nodes m node h.1 e);
        one_node = λ a b i e g. absurd (none_at d.nodes a (Input i) h.1 e);
      },
      record {
        long = length-replicate (length d.inputs) false;
        marked = λ i m e. absurd (none_at d.nodes m (Input i) h.1 e);
        found = λ i e. absurd (cc (replicate_at (length d.inputs) false i true e));
      },
      h.2,
    )
inputs_on d (suc left) l s h f = subst Stands (sym f.3) (
  record {
    name = h.0.name;
    inputs = All-push IsName d.inputs f.0 h.0.inputs f.1;
    few = omega (arith, length_push d.inputs f.0, h.0.few);
  },
  h.1,
  h.2,
)

-- marks stay where the node stands for no input
other_marks : (d : Draft) (seen : List Bool) (node : Node) → ((i : ℕ) → Input i ≡ node → ⊥) → AreMarks d seen →
    AreMarks (with_node d node) seen
other_marks d seen node other h = record {
  long = h.long;
  marked = λ i m e. elim (at_end d.nodes node m (Input i) e) [
    | inl before ↦ h.marked i m before
    | inr new ↦ absurd (other i new.1)
  ];
  found = λ i e. let old = h.found i e in (old.0, get_front d.nodes (node ∷ []) old.0 (Input i) old.1);
}

input_marks : (d : Draft) (seen : List Bool) (j : ℕ) → j < length d.inputs → AreMarks d seen →
    AreMarks (with_node d (Input j)) (slice_set seen j true)
input_marks d seen j small h =
    let within : j < length seen = omega (arith, h.long) in
    record {
      long = length-set seen j true ∙ h.long;
      marked = λ i m e. elim (cases_eq j i) [
        | inl same ↦ subst (λ (n : ℕ). slice_get (slice_set seen j true) n ≡ Some true) same (set_same seen j true within)
        | inr differ ↦ set_other seen j i true differ ∙ elim (at_end d.nodes (Input j) m (Input i) e) [
          | inl before ↦ h.marked i m before
          | inr new ↦ let same : i ≡ j = cc (new.1) in absurd (differ (sym same))
        ]
      ];
      found = λ i e. elim (cases_eq j i) [
        | inl same ↦ (
          length d.nodes,
          subst (λ (n : ℕ). slice_get (d.nodes ++ Input j ∷ []) (length d.nodes) ≡ Some (Input n)) same
              (get_end d.nodes (Input j)),
        )
        | inr differ ↦
            let old = h.found i (sym (set_other seen j i true differ) ∙ e) in
            (old.0, get_front d.nodes (Input j ∷ []) old.0 (Input i) old.1)
      ];
    }

marks_on : (d : Draft) (seen : List Bool) (node : Node) → NamesInput (length d.inputs) node → AreMarks d seen →
    AreMarks (with_node d node) (marked node seen)
marks_on d seen (Const b) small h = other_marks d seen (Const b) (λ i e. cc (e)) h
marks_on d seen (Input i) small h = input_marks d seen i small h
marks_on d seen (Not a) small h = other_marks d seen (Not a) (λ i e. cc (e)) h
marks_on d seen (And a b) small h = other_marks d seen (And a b) (λ i e. cc (e)) h
marks_on d seen (Xor a b) small h = other_marks d seen (Xor a b) (λ i e. cc (e)) h
marks_on d seen (Mux s a b) small h = other_marks d seen (Mux s a b) (λ i e. cc (e)) h
marks_on d seen (Buf a) small h = other_marks d seen (Buf a) (λ i e. cc (e)) h
marks_on d seen (Reg next init) small h = other_marks d seen (Reg next init) (λ i e. cc (e)) h

node_on : (d : Draft) (left : ℕ) (node : Node) → HasNodes d (length d.nodes + suc left) →
    MayStand d (length d.nodes + suc left) node → HasNodes (with_node d node) (length (d.nodes ++ node ∷ []) + left)
node_on d left node h f =
    let total : length d.nodes + suc left ≡ length (d.nodes ++ node ∷ []) + left = omega (arith, length_push d.nodes node) in
    subst (λ (n : ℕ). HasNodes (with_node d node) n) total (record {
      few = h.few;
      operands = more_at (IsNode (length d.nodes + suc left)) d.nodes node h.operands f.operands;
      there = more_at (λ i x. NamesInput (length d.inputs) x) d.nodes node h.there f.input;
      one_node = λ a b i e g. elim (at_end d.nodes node a (Input i) e) [
        | inl first ↦ elim (at_end d.nodes node b (Input i) g) [
          | inl second ↦ h.one_node a b i first second
          | inr last ↦ absurd (f.only a i (sym last.1) first)
        ]
        | inr last ↦ elim (at_end d.nodes node b (Input i) g) [
          | inl second ↦ absurd (f.only b i (sym last.1) second)
          | inr other ↦ last.0 ∙ sym other.0
        ]
      ];
    })

nodes_on : (d : Draft) (seen : List Bool) (left : ℕ) (l : Line) (s : State) → Stands (state.Nodes d seen left) →
    MayComeNodes d seen left l s → Stands s
nodes_on d seen zero l s h f =
    let all : length d.nodes + 0 ≡ length d.nodes = omega arith in
    let none : length d.outputs ≡ 0 = ap length h.3 in
    subst Stands (sym f.3) (
      h.0,
      subst (HasNodes d) all h.1,
      record {
        names = All-none (λ (o : Output). IsName o.name) d.outputs h.3;
        there = All-none (NamesNodes (length d.nodes)) d.outputs h.3;
        few = omega (arith, none, f.1.0);
        may = f.1.1;
      },
    )
nodes_on d seen (suc left) l s h f = subst Stands (sym f.3) (
  record { name = h.0.name; inputs = h.0.inputs; few = h.0.few },
  node_on d left f.0 h.1 f.1,
  marks_on d seen f.0 f.1.input h.2,
  h.3,
)

fewer_outputs : (nodes : List Node) (left : ℕ) → MayHave nodes (suc left) → MayHave nodes left
fewer_outputs nodes zero h = tt
fewer_outputs nodes (suc left) h = h

names_of : (d : Draft) (part : Part) → IsMadeFrom d part → HasNamedInputs d 0 → All (λ o. IsName o.name) d.outputs → HasNames part
names_of d part is h outputs = record {
  name = subst IsName (sym is.name) h.name;
  inputs = subst (λ (xs : List (List ℕ)). All IsName xs) (sym is.inputs) h.inputs;
  outputs = subst (λ (xs : List Output). All (λ o. IsName o.name) xs) (sym is.outputs) outputs;
}

outputs_on : (d : Draft) (left : ℕ) (l : Line) (s : State) → Stands (state.Outputs d left) → MayComeOutputs d left l s → Stands s
outputs_on d zero l s h f = subst Stands (sym f.3) (
  record {
    names = names_of d f.0.0 f.1.0 h.0 h.2.names;
    same = refl;
    few = omega (arith, f.1.1);
    heads = λ i head e. absurd (cc e);
    tries = λ i x e. absurd (cc e);
    few_conflicts = omega arith;
  },
  refl,
)
outputs_on d (suc left) l s h f = subst Stands (sym f.3) (
  record { name = h.0.name; inputs = h.0.inputs; few = h.0.few },
  record { few = h.1.few; operands = h.1.operands; there = h.1.there; one_node = h.1.one_node },
  record {
    names = All-push (λ (o : Output). IsName o.name) d.outputs f.0 h.2.names f.1.0;
    there = All-push (NamesNodes (length d.nodes)) d.outputs f.0 h.2.there f.1.1;
    few = omega (arith, length_push d.outputs f.0, h.2.few);
    may = fewer_outputs d.nodes left h.2.may;
  },
)

-- ---- tries

tries_on : (t : Tally) (left : ℕ) (l : Line) (s : State) → t.left ≡ left → Stands (state.Tries t) → MayComeTries t left l s →
    Stands s
tries_on t zero l s e h f = subst Stands (sym f.1) (
  record {
    names = h.0.names;
    same = h.0.same;
    few = omega (arith, h.0.few);
    heads = h.0.heads;
    tries = h.0.tries;
    few_conflicts = h.0.few_conflicts;
  },
  h.1,
)
tries_on t (suc left) l s e h f = subst Stands (sym f.3) (record {
  tries = record {
    names = h.0.names;
    same = h.0.same;
    few = omega (arith, h.0.few, e);
    heads = h.0.heads;
    tries = h.0.tries;
    few_conflicts = h.0.few_conflicts;
  };
  asked = record {
    head = record { name = f.1.name; limits = f.1.limits };
    few = omega (arith, f.1.few);
    asked = λ i a g. absurd (cc g);
    may = f.1.may;
  };
  conflicts = let same = h.1 in omega (arith, same);
})

fewer_asked : (part : Part) (left : ℕ) → MayAsk part (suc left) → MayAsk part left
fewer_asked part zero h = tt
fewer_asked part (suc left) h = h

-- a query more, with so many conflicts in its answer
answered_on : (t : Tally) (o : Open) (q : Query) (k : ℕ) (answer : Answer) →
    IsTrying t o (suc o.left) (learned_for answer) → IsUnrollable t.part k → FitsQuery t.part q k answer → HasLog answer →
    Stands (state.Queries t (with_answer o q k answer))
answered_on t o q k answer h unrollable fits log =
    let a : Asked = record { query = q; k = k; answer = answer } in
    let all : learned (o.asked ++ a ∷ []) ≡ learned o.asked + learned (a ∷ []) =
    sum_by-append (λ (x : Asked). learned_for x.answer) o.asked (a ∷ []) in
    let last : learned (a ∷ []) ≡ learned_for answer = omega arith in
    record {
      tries = h.tries;
      asked = record {
        head = h.asked.head;
        few = omega (arith, length_push o.asked a, h.asked.few);
        asked = more_at (λ i x. IsReadAsked t.part x) o.asked a h.asked.asked
            (record { fits = record { unrollable = unrollable; fits = fits }; typed = log });
        may = fewer_asked t.part o.left h.asked.may;
      };
      conflicts = let same = h.conflicts in omega (arith, same, all, last);
    }

frames_are : (t : Tally) (o : Open) (q : Query) (k : ℕ) (run : Run) (left : ℕ) → IsTrying t o (suc o.left) 0 →
    IsUnrollable t.part k → HasRunSoFar t.part q k run left → Stands (in_frames t o q k run left)
frames_are t o q k run zero h unrollable frames = answered_on t o q k (Sat run) h unrollable
    (record { regs = frames.regs; inputs = frames.inputs }, omega (arith, frames.cycles)) tt
frames_are t o q k run (suc left) h unrollable frames = (h, unrollable, frames, omega arith)

log_answer_on : (t : Tally) (o : Open) (q : Query) (k : ℕ) (spent : Bool) (log : List Inference) →
    IsTrying t o (suc o.left) (nonempty_of log) → IsUnrollable t.part k →
    HasSteps t.part q k (record { spent = spent; first = first_number t.part q k; log = log; left = 0 }) →
    Stands (state.Queries t (with_answer o q k (log_answer spent log)))
log_answer_on t o q k false log h unrollable steps = answered_on t o q k (Unsat log) h unrollable steps.earlier
    (record { few = omega (arith, steps.few); steps = steps.steps })
log_answer_on t o q k true log h unrollable steps = answered_on t o q k (Spent log) h unrollable steps.earlier
    (record { few = omega (arith, steps.few); steps = steps.steps })

steps_are : (t : Tally) (o : Open) (q : Query) (k : ℕ) (spent : Bool) (first : ℕ) (log : List Inference) (left : ℕ) →
    IsTrying t o (suc o.left) (nonempty_of log) → IsUnrollable t.part k →
    HasSteps t.part q k (record { spent = spent; first = first; log = log; left = left }) →
    Stands (in_steps t o q k spent first log left)
steps_are t o q k spent first log zero h unrollable steps = log_answer_on t o q k spent log h unrollable
    (subst (λ (n : ℕ). HasSteps t.part q k (record { spent = spent; first = n; log = log; left = 0 })) steps.first steps)
steps_are t o q k spent first log (suc left) h unrollable steps = (h, unrollable, steps, omega arith)

behind_on : (t : Tally) (o : Open) (q : Query) (k : ℕ) (due : Due) → IsTrying t o (suc o.left) 0 → IsUnrollable t.part k →
    FitsDue due → Stands (behind_query t o q k due)
behind_on t o q k a_run h unrollable fits = (h, unrollable)
behind_on t o q k (a_log spent n) h unrollable fits =
    steps_are t o q k spent (first_number t.part q k) [] n h unrollable (record {
      first = refl;
      few = omega (arith, fits);
      steps = All-none IsStep [] refl;
      earlier = λ place step e. absurd (cc e);
    })

try_on : (t : Tally) (o : Open) (e : End) → Stands (state.Queries t o) → o.left ≡ 0 → IsShortEnd e →
    Stands (state.Tries (with_try t o e))
try_on t o e h none short =
    let x : Try = record { strategy = length t.tries; attempt = record { asked = o.asked; end = e } } in
    let all : learned_by (t.tries ++ x ∷ []) ≡ learned_by t.tries + learned_by (x ∷ []) =
    sum_by-append (λ (y : Try). learned y.attempt.asked) t.tries (x ∷ []) in
    let last : learned_by (x ∷ []) ≡ learned o.asked = omega arith in (
      record {
        names = h.tries.names;
        same = omega (arith, length_push t.heads o.head, length_push t.tries x, h.tries.same);
        few = omega (arith, length_push t.tries x, h.tries.few);
        heads = more_at (λ i y. IsReadHead y) t.heads o.head h.tries.heads h.asked.head;
        tries = more_at (IsReadTry t.part) t.tries x h.tries.tries (record {
          fits = record { few = omega (arith, h.asked.few); asked = λ i a g. (h.asked.asked i a g).fits };
          typed = record { logs = λ i a g. (h.asked.asked i a g).typed; end = short };
          number = refl;
        });
        few_conflicts = h.tries.few_conflicts;
      },
      let same = h.conflicts in omega (arith, same, all, last),
    )

queries_on : (t : Tally) (o : Open) (left : ℕ) (l : Line) (s : State) → o.left ≡ left → Stands (state.Queries t o) →
    MayComeQueries t o left l s → Stands s
queries_on t o zero l s e h f = subst Stands (sym f.3) (try_on t o f.0 h e f.1)
queries_on t o (suc left) l s e h f = subst Stands (sym f.3) (behind_on t (one_less o left) f.0.query f.0.k f.0.due
    (record {
      tries = h.tries;
      asked = record {
        head = h.asked.head;
        few = omega (arith, h.asked.few, e);
        asked = h.asked.asked;
        may = subst (MayAsk t.part) e h.asked.may;
      };
      conflicts = h.conflicts;
    }) f.1.unrollable f.1.fits)

frames_on : (t : Tally) (o : Open) (q : Query) (k : ℕ) (run : Run) (left : ℕ) (l : Line) (s : State) →
    Stands (state.Frames t o q k run left) → MayComeFrames t o q k run left l s → Stands s
frames_on t o q k run zero l s h f = absurd f
frames_on t o q k run (suc left) l s h f = subst Stands (sym f.3) (frames_are t o q k (with_frame run f.0) left h.0 h.1
    (record {
      regs = h.2.regs;
      inputs = All-push (λ (frame : List Bool). length frame ≡ length t.part.inputs) run.inputs f.0 h.2.inputs f.1;
      cycles = omega (arith, length_push run.inputs f.0, h.2.cycles);
    }))

steps_on : (t : Tally) (o : Open) (q : Query) (k : ℕ) (spent : Bool) (first : ℕ) (log : List Inference) (left : ℕ)
    (l : Line) (s : State) → Stands (state.Steps t o q k (record { spent = spent; first = first; log = log; left = left })) →
    MayComeSteps t o q k spent first log left l s → Stands s
steps_on t o q k spent first log zero l s h f = absurd f
steps_on t o q k spent first log (suc left) l s h f =
    let step : Inference = f.0 in
    let more = nonempty_of (step ∷ []) in
    let all : nonempty_of (log ++ step ∷ []) ≡ nonempty_of log + more = sum_by-append _ log (step ∷ []) in
    let conflicts = h.0.conflicts in
    subst Stands (sym f.3) (steps_are (with_conflicts t (t.conflicts + more)) o q k spent first (log ++ step ∷ []) left
    (record {
      tries = record {
        names = h.0.tries.names;
        same = h.0.tries.same;
        few = h.0.tries.few;
        heads = h.0.tries.heads;
        tries = h.0.tries.tries;
        few_conflicts = f.1.few;
      };
      asked = h.0.asked;
      conflicts = omega (arith, conflicts, all);
    }) h.1
    (record {
      first = h.2.first;
      few = omega (arith, length_push log step, h.2.few);
      steps = All-push IsStep log step h.2.steps f.1.fits;
      earlier = more_at (λ place x. All (λ n. n < first + place) x.ants) log step h.2.earlier f.1.earlier;
    }))

-- ---- the whole

pub stands_on : (s : State) (l : Line) (next : State) → Stands s → MayComeNext s l next → Stands next
stands_on state.Titled l next h f = subst Stands (sym f.3) f.1
stands_on (state.Named name) l next h f = subst Stands (sym f.3) (stands_begun name f.0 h f.1)
stands_on (state.Inputs d left) l next h f = inputs_on d left l next h f
stands_on (state.Nodes d seen left) l next h f = nodes_on d seen left l next h f
stands_on (state.Outputs d left) l next h f = outputs_on d left l next h f
stands_on (state.Tries t) l next h f = tries_on t t.left l next refl h f
stands_on (state.Queries t o) l next h f = queries_on t o o.left l next refl h f
stands_on (state.Regs t o q k) l next h f = subst Stands (sym f.3) (frames_are t o q k (record { regs = f.0; inputs = [] })
    (frame_count q k) h.0 h.1 (record {
      regs = f.1;
      inputs = All-none (λ (frame : List Bool). length frame ≡ length t.part.inputs) [] refl;
      cycles = omega arith;
    }))
stands_on (state.Frames t o q k run left) l next h f = frames_on t o q k run left l next h f
stands_on (state.Steps t o q k log) l next h f = steps_on t o q k log.spent log.first log.log log.left l next h f
stands_on (state.Closing t) l next h f = subst Stands (sym f.1) h
stands_on (state.Ended t) l next h f = absurd f
