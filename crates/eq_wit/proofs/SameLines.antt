-- Lines that may follow are lines of words, and by their words it is told where the reading stands behind them.
use Rattle.std.proofs.Common.{◌≡◌, ℕ, ◌+◌, ◌^◌, ◌<◌, zero, suc, Bool, true, false, cond, List, [], ◌∷◌, ◌++◌, length, arith, refl, sym, ap, ap₂, ◌∙◌, subst}
use Rattle.std.specs.Prelude.{codes, not}
use Rattle.std.specs.Fmt.{decimal}
use Rattle.std.specs.Str.{bytes_eq}
use Rattle.eq_bits.specs.declared.node.Node.{Node}
use Rattle.eq_bits.specs.declared.part.Part.{Part}
use Rattle.eq_bits.specs.declared.run.Run.{Run}
use Rattle.eq_proof.specs.Derivation.{nonempty_of}
use Rattle.eq_proof.specs.Inference.{Inference}
use Rattle.eq_unroll.specs.declared.query.Query.{Query}
use Rattle.eq_unroll.specs.Query.{frame_count}
use Rattle.eq_wit.specs.declared.types.Head.{Head}
use Rattle.eq_wit.specs.declared.state.Draft.{Draft}
use Rattle.eq_wit.specs.declared.state.Tally.{Tally}
use Rattle.eq_wit.specs.declared.state.Open.{Open}
use Rattle.eq_wit.specs.declared.state.Steps.{Steps}
use Rattle.eq_wit.specs.declared.state.State.{State}
use Rattle.eq_wit.specs.declared.state.State.TheVariants as state
use Rattle.eq_wit.specs.Line.{Line}
use Rattle.eq_wit.specs.Texts.{end_line, frame_line, head_line, name_line, node_line, output_line, regs_line, step_fields}
use Rattle.eq_wit.specs.declared.state.Due.{Due}
use Rattle.eq_wit.specs.declared.state.Due.TheVariants.{Run as a_run, Log as a_log}
use Rattle.eq_wit.specs.declared.state.Question.{Question}
use Rattle.eq_wit.specs.inner.Reading.{FitsDue, MayComeNext, MayComeFrames, MayComeInputs, MayComeNodes, MayComeOutputs, MayComeQueries, MayComeSteps, MayComeTries, IsHead, IsMadeFrom, IsQuestion, MayStand, behind_query, begun, count_line, in_frames, in_steps, marked, one_less, opened, part_line, query_line, untried, with_conflicts, with_frame, with_input, with_left, with_node, with_output, with_try}
use Rattle.eq_wit.specs.inner.Standing.{Stands}
use Rattle.eq_wit.proofs.Counts.{few_clauses}
use Rattle.eq_wit.proofs.Decoded.{end_from, end_is, head_from, query_from, query_is}
use Rattle.eq_wit.proofs.Decoding.{FitsNode, bits_are, bits_from, node_from, node_is, num, num_is, output_from, output_is, step_from, step_is, word_at}
use Rattle.eq_wit.proofs.OneEvidence.{same_part}
use Rattle.eq_wit.proofs.Plain.{bits_word_stays, by_test, count_plain, end_plain, name_plain, node_plain, output_plain, query_stays, step_plain, verdict_plain}
use Rattle.eq_wit.proofs.Sizes.{end_fits, node_fits, step_fits}
use Rattle.eq_wit.proofs.Words.{IsPlainLine, IsWord-decimal, IsWord-name, Words, words_of}

-- ---- the same words

-- where a function of the words gives what a line says, lines of the same words say the same
same_by : {X : Type 0} (make : X → State) (read : Words → X) (line : X → Line) (x y : X) (l m : Line) (a b : State) →
    read (words_of (line x)) ≡ x → read (words_of (line y)) ≡ y → l ≡ line x → m ≡ line y → a ≡ make x → b ≡ make y →
    words_of l ≡ words_of m → a ≡ b
same_by {X} make read line x y l m a b p q e g h k same =
    let equal : x ≡ y = sym p ∙ ap (λ (n : Line). read (words_of n)) (sym e) ∙ ap read same
    ∙ ap (λ (n : Line). read (words_of n)) g ∙ q in
    h ∙ ap make equal ∙ sym k

abbrev count_from : Words → ℕ
count_from ws = num (word_at ws 1)

abbrev due_from : Words → Due
due_from ws = cond (bytes_eq (word_at ws 2) (codes "sat")) a_run
    (a_log (not (bytes_eq (word_at ws 2) (codes "unsat"))) (num (word_at ws 3)))

due_is : (q : Query) (k : ℕ) (due : Due) → FitsDue due → due_from (words_of (query_line q k due)) ≡ due
due_is q k a_run h = refl
due_is q k (a_log false n) h = ap (a_log false) (num_is n (omega (arith, h)))
due_is q k (a_log true n) h = ap (a_log true) (num_is n (omega (arith, h)))

abbrev question_from : Words → Question
question_from ws = record { query = query_from (word_at ws 0); k = num (word_at ws 1); due = due_from ws }

question_is : (part : Part) (a : Question) → IsQuestion part a →
    question_from (words_of (query_line a.query a.k a.due)) ≡ a
question_is part a h =
    let few = h.unrollable.few_cycles in
    ap₂ (λ (q : Query) (k : ℕ). let x : Question =
    record { query = q; k = k; due = due_from (words_of (query_line a.query a.k a.due)) } in x)
    (query_is a.query) (num_is a.k (omega (arith, few)))
    ∙ ap (λ (due : Due). let x : Question = record { query = a.query; k = a.k; due = due } in x)
    (due_is a.query a.k a.due h.fits)

abbrev headed_from : Words → Head × ℕ
headed_from ws = (head_from ws, num (word_at ws 4))

headed_is : (part : Part) (h : Head × ℕ) → IsHead part h.0 h.1 → headed_from (words_of (head_line h.0 h.1)) ≡ h
headed_is part h is =
    let limits = is.limits in
    let few = is.few in
    ap₂ (λ (depth conflicts : ℕ). let x : Head = record { name = h.0.name; depth = depth; conflicts = conflicts } in
    let y : Head × ℕ = (x, num (decimal h.1)) in y)
    (num_is h.0.depth (omega (arith, limits.depth))) (num_is h.0.conflicts (omega (arith, limits.conflicts)))
    ∙ ap (λ (n : ℕ). let y : Head × ℕ = (h.0, n) in y) (num_is h.1 (omega (arith, few)))

inputs_same : (d : Draft) (left : ℕ) (l m : Line) (a b : State) → MayComeInputs d left l a → MayComeInputs d left m b →
    words_of l ≡ words_of m → a ≡ b
inputs_same d zero l m a b f g e = same_by (λ n. state.Nodes d _ n) count_from (count_line (codes "nodes")) f.0 g.0 l m a b
    (num_is f.0 (omega (arith, f.1))) (num_is g.0 (omega (arith, g.1))) f.2 g.2 f.3 g.3 e
inputs_same d (suc left) l m a b f g e = same_by (λ name. state.Inputs (with_input d name) left) (λ ws. word_at ws 0) name_line
    f.0 g.0 l m a b refl refl f.2 g.2 f.3 g.3 e

nodes_same : (d : Draft) (seen : List Bool) (left : ℕ) (l m : Line) (a b : State) → Stands (state.Nodes d seen left) →
    MayComeNodes d seen left l a → MayComeNodes d seen left m b → words_of l ≡ words_of m → a ≡ b
nodes_same d seen zero l m a b h f g e = same_by (state.Outputs d) count_from (count_line (codes "outputs")) f.0 g.0 l m a b
    (num_is f.0 (omega (arith, f.1.0))) (num_is g.0 (omega (arith, g.1.0))) f.2 g.2 f.3 g.3 e
nodes_same d seen (suc left) l m a b h f g e =
    let few = h.1.few in
    let inputs = h.0.few in
    let fits : (node : Node) → MayStand d (length d.nodes + suc left) node → FitsNode node = λ node may. node_fits (length d.nodes + suc left) (length d.nodes)
    (length d.inputs) node few (omega arith) (omega (arith, inputs)) may.operands may.input in
    same_by (λ node. state.Nodes (with_node d node) (marked node seen) left) node_from node_line f.0 g.0 l m a b
    (node_is f.0 (fits f.0 f.1)) (node_is g.0 (fits g.0 g.1)) f.2 g.2 f.3 g.3 e

outputs_same : (d : Draft) (left : ℕ) (l m : Line) (a b : State) → Stands (state.Outputs d left) →
    MayComeOutputs d left l a → MayComeOutputs d left m b → words_of l ≡ words_of m → a ≡ b
outputs_same d zero l m a b h f g e =
    let p : IsMadeFrom d f.0.0 = f.1.0 in
    let q : IsMadeFrom d g.0.0 = g.1.0 in
    let part : f.0.0 ≡ g.0.0 = same_part f.0.0 g.0.0 (p.name ∙ sym q.name) (p.inputs ∙ sym q.inputs) (p.nodes ∙ sym q.nodes)
    (p.outputs ∙ sym q.outputs) in
    same_by (λ n. state.Tries (untried g.0.0 n)) count_from (count_line (codes "attempts")) f.0.1 g.0.1 l m a b
    (num_is f.0.1 (omega (arith, f.1.1))) (num_is g.0.1 (omega (arith, g.1.1))) f.2 g.2
    (f.3 ∙ ap (λ (x : Part). state.Tries (untried x f.0.1)) part) g.3 e
outputs_same d (suc left) l m a b h f g e =
    let few = h.1.few in
    same_by (λ o. state.Outputs (with_output d o) left) output_from output_line f.0 g.0 l m a b
    (output_is f.0 (omega (arith, f.1.1.0, few), omega (arith, f.1.1.1, few)))
    (output_is g.0 (omega (arith, g.1.1.0, few), omega (arith, g.1.1.1, few))) f.2 g.2 f.3 g.3 e

tries_same : (t : Tally) (left : ℕ) (l m : Line) (a b : State) → MayComeTries t left l a → MayComeTries t left m b →
    words_of l ≡ words_of m → a ≡ b
tries_same t zero l m a b f g e = f.1 ∙ sym g.1
tries_same t (suc left) l m a b f g e = same_by (λ h. state.Queries (with_left t left) (opened h.0 h.1)) headed_from
    (λ h. head_line h.0 h.1) f.0 g.0 l m a b (headed_is t.part f.0 f.1) (headed_is t.part g.0 g.1) f.2 g.2 f.3 g.3 e

queries_same : (t : Tally) (o : Open) (left : ℕ) (l m : Line) (a b : State) → MayComeQueries t o left l a →
    MayComeQueries t o left m b → words_of l ≡ words_of m → a ≡ b
queries_same t o zero l m a b f g e = same_by (λ x. state.Tries (with_try t o x)) end_from end_line f.0 g.0 l m a b
    (end_is f.0 (end_fits f.0 f.1)) (end_is g.0 (end_fits g.0 g.1)) f.2 g.2 f.3 g.3 e
queries_same t o (suc left) l m a b f g e =
    same_by (λ x. behind_query t (one_less o left) x.query x.k x.due) question_from (λ x. query_line x.query x.k x.due)
    f.0 g.0 l m a b (question_is t.part f.0 f.1) (question_is t.part g.0 g.1) f.2 g.2 f.3 g.3 e

abbrev bits_in : Words → List Bool
bits_in ws = bits_from (word_at ws 1)

frames_same : (t : Tally) (o : Open) (q : Query) (k : ℕ) (run : Run) (left : ℕ) (l m : Line) (a b : State) →
    MayComeFrames t o q k run left l a → MayComeFrames t o q k run left m b → words_of l ≡ words_of m → a ≡ b
frames_same t o q k run zero l m a b f g e = absurd f
frames_same t o q k run (suc left) l m a b f g e =
    same_by (λ frame. in_frames t o q k (with_frame run frame) left) bits_in frame_line f.0 g.0 l m a b
    (bits_are f.0) (bits_are g.0) f.2 g.2 f.3 g.3 e

steps_same : (t : Tally) (o : Open) (q : Query) (k : ℕ) (spent : Bool) (first : ℕ) (log : List Inference) (left : ℕ)
    (l m : Line) (a b : State) → MayComeSteps t o q k spent first log left l a →
    MayComeSteps t o q k spent first log left m b → words_of l ≡ words_of m → a ≡ b
steps_same t o q k spent first log zero l m a b f g e = absurd f
steps_same t o q k spent first log (suc left) l m a b f g e =
    let n = first + length log in
    same_by (λ step. in_steps (with_conflicts t (t.conflicts + nonempty_of (step ∷ []))) o q k spent first (log ++ step ∷ []) left)
    step_from (step_fields n) f.0 g.0 l m a b
    (step_is n f.0 (step_fits f.0 f.1.fits)) (step_is n g.0 (step_fits g.0 g.1.fits)) f.2 g.2 f.3 g.3 e

-- behind two lines of the same words the reading stands so
pub same_next : (s : State) (l m : Line) (a b : State) → Stands s → MayComeNext s l a → MayComeNext s m b →
    words_of l ≡ words_of m → a ≡ b
same_next state.Titled l m a b h f g e = same_by state.Named (λ ws. word_at ws 1) part_line f.0 g.0 l m a b refl refl
    f.2 g.2 f.3 g.3 e
same_next (state.Named name) l m a b h f g e = same_by (λ n. state.Inputs (begun name) n) count_from
    (count_line (codes "inputs")) f.0 g.0 l m a b (num_is f.0 (omega (arith, f.1))) (num_is g.0 (omega (arith, g.1)))
    f.2 g.2 f.3 g.3 e
same_next (state.Inputs d left) l m a b h f g e = inputs_same d left l m a b f g e
same_next (state.Nodes d seen left) l m a b h f g e = nodes_same d seen left l m a b h f g e
same_next (state.Outputs d left) l m a b h f g e = outputs_same d left l m a b h f g e
same_next (state.Tries t) l m a b h f g e = tries_same t t.left l m a b f g e
same_next (state.Queries t o) l m a b h f g e = queries_same t o o.left l m a b f g e
same_next (state.Regs t o q k) l m a b h f g e =
    same_by (λ regs. in_frames t o q k (record { regs = regs; inputs = [] }) (frame_count q k)) bits_in regs_line
    f.0 g.0 l m a b (bits_are f.0) (bits_are g.0) f.2 g.2 f.3 g.3 e
same_next (state.Frames t o q k run left) l m a b h f g e = frames_same t o q k run left l m a b f g e
same_next (state.Steps t o q k log) l m a b h f g e =
    steps_same t o q k log.spent log.first log.log log.left l m a b f g e
same_next (state.Closing t) l m a b h f g e = f.1 ∙ sym g.1
same_next (state.Ended t) l m a b h f g e = absurd f

-- ---- words

head_plain : (part : Part) (h : Head × ℕ) → IsHead part h.0 h.1 → IsPlainLine (head_line h.0 h.1)
head_plain part h is =
    let limits = is.limits in
    let few = is.few in (
      by_test (codes "attempt") refl,
      (
        IsWord-name h.0.name is.name,
        (
          IsWord-decimal h.0.depth (omega (arith, limits.depth)),
          (
            IsWord-decimal h.0.conflicts (omega (arith, limits.conflicts)),
            (IsWord-decimal h.1 (omega (arith, few)), tt),
          ),
        ),
      ),
    )

question_plain : (q : Query) (k : ℕ) (due : Due) → k < 2 ^ 64 → FitsDue due → IsPlainLine (query_line q k due)
question_plain q k a_run small h = (query_stays q, (IsWord-decimal k small, (by_test (codes "sat") refl, tt)))
question_plain q k (a_log false n) small h =
    (query_stays q, (IsWord-decimal k small, (by_test (codes "unsat") refl, (IsWord-decimal n (omega (arith, h)), tt))))
question_plain q k (a_log true n) small h =
    (query_stays q, (IsWord-decimal k small, (by_test (codes "spent") refl, (IsWord-decimal n (omega (arith, h)), tt))))

inputs_plain : (d : Draft) (left : ℕ) (l : Line) (a : State) → MayComeInputs d left l a → IsPlainLine l
inputs_plain d zero l a f =
    subst IsPlainLine (sym f.2) (count_plain (codes "nodes") f.0 (by_test (codes "nodes") refl) (omega (arith, f.1)))
inputs_plain d (suc left) l a f = subst IsPlainLine (sym f.2) (name_plain f.0 (IsWord-name f.0 f.1))

nodes_plain : (d : Draft) (seen : List Bool) (left : ℕ) (l : Line) (a : State) → Stands (state.Nodes d seen left) →
    MayComeNodes d seen left l a → IsPlainLine l
nodes_plain d seen zero l a h f =
    subst IsPlainLine (sym f.2) (count_plain (codes "outputs") f.0 (by_test (codes "outputs") refl) (omega (arith, f.1.0)))
nodes_plain d seen (suc left) l a h f =
    let few = h.1.few in
    let inputs = h.0.few in
    subst IsPlainLine (sym f.2) (node_plain f.0 (node_fits (length d.nodes + suc left) (length d.nodes) (length d.inputs) f.0
    few (omega arith) (omega (arith, inputs)) f.1.operands f.1.input))

outputs_plain : (d : Draft) (left : ℕ) (l : Line) (a : State) → Stands (state.Outputs d left) → MayComeOutputs d left l a →
    IsPlainLine l
outputs_plain d zero l a h f = subst IsPlainLine (sym f.2)
    (count_plain (codes "attempts") f.0.1 (by_test (codes "attempts") refl) (omega (arith, f.1.1)))
outputs_plain d (suc left) l a h f =
    let few = h.1.few in
    subst IsPlainLine (sym f.2)
    (output_plain f.0 (IsWord-name f.0.name f.1.0, omega (arith, f.1.1.0, few), omega (arith, f.1.1.1, few)))

tries_plain : (t : Tally) (left : ℕ) (l : Line) (a : State) → MayComeTries t left l a → IsPlainLine l
tries_plain t zero l a f = subst IsPlainLine (sym f.0) (verdict_plain _)
tries_plain t (suc left) l a f = subst IsPlainLine (sym f.2) (head_plain t.part f.0 f.1)

queries_plain : (t : Tally) (o : Open) (left : ℕ) (l : Line) (a : State) → MayComeQueries t o left l a → IsPlainLine l
queries_plain t o zero l a f = subst IsPlainLine (sym f.2) (end_plain f.0 (end_fits f.0 f.1))
queries_plain t o (suc left) l a f =
    let few = f.1.unrollable.few_cycles in
    subst IsPlainLine (sym f.2) (question_plain f.0.query f.0.k f.0.due (omega (arith, few)) f.1.fits)

frames_plain : (t : Tally) (o : Open) (q : Query) (k : ℕ) (run : Run) (left : ℕ) (l : Line) (a : State) →
    MayComeFrames t o q k run left l a → IsPlainLine l
frames_plain t o q k run zero l a f = absurd f
frames_plain t o q k run (suc left) l a f =
    subst IsPlainLine (sym f.2) (by_test (codes "in") refl, (bits_word_stays f.0, tt))

steps_plain : (t : Tally) (o : Open) (q : Query) (k : ℕ) (spent : Bool) (first : ℕ) (log : List Inference) (left : ℕ)
    (l : Line) (a : State) → first + length log < 2 ^ 64 → MayComeSteps t o q k spent first log left l a → IsPlainLine l
steps_plain t o q k spent first log zero l a small f = absurd f
steps_plain t o q k spent first log (suc left) l a small f =
    subst IsPlainLine (sym f.2) (step_plain (first + length log) f.0 small (step_fits f.0 f.1.fits))

-- the number of a log's next step
pub few_steps : (t : Tally) (o : Open) (q : Query) (k : ℕ) (log : Steps) → Stands (state.Steps t o q k log) →
    log.first + length log.log < 2 ^ 64
few_steps t o q k log h =
    let few = few_clauses t.part q k t.part.is_part.few_nodes t.part.is_part.few_outputs h.1.few_cycles in
    omega (arith, few, h.2.first, h.2.few)

-- a line that may follow is one of words
pub follows_plain : (s : State) (l : Line) (a : State) → Stands s → MayComeNext s l a → IsPlainLine l
follows_plain state.Titled l a h f = subst IsPlainLine (sym f.2) (by_test (codes "part") refl, (IsWord-name f.0 f.1, tt))
follows_plain (state.Named name) l a h f =
    subst IsPlainLine (sym f.2) (count_plain (codes "inputs") f.0 (by_test (codes "inputs") refl) (omega (arith, f.1)))
follows_plain (state.Inputs d left) l a h f = inputs_plain d left l a f
follows_plain (state.Nodes d seen left) l a h f = nodes_plain d seen left l a h f
follows_plain (state.Outputs d left) l a h f = outputs_plain d left l a h f
follows_plain (state.Tries t) l a h f = tries_plain t t.left l a f
follows_plain (state.Queries t o) l a h f = queries_plain t o o.left l a f
follows_plain (state.Regs t o q k) l a h f =
    subst IsPlainLine (sym f.2) (by_test (codes "regs") refl, (bits_word_stays f.0, tt))
follows_plain (state.Frames t o q k run left) l a h f = frames_plain t o q k run left l a f
follows_plain (state.Steps t o q k log) l a h f =
    steps_plain t o q k log.spent log.first log.log log.left l a (few_steps t o q k log h) f
follows_plain (state.Closing t) l a h f = subst IsPlainLine (sym f.0) (by_test (codes "end") refl, tt)
follows_plain (state.Ended t) l a h f = absurd f
