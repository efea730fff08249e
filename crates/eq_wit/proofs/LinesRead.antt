-- Behind a line that may follow, the lines that were read are one more.
use Rattle.std.proofs.Common.{◌≡◌, ℕ, ◌+◌, zero, suc, Bool, true, false, List, [], ◌∷◌, ◌++◌, length, map, arith, refl, sym, ap, ap₂, ◌∙◌, append_assoc, slice_get, ◌-◌}
use Rattle.std.specs.Prelude.{codes}
use Rattle.std.specs.List.{flat_map}
use Rattle.std.proofs.lemmas.List.{append-nil, length-map, length_push, map-append}
use Rattle.std.proofs.lemmas.Grind.{flat_map-append}
use Rattle.eq_bits.specs.declared.node.Node.{Node}
use Rattle.eq_bits.specs.declared.part.Output.{Output}
use Rattle.eq_bits.specs.declared.part.Part.{Part}
use Rattle.eq_bits.specs.declared.run.Run.{Run}
use Rattle.eq_proof.specs.Inference.{Inference}
use Rattle.eq_unroll.specs.declared.query.Query.{Query}
use Rattle.eq_unroll.specs.Query.{frame_count}
use Rattle.eq_induct.specs.declared.types.Answer.{Answer}
use Rattle.eq_induct.specs.declared.types.Answer.TheVariants.{Sat}
use Rattle.eq_induct.specs.declared.types.Asked.{Asked}
use Rattle.eq_induct.specs.declared.types.Try.{Try}
use Rattle.eq_induct.specs.Outcome.{verdict_of}
use Rattle.eq_wit.specs.declared.types.Head.{Head}
use Rattle.eq_wit.specs.declared.state.Draft.{Draft}
use Rattle.eq_wit.specs.declared.state.Tally.{Tally}
use Rattle.eq_wit.specs.declared.state.Open.{Open}
use Rattle.eq_wit.specs.declared.state.State.{State}
use Rattle.eq_wit.specs.declared.state.State.TheVariants as state
use Rattle.eq_wit.specs.Line.{Line}
use Rattle.eq_wit.specs.Texts.{asked_lines, attempt_lines, counted, end_line, first_number, frame_line, head_line, lines_of_part, log_lines, name_line, node_line, output_line, regs_line, step_fields, tries_lines, verdict_line}
use Rattle.eq_wit.specs.declared.state.Due.{Due}
use Rattle.eq_wit.specs.declared.state.Due.TheVariants.{Run as a_run, Log as a_log}
use Rattle.eq_wit.specs.inner.Reading.{MayComeNext, MayComeFrames, MayComeInputs, MayComeNodes, MayComeOutputs, MayComeQueries, MayComeSteps, MayComeTries, IsMadeFrom, behind_query, begun, count_line, in_frames, in_steps, last_line, log_answer, marked, one_less, opened, part_line, query_line, title, untried, with_answer, with_frame, with_input, with_left, with_node, with_output, with_try}
use Rattle.eq_wit.specs.inner.Standing.{Stands, inputs_of, lines_read, nodes_of, open_lines, query_lines, tally_lines}

abbrev IsOneMore : State → State → Line → Type 0
IsOneMore s next l = lines_read next ≡ lines_read s ++ l ∷ []

by_both : (s next new : State) (line l : Line) → new ≡ next → l ≡ line → IsOneMore s next line → IsOneMore s new l
by_both s next new line l e f h = ap lines_read e ∙ h ∙ ap (λ (x : Line). lines_read s ++ x ∷ []) (sym f)

-- ---- the part

module _ {X : Type 0} where
  -- a list with an element more
  grown : (key : List ℕ) (f : X → Line) (xs : List X) (x : X) (left : ℕ) →
      count_line key (length (xs ++ x ∷ []) + left) ∷ map f (xs ++ x ∷ [])
      ≡ (count_line key (length xs + suc left) ∷ map f xs) ++ f x ∷ []
  grown key f xs x left = ap₂ (λ (n : ℕ) (ls : List Line). count_line key n ∷ ls) (omega (arith, length_push xs x))
      (map-append f xs (x ∷ []))

  -- a list of which nothing is due
  whole : (key : List ℕ) (f : X → Line) (xs : List X) →
      counted key (map f xs) ≡ count_line key (length xs + 0) ∷ map f xs
  whole key f xs = ap (λ (n : ℕ). count_line key n ∷ map f xs) (omega (arith, length-map xs f))

  -- a list of which all is due
  none : (key : List ℕ) (f : X → Line) (xs : List X) (n : ℕ) → xs ≡ [] →
      count_line key (length xs + n) ∷ map f xs ≡ count_line key n ∷ []
  none key f xs n e = ap (λ (ys : List X). count_line key (length ys + n) ∷ map f ys) e
      ∙ ap (λ (k : ℕ). count_line key k ∷ []) (omega arith)

named : (name : List ℕ) (n : ℕ) → IsOneMore (state.Named name) (state.Inputs (begun name) n) (count_line (codes "inputs") n)
named name n = ap (λ (k : ℕ). title ∷ part_line name ∷ count_line (codes "inputs") k ∷ []) (omega arith)

inputs_step : (d : Draft) (left : ℕ) (l : Line) (s : State) → Stands (state.Inputs d left) → MayComeInputs d left l s →
    IsOneMore (state.Inputs d left) s l
inputs_step d zero l s h f = by_both (state.Inputs d 0) (state.Nodes d _ f.0) s (count_line (codes "nodes") f.0) l f.3 f.2
    (ap₂ (λ (xs ys : List Line). title ∷ part_line d.name ∷ (xs ++ ys)) (whole (codes "inputs") name_line d.inputs)
    (none (codes "nodes") node_line d.nodes f.0 h.1))
inputs_step d (suc left) l s h f = by_both (state.Inputs d (suc left)) (state.Inputs (with_input d f.0) left) s
    (name_line f.0) l f.3 f.2
    (ap (λ (ls : List Line). title ∷ part_line d.name ∷ ls) (grown (codes "inputs") name_line d.inputs f.0 left))

nodes_step : (d : Draft) (seen : List Bool) (left : ℕ) (l : Line) (s : State) → Stands (state.Nodes d seen left) →
    MayComeNodes d seen left l s → IsOneMore (state.Nodes d seen left) s l
nodes_step d seen zero l s h f =
    let xs : List Line = inputs_of d in
    let ys : List Line = count_line (codes "nodes") (length d.nodes + 0) ∷ map node_line d.nodes in
    by_both (state.Nodes d seen 0) (state.Outputs d f.0) s (count_line (codes "outputs") f.0) l f.3 f.2
    (ap₂ (λ (bs cs : List Line). title ∷ part_line d.name ∷ (xs ++ (bs ++ cs))) (whole (codes "nodes") node_line d.nodes)
    (none (codes "outputs") output_line d.outputs f.0 h.3)
    ∙ ap (λ (ls : List Line). title ∷ part_line d.name ∷ ls) (sym (append_assoc xs ys (count_line (codes "outputs") f.0 ∷ []))))
nodes_step d seen (suc left) l s h f =
    let xs : List Line = inputs_of d in
    let ys : List Line = count_line (codes "nodes") (length d.nodes + suc left) ∷ map node_line d.nodes in
    by_both (state.Nodes d seen (suc left)) (state.Nodes (with_node d f.0) (marked f.0 seen) left) s (node_line f.0) l f.3 f.2
    (ap (λ (ls : List Line). title ∷ part_line d.name ∷ (xs ++ ls)) (grown (codes "nodes") node_line d.nodes f.0 left)
    ∙ ap (λ (ls : List Line). title ∷ part_line d.name ∷ ls) (sym (append_assoc xs ys (node_line f.0 ∷ []))))

abbrev part_lines : List ℕ → List (List ℕ) → List Node → List Output → List Line
part_lines name inputs nodes outputs = title ∷ part_line name ∷ (counted (codes "inputs") (map name_line inputs) ++
    (counted (codes "nodes") (map node_line nodes) ++ counted (codes "outputs") (map output_line outputs)))

same_lines : (d : Draft) (part : Part) → IsMadeFrom d part →
    title ∷ lines_of_part part ≡ part_lines d.name d.inputs d.nodes d.outputs
same_lines d part h = ap (λ (n : List ℕ). part_lines n part.inputs part.nodes part.outputs) h.name
    ∙ ap (λ (xs : List (List ℕ)). part_lines d.name xs part.nodes part.outputs) h.inputs
    ∙ ap (λ (xs : List Node). part_lines d.name d.inputs xs part.outputs) h.nodes
    ∙ ap (λ (xs : List Output). part_lines d.name d.inputs d.nodes xs) h.outputs

outputs_step : (d : Draft) (left : ℕ) (l : Line) (s : State) → MayComeOutputs d left l s →
    IsOneMore (state.Outputs d left) s l
outputs_step d zero l s f =
    let n = f.0.1 in
    let last : List Line = count_line (codes "attempts") n ∷ [] in
    by_both (state.Outputs d 0) (state.Tries (untried f.0.0 n)) s (count_line (codes "attempts") n) l f.3 f.2
    (ap₂ (λ (ls : List Line) (k : ℕ). ls ++ count_line (codes "attempts") k ∷ []) (same_lines d f.0.0 f.1.0) (omega arith)
    ∙ ap (λ (ls : List Line). (title ∷ part_line d.name ∷ (inputs_of d ++ (nodes_of d ++ ls))) ++ last)
    (whole (codes "outputs") output_line d.outputs))
outputs_step d (suc left) l s f =
    let xs : List Line = inputs_of d in
    let ys : List Line = nodes_of d in
    let zs : List Line = count_line (codes "outputs") (length d.outputs + suc left) ∷ map output_line d.outputs in
    by_both (state.Outputs d (suc left)) (state.Outputs (with_output d f.0) left) s (output_line f.0) l f.3 f.2
    (ap (λ (ls : List Line). title ∷ part_line d.name ∷ (xs ++ (ys ++ ls))) (grown (codes "outputs") output_line d.outputs f.0 left)
    ∙ ap (λ (ls : List Line). title ∷ part_line d.name ∷ (xs ++ ls)) (sym (append_assoc ys zs (output_line f.0 ∷ [])))
    ∙ ap (λ (ls : List Line). title ∷ part_line d.name ∷ ls) (sym (append_assoc xs (ys ++ zs) (output_line f.0 ∷ []))))

-- ---- tries

-- a try more
tries_grown : (part : Part) (heads : List Head) (tries : List Try) (head : Head) (t : Try) → length heads ≡ length tries →
    tries_lines part (heads ++ head ∷ []) (tries ++ t ∷ []) ≡ tries_lines part heads tries ++ attempt_lines part head t.attempt
tries_grown part [] [] head t e = append-nil (attempt_lines part head t.attempt)
tries_grown part [] (x ∷ tries) head t e = absurd (omega arith)
tries_grown part (x ∷ heads) [] head t e = absurd (omega arith)
tries_grown part (x ∷ heads) (y ∷ tries) head t e =
    ap (λ (ls : List Line). attempt_lines part x y.attempt ++ ls) (tries_grown part heads tries head t (omega arith))
    ∙ sym (append_assoc (attempt_lines part x y.attempt) (tries_lines part heads tries) (attempt_lines part head t.attempt))

tries_step : (t : Tally) (left : ℕ) (l : Line) (s : State) → t.left ≡ left → MayComeTries t left l s →
    IsOneMore (state.Tries t) s l
tries_step t zero l s e f =
    let verdict : Line = verdict_line (verdict_of (slice_get t.tries (length t.tries - 1))) in
    by_both (state.Tries t) (state.Closing t) s verdict l f.1 f.0
    (ap (λ (n : ℕ). tally_lines t n ++ verdict ∷ []) (omega arith))
tries_step t (suc left) l s e f =
    let n = f.0.1 in
    let same : length t.tries + suc left ≡ length t.tries + t.left = omega arith in
    let all : 0 + n ≡ n = omega arith in
    by_both (state.Tries t) (state.Queries (with_left t left) (opened f.0.0 n)) s (head_line f.0.0 n) l f.3 f.2
    (ap₂ (λ (k j : ℕ). tally_lines t k ++ head_line f.0.0 j ∷ []) same all)

-- a query more
answered : (t : Tally) (o : Open) (q : Query) (k : ℕ) (answer : Answer) →
    lines_read (state.Queries t (with_answer o q k answer))
    ≡ query_lines t o (asked_lines t.part (record { query = q; k = k; answer = answer }))
answered t o q k answer =
    let a : Asked = record { query = q; k = k; answer = answer } in
    let longer : length (o.asked ++ a ∷ []) + o.left ≡ length o.asked + suc o.left = omega (arith, length_push o.asked a) in
    let more : flat_map (asked_lines t.part) (o.asked ++ a ∷ []) ≡ flat_map (asked_lines t.part) o.asked ++ asked_lines t.part a =
    flat_map-append (asked_lines t.part) o.asked (a ∷ [])
    ∙ ap (λ (ls : List Line). flat_map (asked_lines t.part) o.asked ++ ls) (append-nil (asked_lines t.part a)) in
    ap₂ (λ (n : ℕ) (ls : List Line). tally_lines t (length t.tries + suc t.left) ++ (head_line o.head n ∷ ls)) longer more

query_lines-append : (t : Tally) (o : Open) (a b : List Line) → query_lines t o (a ++ b) ≡ query_lines t o a ++ b
query_lines-append t o a b =
    let xs : List Line = tally_lines t (length t.tries + suc t.left) in
    let ys : List Line = open_lines t.part o (length o.asked + suc o.left) in
    ap (λ (ls : List Line). xs ++ ls) (sym (append_assoc ys a b)) ∙ sym (append_assoc xs (ys ++ a) b)

frames_read : (t : Tally) (o : Open) (q : Query) (k : ℕ) (run : Run) (left : ℕ) →
    lines_read (in_frames t o q k run left)
    ≡ query_lines t o (query_line q k a_run ∷ regs_line run.regs ∷ map frame_line run.inputs)
frames_read t o q k run zero = answered t o q k (Sat run)
frames_read t o q k run (suc left) = refl

log_lines-answer : (part : Part) (q : Query) (k : ℕ) (spent : Bool) (log : List Inference) →
    asked_lines part (record { query = q; k = k; answer = log_answer spent log })
    ≡ query_line q k (a_log spent (length log)) ∷ log_lines (first_number part q k) log
log_lines-answer part q k false log = refl
log_lines-answer part q k true log = refl

steps_read : (t : Tally) (o : Open) (q : Query) (k : ℕ) (spent : Bool) (first : ℕ) (log : List Inference) (left : ℕ) →
    first ≡ first_number t.part q k → lines_read (in_steps t o q k spent first log left)
    ≡ query_lines t o (query_line q k (a_log spent (length log + left)) ∷ log_lines first log)
steps_read t o q k spent first log zero e = answered t o q k (log_answer spent log)
    ∙ ap (query_lines t o) (log_lines-answer t.part q k spent log
    ∙ ap₂ (λ (n f : ℕ). query_line q k (a_log spent n) ∷ log_lines f log) (omega arith) (sym e))
steps_read t o q k spent first log (suc left) e = refl

behind_read : (t : Tally) (o : Open) (q : Query) (k : ℕ) (due : Due) →
    lines_read (behind_query t o q k due) ≡ query_lines t o (query_line q k due ∷ [])
behind_read t o q k a_run = refl
behind_read t o q k (a_log spent n) = steps_read t o q k spent (first_number t.part q k) [] n refl
    ∙ ap (λ (j : ℕ). query_lines t o (query_line q k (a_log spent j) ∷ [])) (omega arith)

queries_step : (t : Tally) (o : Open) (left : ℕ) (l : Line) (s : State) → o.left ≡ left → Stands (state.Queries t o) →
    MayComeQueries t o left l s → IsOneMore (state.Queries t o) s l
queries_step t o zero l s e h f =
    let x : Try = record { strategy = length t.tries; attempt = record { asked = o.asked; end = f.0 } } in
    let longer : length (t.tries ++ x ∷ []) + t.left ≡ length t.tries + suc t.left = omega (arith, length_push t.tries x) in
    let asked : List Line = flat_map (asked_lines t.part) o.asked in
    let front : List Line = title ∷ lines_of_part t.part in
    let before : List Line = count_line (codes "attempts") (length t.tries + suc t.left) ∷ tries_lines t.part t.heads t.tries in
    let all : length o.asked ≡ length o.asked + o.left = omega arith in
    by_both (state.Queries t o) (state.Tries (with_try t o f.0)) s (end_line f.0) l f.3 f.2
    (ap₂ (λ (n : ℕ) (ls : List Line). front ++ (count_line (codes "attempts") n ∷ ls)) longer
    (tries_grown t.part t.heads t.tries o.head x h.tries.same
    ∙ ap (λ (n : ℕ). tries_lines t.part t.heads t.tries ++ (head_line o.head n ∷ (asked ++ end_line f.0 ∷ []))) all)
    ∙ sym (append_assoc front before (head_line o.head (length o.asked + o.left) ∷ (asked ++ end_line f.0 ∷ [])))
    ∙ sym (append_assoc (front ++ before) (head_line o.head (length o.asked + o.left) ∷ asked) (end_line f.0 ∷ [])))
queries_step t o (suc left) l s e h f =
    let line : Line = query_line f.0.query f.0.k f.0.due in
    let held : List Line = flat_map (asked_lines t.part) o.asked in
    let front : List Line = tally_lines t (length t.tries + suc t.left) in
    by_both (state.Queries t o) (behind_query t (one_less o left) f.0.query f.0.k f.0.due) s line l f.3 f.2
    (behind_read t (one_less o left) f.0.query f.0.k f.0.due
    ∙ ap (λ (n : ℕ). front ++ ((head_line o.head n ∷ held) ++ line ∷ [])) (omega arith)
    ∙ sym (append_assoc front (head_line o.head (length o.asked + o.left) ∷ held) (line ∷ [])))

frames_step : (t : Tally) (o : Open) (q : Query) (k : ℕ) (run : Run) (left : ℕ) (l : Line) (s : State) →
    MayComeFrames t o q k run left l s → IsOneMore (state.Frames t o q k run left) s l
frames_step t o q k run zero l s f = absurd f
frames_step t o q k run (suc left) l s f =
    let before : List Line = query_line q k a_run ∷ regs_line run.regs ∷ map frame_line run.inputs in
    by_both (state.Frames t o q k run (suc left)) (in_frames t o q k (with_frame run f.0) left) s (frame_line f.0) l f.3 f.2
    (frames_read t o q k (with_frame run f.0) left
    ∙ ap (λ (ls : List Line). query_lines t o (query_line q k a_run ∷ regs_line run.regs ∷ ls))
    (map-append frame_line run.inputs (f.0 ∷ []))
    ∙ query_lines-append t o before (frame_line f.0 ∷ []))

log_grown : (n : ℕ) (log : List Inference) (step : Inference) →
    log_lines n (log ++ step ∷ []) ≡ log_lines n log ++ step_fields (n + length log) step ∷ []
log_grown n [] step = ap (λ (m : ℕ). step_fields m step ∷ []) (omega arith)
log_grown n (x ∷ log) step = ap (λ (ls : List Line). step_fields n x ∷ ls) (log_grown (suc n) log step
    ∙ ap (λ (m : ℕ). log_lines (suc n) log ++ step_fields m step ∷ []) (omega arith))

steps_step : (t : Tally) (o : Open) (q : Query) (k : ℕ) (spent : Bool) (first : ℕ) (log : List Inference) (left : ℕ)
    (l : Line) (s : State) → first ≡ first_number t.part q k → MayComeSteps t o q k spent first log left l s →
    IsOneMore (state.Steps t o q k (record { spent = spent; first = first; log = log; left = left })) s l
steps_step t o q k spent first log zero l s e f = absurd f
steps_step t o q k spent first log (suc left) l s e f =
    let step : Inference = f.0 in
    let line : Line = step_fields (first + length log) step in
    let longer : length (log ++ step ∷ []) + left ≡ length log + suc left = omega (arith, length_push log step) in
    by_both (state.Steps t o q k (record { spent = spent; first = first; log = log; left = suc left }))
    (in_steps _ o q k spent first (log ++ step ∷ []) left) s line l f.3 f.2
    (steps_read _ o q k spent first (log ++ step ∷ []) left e
    ∙ ap₂ (λ (n : ℕ) (ls : List Line). query_lines t o (query_line q k (a_log spent n) ∷ ls)) longer (log_grown first log step)
    ∙ query_lines-append t o (query_line q k (a_log spent (length log + suc left)) ∷ log_lines first log) (line ∷ []))

-- ---- the whole

pub one_line_more : (s : State) (l : Line) (next : State) → Stands s → MayComeNext s l next →
    lines_read next ≡ lines_read s ++ l ∷ []
one_line_more state.Titled l next h f = by_both state.Titled (state.Named f.0) next (part_line f.0) l f.3 f.2 refl
one_line_more (state.Named name) l next h f =
    by_both (state.Named name) (state.Inputs (begun name) f.0) next (count_line (codes "inputs") f.0) l f.3 f.2 (named name f.0)
one_line_more (state.Inputs d left) l next h f = inputs_step d left l next h f
one_line_more (state.Nodes d seen left) l next h f = nodes_step d seen left l next h f
one_line_more (state.Outputs d left) l next h f = outputs_step d left l next f
one_line_more (state.Tries t) l next h f = tries_step t t.left l next refl f
one_line_more (state.Queries t o) l next h f = queries_step t o o.left l next refl h f
one_line_more (state.Regs t o q k) l next h f =
    let run : Run = record { regs = f.0; inputs = [] } in
    by_both (state.Regs t o q k) (in_frames t o q k run (frame_count q k)) next (regs_line f.0) l f.3 f.2
    (frames_read t o q k run (frame_count q k) ∙ query_lines-append t o (query_line q k a_run ∷ []) (regs_line f.0 ∷ []))
one_line_more (state.Frames t o q k run left) l next h f = frames_step t o q k run left l next f
one_line_more (state.Steps t o q k log) l next h f =
    steps_step t o q k log.spent log.first log.log log.left l next h.2.first f
one_line_more (state.Closing t) l next h f =
    let verdict : Line = verdict_line (verdict_of (slice_get t.tries (length t.tries - 1))) in
    by_both (state.Closing t) (state.Ended t) next last_line l f.1 f.0
    (sym (append_assoc (tally_lines t (length t.tries)) (verdict ∷ []) (last_line ∷ [])))
one_line_more (state.Ended t) l next h f = absurd f
