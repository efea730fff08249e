-- Wherever the reading stands, some evidence goes on from there.
use Rattle.std.proofs.Common.{◌≡◌, ℕ, ◌+◌, ◌-◌, ◌^◌, ◌<◌, zero, suc, Bool, false, List, [], ◌∷◌, ◌++◌, Some, length, slice_get, arith, refl, sym, ap, ◌∙◌, subst, append_assoc}
use Rattle.std.specs.Prelude.{All, codes, replicate, slice_index_or}
use Rattle.std.proofs.lemmas.List.{append-nil, length-replicate}
use Rattle.std.proofs.lemmas.List.Elements.{All-push}
use Rattle.eq_names.specs.Name.{IsName, IsNameByte}
use Rattle.eq_bits.specs.declared.node.Node.{Node}
use Rattle.eq_bits.specs.declared.node.Node.TheVariants.{Const}
use Rattle.eq_bits.specs.declared.part.Output.{Output}
use Rattle.eq_bits.specs.declared.part.Part.{Part}
use Rattle.eq_bits.specs.declared.run.Run.{Run}
use Rattle.eq_bits.specs.Cycle.{register_count}
use Rattle.eq_bits.specs.Node.{node_at}
use Rattle.eq_bits.specs.Part.{MakePart}
use Rattle.eq_proof.specs.Inference.{Inference}
use Rattle.eq_proof.specs.Text.{IsNumber, IsUpTo}
use Rattle.eq_unroll.specs.declared.query.Query.{Query}
use Rattle.eq_unroll.specs.declared.query.Query.TheVariants.{Base}
use Rattle.eq_unroll.specs.Query.{IsUnrollable, frame_count}
use Rattle.eq_induct.specs.declared.types.Answer.TheVariants.{Unsat}
use Rattle.eq_induct.specs.declared.types.Decided.{Decided}
use Rattle.eq_induct.specs.declared.types.End.TheVariants as end
use Rattle.eq_induct.specs.declared.types.Try.{Try}
use Rattle.eq_induct.specs.Outcome.{verdict_of}
use Rattle.eq_wit.specs.declared.types.Evidence.{Evidence}
use Rattle.eq_wit.specs.declared.types.Head.{Head}
use Rattle.eq_wit.specs.declared.state.Draft.{Draft}
use Rattle.eq_wit.specs.declared.state.Tally.{Tally}
use Rattle.eq_wit.specs.declared.state.Open.{Open}
use Rattle.eq_wit.specs.declared.state.Steps.{Steps}
use Rattle.eq_wit.specs.declared.state.State.{State}
use Rattle.eq_wit.specs.declared.state.State.TheVariants as state
use Rattle.eq_wit.specs.Evidence.{MakeEvidence}
use Rattle.eq_wit.specs.Faults.{IsTyped, IsTypedTry, lines_of_evidence}
use Rattle.eq_wit.specs.Line.{Line}
use Rattle.eq_wit.specs.Texts.{end_line, frame_line, head_line, lines_of_part, name_line, node_line, output_line, regs_line, step_fields, tries_lines, verdict_line}
use Rattle.eq_wit.specs.declared.state.Due.TheVariants.{Log as a_log}
use Rattle.eq_wit.specs.inner.Judging.{decided_by}
use Rattle.eq_wit.specs.inner.Reading.{MayComeNext, MayComeQueries, MayComeTries, MayAsk, count_line, in_frames, in_steps, last_line, one_less, opened, part_line, query_line, title, begun, untried, with_answer, with_conflicts, with_frame, with_input, with_left, with_node, with_output, with_try}
use Rattle.eq_wit.specs.inner.Standing.{Stands, lines_read}
use Rattle.eq_wit.proofs.LinesRead.{one_line_more}
use Rattle.eq_wit.proofs.Lists.{All-none, at_index}
use Rattle.eq_wit.proofs.StandingOn.{stands_on}

-- an evidence begins with what was read
pub record Completes (s : State) : Type 0 where
  pub evidence : Evidence
  pub typed : IsTyped evidence
  pub more : List Line
  pub lines : lines_of_evidence evidence ≡ lines_read s ++ more

-- ---- the last line

-- what was read makes an evidence
pub make_evidence : (t : Tally) → Stands (state.Ended t) → MakeEvidence t.part t.heads (decided_by t)
make_evidence t h = record {
  same = h.0.same;
  few = omega (arith, h.0.few);
  limits = λ i head e. (h.0.heads i head e).limits;
  tries = λ i x e. (h.0.tries i x e).fits;
  verdict = refl;
  conflicts = h.1;
}

pub ended_lines : (t : Tally) → lines_read (state.Ended t)
    ≡ title ∷ (lines_of_part t.part ++ (count_line (codes "attempts") (length t.tries) ∷ (tries_lines t.part t.heads t.tries ++
    (verdict_line (verdict_of (slice_get t.tries (length t.tries - 1))) ∷ last_line ∷ []))))
ended_lines t =
    let tail : List Line = verdict_line (verdict_of (slice_get t.tries (length t.tries - 1))) ∷ last_line ∷ [] in
    append_assoc (title ∷ lines_of_part t.part)
    (count_line (codes "attempts") (length t.tries) ∷ tries_lines t.part t.heads t.tries) tail

pub typed_by : (t : Tally) (e : Evidence) → Stands (state.Ended t) → e.part ≡ t.part → e.heads ≡ t.heads →
    e.decided ≡ decided_by t → IsTyped e
typed_by t e h part heads decided = record {
  name = subst (λ (p : Part). IsName p.name) (sym part) h.0.names.name;
  inputs = subst (λ (p : Part). All IsName p.inputs) (sym part) h.0.names.inputs;
  outputs = subst (λ (p : Part). All (λ (o : Output). IsName o.name) p.outputs) (sym part) h.0.names.outputs;
  heads = subst (λ (hs : List Head). All (λ (x : Head). IsName x.name) hs) (sym heads)
      (λ k d small. (h.0.heads k (slice_index_or t.heads k d) (at_index t.heads k d small)).name);
  tries = subst (λ (x : Decided). (i : ℕ) (y : Try) → slice_get x.tries i ≡ Some y → IsTypedTry y) (sym decided)
      (λ i x g. (h.0.tries i x g).typed);
  conflicts = subst (λ (x : Decided). x.conflicts < 2 ^ 64) (sym decided) h.0.few_conflicts;
  in_order = subst (λ (x : Decided). (i : ℕ) (y : Try) → slice_get x.tries i ≡ Some y → y.strategy ≡ i) (sym decided)
      (λ i x g. (h.0.tries i x g).number);
}

ended : (t : Tally) → Stands (state.Ended t) → Completes (state.Ended t)
ended t h =
    let e : Evidence = record { part = t.part; heads = t.heads; decided = decided_by t; is_evidence = make_evidence t h } in
    record {
      evidence = e;
      typed = typed_by t e h refl refl refl;
      more = [];
      lines = sym (ended_lines t) ∙ sym (append-nil (lines_read (state.Ended t)));
    }

-- ---- one line back

back : (s : State) (l : Line) (next : State) → Stands s → MayComeNext s l next → (Stands next → Completes next) → Completes s
back s l next h f c =
    let rest = c (stands_on s l next h f) in
    record {
      evidence = rest.evidence;
      typed = rest.typed;
      more = l ∷ rest.more;
      lines = rest.lines ∙ ap (λ (ls : List Line). ls ++ rest.more) (one_line_more s l next h f)
          ∙ append_assoc (lines_read s) (l ∷ []) rest.more;
    }

-- ---- tries

a_name : IsName (codes "x")
a_name = record {
  some = λ e. cc (e);
  bytes = All-push IsNameByte [] 120 (All-none IsNameByte [] refl) (omega arith, omega arith);
}

abbrev a_head : Head
a_head = record { name = codes "x"; depth = 1; conflicts = 1 }

closing : (t : Tally) → Stands (state.Closing t) → Completes (state.Closing t)
closing t h = back (state.Closing t) last_line (state.Ended t) h (refl, refl) (ended t)

tries : (left : ℕ) (t : Tally) → t.left ≡ left → Stands (state.Tries t) → Completes (state.Tries t)
tries zero t e h =
    let verdict : Line = verdict_line (verdict_of (slice_get t.tries (length t.tries - 1))) in
    back (state.Tries t) verdict (state.Closing t) h
    (subst (λ (n : ℕ). MayComeTries t n verdict (state.Closing t)) (sym e) (refl, refl)) (closing t)
tries (suc left) t e h =
    let now : Tally = with_left t left in
    let o : Open = opened a_head 0 in
    let first : Line = head_line a_head 0 in
    back (state.Tries t) first (state.Queries now o) h
    (subst (λ (n : ℕ). MayComeTries t n first (state.Queries now o)) (sym e) (
      (a_head, 0),
      record {
        name = a_name;
        limits = record {
          some_depth = omega arith;
          depth = omega arith;
          some_conflicts = omega arith;
          conflicts = omega arith;
        };
        few = omega arith;
        may = tt;
      },
      refl,
      refl,
    ))
    (λ stands. back (state.Queries now o) _ (state.Tries (with_try now o end.Deep)) stands (end.Deep, tt, refl, refl)
    (tries left (with_try now o end.Deep) refl))

queries : (left : ℕ) (t : Tally) (o : Open) → o.left ≡ left → Stands (state.Queries t o) → Completes (state.Queries t o)
queries zero t o e h = back (state.Queries t o) (end_line end.Deep) (state.Tries (with_try t o end.Deep)) h
    (subst (λ (n : ℕ). MayComeQueries t o n (end_line end.Deep) (state.Tries (with_try t o end.Deep))) (sym e) (end.Deep, tt, refl, refl))
    (tries t.left (with_try t o end.Deep) refl)
queries (suc left) t o e h =
    let next : Open = with_answer (one_less o left) Base 1 (Unsat []) in
    let may : IsUnrollable t.part 1 = subst (MayAsk t.part) e h.asked.may in
    let line : Line = query_line Base 1 (a_log false 0) in
    back (state.Queries t o) line (state.Queries t next) h
    (subst (λ (n : ℕ). MayComeQueries t o n line (state.Queries t next)) (sym e) (
      record { query = Base; k = 1; due = a_log false 0 },
      record { unrollable = may; fits = omega arith },
      refl,
      refl,
    ))
    (queries left t next refl)

frames : (left : ℕ) (t : Tally) (o : Open) (q : Query) (k : ℕ) (run : Run) → Stands (in_frames t o q k run left) →
    Completes (in_frames t o q k run left)
frames zero t o q k run h = queries o.left t _ refl h
frames (suc left) t o q k run h =
    let frame : List Bool = replicate (length t.part.inputs) false in
    back (state.Frames t o q k run (suc left)) (frame_line frame) (in_frames t o q k (with_frame run frame) left) h
    (frame, length-replicate (length t.part.inputs) false, refl, refl) (frames left t o q k (with_frame run frame))

abbrev a_step : Inference
a_step = record { clause = []; ants = [] }

steps : (left : ℕ) (t : Tally) (o : Open) (q : Query) (k : ℕ) (spent : Bool) (first : ℕ) (log : List Inference) →
    t.conflicts < 2 ^ 64 → Stands (in_steps t o q k spent first log left) → Completes (in_steps t o q k spent first log left)
steps zero t o q k spent first log few h = queries o.left t _ refl h
steps (suc left) t o q k spent first log few h =
    let same : t.conflicts + 0 ≡ t.conflicts = omega arith in
    back (in_steps t o q k spent first log (suc left)) (step_fields (first + length log) a_step)
    (in_steps (with_conflicts t (t.conflicts + 0)) o q k spent first (log ++ a_step ∷ []) left) h (
      a_step,
      record {
        fits = record {
          clause = record {
            ordered = λ i j d less within. absurd (omega arith);
            within = All-none (IsUpTo (2 ^ 31 - 1)) [] refl;
          };
          ants = All-none IsNumber [] refl;
        };
        earlier = All-none (λ (n : ℕ). n < first + length log) [] refl;
        few = omega (arith, few);
      },
      refl,
      refl,
    )
    (steps left (with_conflicts t (t.conflicts + 0)) o q k spent first (log ++ a_step ∷ []) (omega (arith, few)))

some_frames : (left : ℕ) (t : Tally) (o : Open) (q : Query) (k : ℕ) (run : Run) →
    Stands (state.Frames t o q k run left) → Completes (state.Frames t o q k run left)
some_frames zero t o q k run h = absurd (omega (arith, h.3))
some_frames (suc left) t o q k run h = frames (suc left) t o q k run h

some_steps : (left : ℕ) (t : Tally) (o : Open) (q : Query) (k : ℕ) (log : Steps) → log.left ≡ left →
    Stands (state.Steps t o q k log) → Completes (state.Steps t o q k log)
some_steps zero t o q k log e h = absurd (omega (arith, h.3))
some_steps (suc left) t o q k log e h =
    let P : ℕ → Type 0 = λ n. let made : Steps =
    record { spent = log.spent; first = log.first; log = log.log; left = n } in
    Stands (state.Steps t o q k made) → Completes (state.Steps t o q k made) in
    subst P (sym e) (steps (suc left) t o q k log.spent log.first log.log h.0.tries.few_conflicts) h

regs : (t : Tally) (o : Open) (q : Query) (k : ℕ) → Stands (state.Regs t o q k) → Completes (state.Regs t o q k)
regs t o q k h =
    let bits : List Bool = replicate (register_count t.part.nodes) false in
    let run : Run = record { regs = bits; inputs = [] } in
    back (state.Regs t o q k) (regs_line bits) (in_frames t o q k run (frame_count q k)) h
    (bits, length-replicate (register_count t.part.nodes) false, refl, refl) (frames (frame_count q k) t o q k run)

-- ---- the part

-- what was read makes a part
pub make_part : (d : Draft) → Stands (state.Outputs d 0) → MakePart d.inputs d.nodes d.outputs
make_part d h = record {
  few_inputs = omega (arith, h.0.few);
  few_nodes = h.1.few;
  few_outputs = omega (arith, h.2.few);
  operands = λ m less. h.1.operands m (node_at d.nodes m) (at_index d.nodes m (Const false) less);
  inputs_there = λ m less. h.1.there m (node_at d.nodes m) (at_index d.nodes m (Const false) less);
  one_node = λ a b i less within e g. h.1.one_node a b i
      (at_index d.nodes a (Const false) less ∙ ap (λ (node : Node). Some node) e)
      (at_index d.nodes b (Const false) within ∙ ap (λ (node : Node). Some node) g);
  outputs_there = h.2.there;
}

outputs : (left : ℕ) (d : Draft) → Stands (state.Outputs d left) → Completes (state.Outputs d left)
outputs zero d h =
    let part : Part = record {
      name = d.name;
      inputs = d.inputs;
      nodes = d.nodes;
      outputs = d.outputs;
      is_part = make_part d h;
    } in
    back (state.Outputs d 0) (count_line (codes "attempts") 0) (state.Tries (untried part 0)) h
    ((part, 0), (record { name = refl; inputs = refl; nodes = refl; outputs = refl }, omega arith), refl, refl)
    (tries 0 (untried part 0) refl)
outputs (suc left) d h =
    let o : Output = record { name = codes "x"; gold = 0; gate = 0 } in
    back (state.Outputs d (suc left)) (output_line o) (state.Outputs (with_output d o) left) h
    (o, (a_name, (h.2.may, h.2.may)), refl, refl) (outputs left (with_output d o))

nodes : (left : ℕ) (d : Draft) (seen : List Bool) → Stands (state.Nodes d seen left) → Completes (state.Nodes d seen left)
nodes zero d seen h = back (state.Nodes d seen 0) (count_line (codes "outputs") 0) (state.Outputs d 0) h
    (0, (omega arith, tt), refl, refl) (outputs 0 d)
nodes (suc left) d seen h =
    let node : Node = Const false in
    back (state.Nodes d seen (suc left)) (node_line node) (state.Nodes (with_node d node) seen left) h
    (node, record { operands = tt; input = tt; only = λ m i e g. cc (e) }, refl, refl) (nodes left (with_node d node) seen)

inputs : (left : ℕ) (d : Draft) → Stands (state.Inputs d left) → Completes (state.Inputs d left)
inputs zero d h =
    let seen : List Bool = replicate (length d.inputs) false in
    back (state.Inputs d 0) (count_line (codes "nodes") 0) (state.Nodes d seen 0) h (0, omega arith, refl, refl)
    (nodes 0 d seen)
inputs (suc left) d h = back (state.Inputs d (suc left)) (name_line (codes "x")) (state.Inputs (with_input d (codes "x")) left) h
    (codes "x", a_name, refl, refl) (inputs left (with_input d (codes "x")))

named : (name : List ℕ) → Stands (state.Named name) → Completes (state.Named name)
named name h = back (state.Named name) (count_line (codes "inputs") 0) (state.Inputs (begun name) 0) h
    (0, omega arith, refl, refl) (inputs 0 (begun name))

pub goes_on : (s : State) → Stands s → Completes s
goes_on state.Titled h = back state.Titled (part_line (codes "x")) (state.Named (codes "x")) h (codes "x", a_name, refl, refl)
    (named (codes "x"))
goes_on (state.Named name) h = named name h
goes_on (state.Inputs d left) h = inputs left d h
goes_on (state.Nodes d seen left) h = nodes left d seen h
goes_on (state.Outputs d left) h = outputs left d h
goes_on (state.Tries t) h = tries t.left t refl h
goes_on (state.Queries t o) h = queries o.left t o refl h
goes_on (state.Regs t o q k) h = regs t o q k h
goes_on (state.Frames t o q k run left) h = some_frames left t o q k run h
goes_on (state.Steps t o q k log) h = some_steps log.left t o q k log refl h
goes_on (state.Closing t) h = closing t h
goes_on (state.Ended t) h = ended t h
