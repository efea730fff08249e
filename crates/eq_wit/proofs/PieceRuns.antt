-- The lines of lists, of answers and of queries follow one another.
use Rattle.std.proofs.Common.{◌≡◌, ℕ, ◌+◌, ◌^◌, ◌<◌, suc, Bool, true, false, List, [], ◌∷◌, ◌++◌, Some, length, map, slice_get, arith, refl, sym, ap, ap₂, ◌∙◌, subst, append_assoc}
use Rattle.std.specs.Prelude.{All}
use Rattle.std.specs.List.{flat_map, AllByRecursion}
use Rattle.std.proofs.lemmas.List.{append-nil, length-append, length_push}
use Rattle.std.proofs.lemmas.List.Elements.{recursion_from_All}
use Rattle.std.proofs.lemmas.List.Sums.{sum_by-append}
use Rattle.std.proofs.lemmas.Option.{slice_get_within}
use Rattle.eq_names.specs.Name.{IsName}
use Rattle.eq_bits.specs.declared.node.Node.{Node}
use Rattle.eq_bits.specs.declared.node.Node.TheVariants.{Input}
use Rattle.eq_bits.specs.declared.part.Output.{Output}
use Rattle.eq_bits.specs.declared.part.Part.{Part}
use Rattle.eq_bits.specs.declared.run.Run.{Run}
use Rattle.eq_bits.specs.Node.{IsNode, NamesInput}
use Rattle.eq_bits.specs.Part.{NamesNodes}
use Rattle.eq_proof.specs.Derivation.{nonempty_of}
use Rattle.eq_proof.specs.Inference.{Inference}
use Rattle.eq_proof.specs.Lrat.{IsStep}
use Rattle.eq_unroll.specs.declared.query.Query.{Query}
use Rattle.eq_unroll.specs.Query.{IsUnrollable, frame_count}
use Rattle.eq_induct.specs.declared.types.Answer.{Answer}
use Rattle.eq_induct.specs.declared.types.Answer.TheVariants.{Sat, Unsat, Spent}
use Rattle.eq_induct.specs.declared.types.Asked.{Asked}
use Rattle.eq_induct.specs.declared.types.Try.{Try}
use Rattle.eq_induct.specs.Answers.{learned_for}
use Rattle.eq_induct.specs.Attempts.{learned}
use Rattle.eq_wit.specs.declared.types.Head.{Head}
use Rattle.eq_wit.specs.declared.state.Draft.{Draft}
use Rattle.eq_wit.specs.declared.state.Tally.{Tally}
use Rattle.eq_wit.specs.declared.state.Open.{Open}
use Rattle.eq_wit.specs.declared.state.State.{State}
use Rattle.eq_wit.specs.declared.state.State.TheVariants as state
use Rattle.eq_wit.specs.Evidence.{FitsQuery, HaveEarlier, IsAskedOf}
use Rattle.eq_wit.specs.Faults.{HasLog}
use Rattle.eq_wit.specs.Line.{Line}
use Rattle.eq_wit.specs.Texts.{asked_lines, first_number, frame_line, log_lines, name_line, node_line, output_line, step_fields}
use Rattle.eq_wit.specs.inner.Judging.{Runs}
use Rattle.eq_wit.specs.declared.state.Due.TheVariants.{Run as a_run, Log as a_log}
use Rattle.eq_wit.specs.inner.Reading.{MayStand, in_frames, in_steps, log_answer, marked, with_answer}
use Rattle.eq_wit.proofs.Lists.{get_front}

pub joined_runs : (s middle end : State) (a b : List Line) → Runs s a middle → Runs middle b end → Runs s (a ++ b) end
joined_runs s middle end [] b f g = subst (λ (x : State). Runs x b end) (sym f) g
joined_runs s middle end (l ∷ a) b f g = (f.0, f.1, joined_runs f.0 middle end a b f.2 g)

-- ---- the part

abbrev pub draft : List ℕ → List (List ℕ) → List Node → List Output → Draft
draft name inputs nodes outputs = record { name = name; inputs = inputs; nodes = nodes; outputs = outputs }

pub names_run : (d : Draft) (xs all : List (List ℕ)) → all ≡ d.inputs ++ xs → AllByRecursion IsName xs →
    Runs (state.Inputs d (length xs)) (map name_line xs) (state.Inputs (draft d.name all d.nodes d.outputs) 0)
names_run d [] all e h = ap (λ (ys : List (List ℕ)). state.Inputs (draft d.name ys d.nodes d.outputs) 0)
    (sym (e ∙ append-nil d.inputs))
names_run d (x ∷ xs) all e h = (
  state.Inputs (draft d.name (d.inputs ++ x ∷ []) d.nodes d.outputs) (length xs),
  (x, h.0, refl, refl),
  names_run (draft d.name (d.inputs ++ x ∷ []) d.nodes d.outputs) xs all (e ∙ sym (append_assoc d.inputs (x ∷ []) xs)) h.1,
)

-- what a part promises of its nodes
pub record AreOfPart (inputs : ℕ) (all : List Node) : Type 0 where
  pub operands : (m : ℕ) (node : Node) → slice_get all m ≡ Some node → IsNode (length all) m node
  pub there : (m : ℕ) (node : Node) → slice_get all m ≡ Some node → NamesInput inputs node
  pub one_node : (a b i : ℕ) → slice_get all a ≡ Some (Input i) → slice_get all b ≡ Some (Input i) → a ≡ b

at_seam : {X : Type 0} (xs : List X) (y : X) (ys : List X) → slice_get (xs ++ y ∷ ys) (length xs) ≡ Some y
at_seam [] y ys = refl
at_seam (x ∷ xs) y ys = at_seam xs y ys

may_stand : (d : Draft) (node : Node) (rest all : List Node) → all ≡ d.nodes ++ node ∷ rest →
    AreOfPart (length d.inputs) all → MayStand d (length d.nodes + suc (length rest)) node
may_stand d node rest all e h =
    let long : length all ≡ length d.nodes + suc (length rest) = ap length e ∙ length-append d.nodes (node ∷ rest) in
    let there : slice_get all (length d.nodes) ≡ Some node =
    ap (λ (xs : List Node). slice_get xs (length d.nodes)) e ∙ at_seam d.nodes node rest in
    record {
      operands = subst (λ (n : ℕ). IsNode n (length d.nodes) node) long (h.operands (length d.nodes) node there);
      input = h.there (length d.nodes) node there;
      only = λ m i is g.
          let before : slice_get all m ≡ Some (Input i) =
          ap (λ (xs : List Node). slice_get xs m) e ∙ get_front d.nodes (node ∷ rest) m (Input i) g in
          let same : m ≡ length d.nodes = h.one_node m (length d.nodes) i before (there ∙ ap (λ (x : Node). Some x) is) in
          absurd (omega (arith, same, slice_get_within d.nodes m (Input i) g));
    }

pub nodes_run : (d : Draft) (seen : List Bool) (rest all : List Node) → all ≡ d.nodes ++ rest → AreOfPart (length d.inputs) all →
    (last : List Bool) × Runs (state.Nodes d seen (length rest)) (map node_line rest)
    (state.Nodes (draft d.name d.inputs all d.outputs) last 0)
nodes_run d seen [] all e h = (
  seen,
  ap (λ (xs : List Node). state.Nodes (draft d.name d.inputs xs d.outputs) seen 0) (sym (e ∙ append-nil d.nodes)),
)
nodes_run d seen (node ∷ rest) all e h =
    let next : Draft = draft d.name d.inputs (d.nodes ++ node ∷ []) d.outputs in
    let more = nodes_run next (marked node seen) rest all (e ∙ sym (append_assoc d.nodes (node ∷ []) rest)) h in (
      more.0,
      (state.Nodes next (marked node seen) (length rest), (node, may_stand d node rest all e h, refl, refl), more.1),
    )

pub outputs_run : (d : Draft) (xs all : List Output) → all ≡ d.outputs ++ xs →
    AllByRecursion (λ o. IsName o.name × NamesNodes (length d.nodes) o) xs →
    Runs (state.Outputs d (length xs)) (map output_line xs) (state.Outputs (draft d.name d.inputs d.nodes all) 0)
outputs_run d [] all e h = ap (λ (ys : List Output). state.Outputs (draft d.name d.inputs d.nodes ys) 0)
    (sym (e ∙ append-nil d.outputs))
outputs_run d (x ∷ xs) all e h = (
  state.Outputs (draft d.name d.inputs d.nodes (d.outputs ++ x ∷ [])) (length xs),
  (x, h.0, refl, refl),
  outputs_run (draft d.name d.inputs d.nodes (d.outputs ++ x ∷ [])) xs all (e ∙ sym (append_assoc d.outputs (x ∷ []) xs)) h.1,
)

-- ---- answers

abbrev pub tally : Part → List Head → List Try → ℕ → ℕ → Tally
tally part heads tries conflicts left =
    record { part = part; heads = heads; tries = tries; conflicts = conflicts; left = left }

frames_run : (t : Tally) (o : Open) (q : Query) (k : ℕ) (run : Run) (xs all : List (List Bool)) → all ≡ run.inputs ++ xs →
    AllByRecursion (λ frame. length frame ≡ length t.part.inputs) xs →
    Runs (in_frames t o q k run (length xs)) (map frame_line xs)
    (state.Queries t (with_answer o q k (Sat (record { regs = run.regs; inputs = all }))))
frames_run t o q k run [] all e h =
    ap (λ (ys : List (List Bool)). state.Queries t (with_answer o q k (Sat (record { regs = run.regs; inputs = ys }))))
    (sym (e ∙ append-nil run.inputs))
frames_run t o q k run (x ∷ xs) all e h = (
  in_frames t o q k (record { regs = run.regs; inputs = run.inputs ++ x ∷ [] }) (length xs),
  (x, h.0, refl, refl),
  frames_run t o q k (record { regs = run.regs; inputs = run.inputs ++ x ∷ [] }) xs all
      (e ∙ sym (append_assoc run.inputs (x ∷ []) xs)) h.1,
)

-- each step's antecedents are below its number
abbrev AreEarlier : ℕ → List Inference → Type 0
AreEarlier n [] = Unit {0}
AreEarlier n (step ∷ log) = All (λ a. a < n) step.ants × AreEarlier (suc n) log

earlier_by_places : (n : ℕ) (log : List Inference) → HaveEarlier n log → AreEarlier n log
earlier_by_places n [] h = tt
earlier_by_places n (step ∷ log) h = (
  λ k d small. omega (arith, h 0 step refl k d small),
  earlier_by_places (suc n) log (λ place s e k d small. omega (arith, h (suc place) s e k d small)),
)

steps_run : (part : Part) (heads : List Head) (tries : List Try) (left : ℕ) (o : Open) (q : Query) (k : ℕ) (spent : Bool)
    (first n c all_conflicts : ℕ) (log rest all : List Inference) → n ≡ first + length log →
    all_conflicts ≡ c + nonempty_of rest → all ≡ log ++ rest → all_conflicts < 2 ^ 64 → AllByRecursion IsStep rest →
    AreEarlier n rest →
    Runs (in_steps (tally part heads tries c left) o q k spent first log (length rest)) (log_lines n rest)
    (state.Queries (tally part heads tries all_conflicts left) (with_answer o q k (log_answer spent all)))
steps_run part heads tries left o q k spent first n c all_conflicts log [] all e rises is small h early =
    ap₂ (λ (m : ℕ) (xs : List Inference). state.Queries (tally part heads tries m left) (with_answer o q k (log_answer spent xs)))
    (omega (arith, rises)) (sym (is ∙ append-nil log))
steps_run part heads tries left o q k spent first n c all_conflicts log (step ∷ rest) all e rises is small h early =
    let more = nonempty_of (step ∷ []) in
    let parts : nonempty_of (step ∷ rest) ≡ more + nonempty_of rest = sum_by-append _ (step ∷ []) rest in (
      in_steps (tally part heads tries (c + more) left) o q k spent first (log ++ step ∷ []) (length rest),
      (
        step,
        record {
          fits = h.0;
          earlier = subst (λ (m : ℕ). All (λ a. a < m) step.ants) e early.0;
          few = omega (arith, rises, parts, small);
        },
        ap (λ (m : ℕ). step_fields m step) e,
        refl,
      ),
      steps_run part heads tries left o q k spent first (suc n) (c + more) all_conflicts (log ++ step ∷ []) rest all
          (omega (arith, e, length_push log step)) (omega (arith, rises, parts))
          (is ∙ sym (append_assoc log (step ∷ []) rest)) small h.1 early.1,
    )

-- ---- queries

abbrev pub opening : Head → List Asked → ℕ → Open
opening head asked left = record { head = head; asked = asked; left = left }

log_run : (part : Part) (heads : List Head) (tries : List Try) (left : ℕ) (o : Open) (q : Query) (k : ℕ) (spent : Bool)
    (c all_conflicts : ℕ) (log : List Inference) → all_conflicts ≡ c + nonempty_of log → all_conflicts < 2 ^ 64 →
    HaveEarlier (first_number part q k) log → All IsStep log →
    Runs (in_steps (tally part heads tries c left) o q k spent (first_number part q k) [] (length log))
    (log_lines (first_number part q k) log)
    (state.Queries (tally part heads tries all_conflicts left) (with_answer o q k (log_answer spent log)))
log_run part heads tries left o q k spent c all_conflicts log rises small early steps =
    steps_run part heads tries left o q k spent (first_number part q k) (first_number part q k) c all_conflicts [] log log
    (omega arith) rises refl small (recursion_from_All IsStep log steps)
    (earlier_by_places (first_number part q k) log early)

answer_run : (part : Part) (heads : List Head) (tries : List Try) (left : ℕ) (head : Head) (asked : List Asked) (more : ℕ)
    (q : Query) (k : ℕ) (answer : Answer) (c all_conflicts : ℕ) → all_conflicts ≡ c + learned_for answer →
    all_conflicts < 2 ^ 64 → IsUnrollable part k → FitsQuery part q k answer → HasLog answer →
    Runs (state.Queries (tally part heads tries c left) (opening head asked (suc more)))
    (asked_lines part (record { query = q; k = k; answer = answer }))
    (state.Queries (tally part heads tries all_conflicts left)
    (opening head (asked ++ (record { query = q; k = k; answer = answer }) ∷ []) more))
answer_run part heads tries left head asked more q k (Sat run) c all_conflicts rises small unrollable fits log =
    let o : Open = opening head asked more in
    let t : Tally = tally part heads tries c left in
    let same : c ≡ all_conflicts = omega (arith, rises) in (
      state.Regs t o q k,
      (
        record { query = q; k = k; due = a_run },
        record { unrollable = unrollable; fits = tt },
        refl,
        refl,
      ),
      (
        in_frames t o q k (record { regs = run.regs; inputs = [] }) (frame_count q k),
        (run.regs, fits.0.regs, refl, refl),
        subst (λ (n : ℕ). Runs (in_frames t o q k (record { regs = run.regs; inputs = [] }) n) (map frame_line run.inputs)
            (state.Queries (tally part heads tries all_conflicts left) (with_answer o q k (Sat run)))) fits.1
            (subst (λ (m : ℕ). Runs (in_frames t o q k (record { regs = run.regs; inputs = [] }) (length run.inputs))
            (map frame_line run.inputs) (state.Queries (tally part heads tries m left) (with_answer o q k (Sat run)))) same
            (frames_run t o q k (record { regs = run.regs; inputs = [] }) run.inputs run.inputs refl
            (recursion_from_All (λ (frame : List Bool). length frame ≡ length part.inputs) run.inputs fits.0.inputs))),
      ),
    )
answer_run part heads tries left head asked more q k (Unsat log) c all_conflicts rises small unrollable fits steps = (
  in_steps (tally part heads tries c left) (opening head asked more) q k false (first_number part q k) [] (length log),
  (
    record { query = q; k = k; due = a_log false (length log) },
    record { unrollable = unrollable; fits = steps.few },
    refl,
    refl,
  ),
  log_run part heads tries left (opening head asked more) q k false c all_conflicts log rises small fits steps.steps,
)
answer_run part heads tries left head asked more q k (Spent log) c all_conflicts rises small unrollable fits steps = (
  in_steps (tally part heads tries c left) (opening head asked more) q k true (first_number part q k) [] (length log),
  (
    record { query = q; k = k; due = a_log true (length log) },
    record { unrollable = unrollable; fits = steps.few },
    refl,
    refl,
  ),
  log_run part heads tries left (opening head asked more) q k true c all_conflicts log rises small fits steps.steps,
)

-- an asked query fits the part
abbrev pub IsGood : Part → Asked → Type 0
IsGood part a = IsAskedOf part a × HasLog a.answer

pub queries_run : (part : Part) (heads : List Head) (tries : List Try) (left : ℕ) (head : Head) (asked rest all : List Asked)
    (c all_conflicts : ℕ) → all ≡ asked ++ rest → all_conflicts ≡ c + learned rest → all_conflicts < 2 ^ 64 →
    AllByRecursion (IsGood part) rest →
    Runs (state.Queries (tally part heads tries c left) (opening head asked (length rest)))
    (flat_map (asked_lines part) rest) (state.Queries (tally part heads tries all_conflicts left) (opening head all 0))
queries_run part heads tries left head asked [] all c all_conflicts e rises small h =
    ap₂ (λ (m : ℕ) (xs : List Asked). state.Queries (tally part heads tries m left) (opening head xs 0)) (omega (arith, rises))
    (sym (e ∙ append-nil asked))
queries_run part heads tries left head asked (a ∷ rest) all c all_conflicts e rises small h =
    let parts : learned (a ∷ rest) ≡ learned (a ∷ []) + learned rest =
    sum_by-append (λ (x : Asked). learned_for x.answer) (a ∷ []) rest in
    let one : learned (a ∷ []) ≡ learned_for a.answer = omega arith in
    let now = c + learned_for a.answer in
    joined_runs (state.Queries (tally part heads tries c left) (opening head asked (suc (length rest))))
    (state.Queries (tally part heads tries now left) (opening head (asked ++ a ∷ []) (length rest)))
    (state.Queries (tally part heads tries all_conflicts left) (opening head all 0)) (asked_lines part a)
    (flat_map (asked_lines part) rest)
    (answer_run part heads tries left head asked (length rest) a.query a.k a.answer c now refl
    (omega (arith, rises, parts, one, small)) h.0.0.unrollable h.0.0.fits h.0.1)
    (queries_run part heads tries left head (asked ++ a ∷ []) rest all now all_conflicts
    (e ∙ sym (append_assoc asked (a ∷ []) rest)) (omega (arith, rises, parts, one)) small h.1)
