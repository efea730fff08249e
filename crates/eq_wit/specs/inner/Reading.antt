-- Cited by proofs alone; nothing here has to be believed.
-- Which lines an evidence goes on with where the reading stands, and where it stands behind each.
use Rattle.std.specs.Prelude.{◌≡◌, ℕ, zero, suc, ◌+◌, ◌-◌, ◌^◌, ◌<◌, Bool, true, false, List, [], ◌∷◌, ◌++◌, Some, All, length, replicate, slice_get, slice_set, codes}
use Rattle.eq_names.specs.Name.{IsName}
use Rattle.eq_bits.specs.declared.node.Node.{Node}
use Rattle.eq_bits.specs.declared.node.Node.TheVariants.{Const, Input, Not, And, Xor, Mux, Buf, Reg}
use Rattle.eq_bits.specs.declared.part.Output.{Output}
use Rattle.eq_bits.specs.declared.part.Part.{Part}
use Rattle.eq_bits.specs.declared.run.Run.{Run}
use Rattle.eq_bits.specs.Cycle.{register_count}
use Rattle.eq_bits.specs.Node.{IsNode, NamesInput}
use Rattle.eq_bits.specs.Part.{NamesNodes}
use Rattle.eq_proof.specs.Derivation.{nonempty_of}
use Rattle.eq_proof.specs.Inference.{Inference}
use Rattle.eq_proof.specs.Lrat.{IsStep}
use Rattle.eq_unroll.specs.declared.query.Query.{Query}
use Rattle.eq_unroll.specs.Query.{IsUnrollable, frame_count}
use Rattle.eq_induct.specs.declared.types.Answer.{Answer}
use Rattle.eq_induct.specs.declared.types.Answer.TheVariants.{Sat, Unsat, Spent}
use Rattle.eq_induct.specs.declared.types.End.{End}
use Rattle.eq_induct.specs.Outcome.{verdict_of}
use Rattle.eq_wit.specs.declared.types.Head.{Head}
use Rattle.eq_wit.specs.declared.state.Due.{Due}
use Rattle.eq_wit.specs.declared.state.Due.TheVariants.{Run as a_run, Log as a_log}
use Rattle.eq_wit.specs.declared.state.Question.{Question}
use Rattle.eq_wit.specs.declared.state.Draft.{Draft}
use Rattle.eq_wit.specs.declared.state.Tally.{Tally}
use Rattle.eq_wit.specs.declared.state.Open.{Open}
use Rattle.eq_wit.specs.declared.state.State.{State}
use Rattle.eq_wit.specs.declared.state.State.TheVariants as state
use Rattle.eq_wit.specs.Evidence.{IsWithinLimits}
use Rattle.eq_wit.specs.Faults.{IsShortEnd}
use Rattle.eq_wit.specs.Line.{Field, Line, Word, number}
use Rattle.eq_wit.specs.Texts.{end_line, first_number, frame_line, head_line, name_line, node_line, output_line, query_word, regs_line, step_fields, verdict_line}

-- ---- lines

abbrev pub part_line : List ℕ → Line
part_line name = Word (codes "part") ∷ Word name ∷ []

abbrev pub count_line : List ℕ → ℕ → Line
count_line key n = Word key ∷ number n ∷ []

abbrev pub title : Line
title = Word (codes "eqe") ∷ Word (codes "1") ∷ []

abbrev pub last_line : Line
last_line = Word (codes "end") ∷ []

abbrev pub due_fields : Due → List Field
due_fields a_run = Word (codes "sat") ∷ []
due_fields (a_log false n) = Word (codes "unsat") ∷ number n ∷ []
due_fields (a_log true n) = Word (codes "spent") ∷ number n ∷ []

abbrev pub FitsDue : Due → Type 0
FitsDue a_run = Unit {0}
FitsDue (a_log spent n) = n < 2 ^ 32

abbrev pub query_line : Query → ℕ → Due → Line
query_line q k due = query_word q ∷ number k ∷ due_fields due

-- ---- where the reading stands behind a line

-- the marks with that of the input that the node stands for
abbrev pub marked : Node → List Bool → List Bool
marked (Const b) seen = seen
marked (Input i) seen = slice_set seen i true
marked (Not a) seen = seen
marked (And a b) seen = seen
marked (Xor a b) seen = seen
marked (Mux s a b) seen = seen
marked (Buf a) seen = seen
marked (Reg next init) seen = seen

abbrev pub with_input : Draft → List ℕ → Draft
with_input d name = record { name = d.name; inputs = d.inputs ++ name ∷ []; nodes = d.nodes; outputs = d.outputs }

abbrev pub with_node : Draft → Node → Draft
with_node d node = record { name = d.name; inputs = d.inputs; nodes = d.nodes ++ node ∷ []; outputs = d.outputs }

abbrev pub with_output : Draft → Output → Draft
with_output d o = record { name = d.name; inputs = d.inputs; nodes = d.nodes; outputs = d.outputs ++ o ∷ [] }

-- of the part nothing but its name, and how many inputs are due
abbrev pub begun : List ℕ → Draft
begun name = record { name = name; inputs = []; nodes = []; outputs = [] }

abbrev pub untried : Part → ℕ → Tally
untried part n = record { part = part; heads = []; tries = []; conflicts = 0; left = n }

-- one try less is due
abbrev pub with_left : Tally → ℕ → Tally
with_left t n = record { part = t.part; heads = t.heads; tries = t.tries; conflicts = t.conflicts; left = n }

abbrev pub with_conflicts : Tally → ℕ → Tally
with_conflicts t n = record { part = t.part; heads = t.heads; tries = t.tries; conflicts = n; left = t.left }

-- the try is over
abbrev pub with_try : Tally → Open → End → Tally
with_try t o e = record {
  part = t.part;
  heads = t.heads ++ o.head ∷ [];
  tries = t.tries ++ (record { strategy = length t.tries; attempt = record { asked = o.asked; end = e } }) ∷ [];
  conflicts = t.conflicts;
  left = t.left;
}

abbrev pub opened : Head → ℕ → Open
opened head n = record { head = head; asked = []; left = n }

abbrev pub one_less : Open → ℕ → Open
one_less o n = record { head = o.head; asked = o.asked; left = n }

-- the query is answered
abbrev pub with_answer : Open → Query → ℕ → Answer → Open
with_answer o q k answer =
    record { head = o.head; asked = o.asked ++ (record { query = q; k = k; answer = answer }) ∷ []; left = o.left }

abbrev pub log_answer : Bool → List Inference → Answer
log_answer false log = Unsat log
log_answer true log = Spent log

abbrev pub with_frame : Run → List Bool → Run
with_frame run frame = record { regs = run.regs; inputs = run.inputs ++ frame ∷ [] }

-- behind some cycles of a run, of which so many are due
abbrev pub in_frames : Tally → Open → Query → ℕ → Run → ℕ → State
in_frames t o q k run zero = state.Queries t (with_answer o q k (Sat run))
in_frames t o q k run (suc left) = state.Frames t o q k run (suc left)

-- behind some steps of a log, of which so many are due
abbrev pub in_steps : Tally → Open → Query → ℕ → Bool → ℕ → List Inference → ℕ → State
in_steps t o q k spent first log zero = state.Queries t (with_answer o q k (log_answer spent log))
in_steps t o q k spent first log (suc left) =
    state.Steps t o q k (record { spent = spent; first = first; log = log; left = suc left })

abbrev pub behind_query : Tally → Open → Query → ℕ → Due → State
behind_query t o q k a_run = state.Regs t o q k
behind_query t o q k (a_log spent n) = in_steps t o q k spent (first_number t.part q k) [] n

-- ---- which lines may follow

-- this may be the next of so many nodes: its operands stand before it, and no other stands for the same input
pub record MayStand (d : Draft) (total : ℕ) (node : Node) : Type 0 where
  pub operands : IsNode total (length d.nodes) node
  pub input : NamesInput (length d.inputs) node
  pub only : (m i : ℕ) → node ≡ Input i → slice_get d.nodes m ≡ Some (Input i) → ⊥

pub record IsMadeFrom (d : Draft) (part : Part) : Type 0 where
  pub name : part.name ≡ d.name
  pub inputs : part.inputs ≡ d.inputs
  pub nodes : part.nodes ≡ d.nodes
  pub outputs : part.outputs ≡ d.outputs

-- there is none, or a query that can be asked
abbrev pub MayAsk : Part → ℕ → Type 0
MayAsk part zero = Unit {0}
MayAsk part (suc n) = IsUnrollable part 1

-- outputs have nodes
abbrev pub MayHave : List Node → ℕ → Type 0
MayHave nodes zero = Unit {0}
MayHave nodes (suc n) = 0 < length nodes

abbrev pub MayComeInputs : Draft → ℕ → Line → State → Type 0
MayComeInputs d zero l s = (n : ℕ) × (n < 2 ^ 32) × (l ≡ count_line (codes "nodes") n) ×
    (s ≡ state.Nodes d (replicate (length d.inputs) false) n)
MayComeInputs d (suc left) l s = (name : List ℕ) × IsName name × (l ≡ name_line name) ×
    (s ≡ state.Inputs (with_input d name) left)

abbrev pub MayComeNodes : Draft → List Bool → ℕ → Line → State → Type 0
MayComeNodes d seen zero l s = (n : ℕ) × ((n < 2 ^ 32) × MayHave d.nodes n) ×
    (l ≡ count_line (codes "outputs") n) × (s ≡ state.Outputs d n)
MayComeNodes d seen (suc left) l s = (node : Node) × MayStand d (length d.nodes + suc left) node ×
    (l ≡ node_line node) × (s ≡ state.Nodes (with_node d node) (marked node seen) left)

abbrev pub MayComeOutputs : Draft → ℕ → Line → State → Type 0
MayComeOutputs d zero l s = (p : Part × ℕ) × (IsMadeFrom d p.0 × (p.1 < 2 ^ 32)) ×
    (l ≡ count_line (codes "attempts") p.1) × (s ≡ state.Tries (untried p.0 p.1))
MayComeOutputs d (suc left) l s = (o : Output) × (IsName o.name × NamesNodes (length d.nodes) o) ×
    (l ≡ output_line o) × (s ≡ state.Outputs (with_output d o) left)

-- a head, and how many queries are due
pub record IsHead (part : Part) (head : Head) (queries : ℕ) : Type 0 where
  pub name : IsName head.name
  pub limits : IsWithinLimits head
  pub few : queries < 2 ^ 32
  pub may : MayAsk part queries

abbrev pub MayComeTries : Tally → ℕ → Line → State → Type 0
MayComeTries t zero l s = (l ≡ verdict_line (verdict_of (slice_get t.tries (length t.tries - 1)))) ×
    (s ≡ state.Closing t)
MayComeTries t (suc left) l s = (h : Head × ℕ) × IsHead t.part h.0 h.1 × (l ≡ head_line h.0 h.1) ×
    (s ≡ state.Queries (with_left t left) (opened h.0 h.1))

pub record IsQuestion (part : Part) (a : Question) : Type 0 where
  pub unrollable : IsUnrollable part a.k
  pub fits : FitsDue a.due

abbrev pub MayComeQueries : Tally → Open → ℕ → Line → State → Type 0
MayComeQueries t o zero l s = (e : End) × IsShortEnd e × (l ≡ end_line e) × (s ≡ state.Tries (with_try t o e))
MayComeQueries t o (suc left) l s = (a : Question) × IsQuestion t.part a × (l ≡ query_line a.query a.k a.due) ×
    (s ≡ behind_query t (one_less o left) a.query a.k a.due)

abbrev pub MayComeFrames : Tally → Open → Query → ℕ → Run → ℕ → Line → State → Type 0
MayComeFrames t o q k run zero l s = ⊥
MayComeFrames t o q k run (suc left) l s = (frame : List Bool) × (length frame ≡ length t.part.inputs) ×
    (l ≡ frame_line frame) × (s ≡ in_frames t o q k (with_frame run frame) left)

-- a step whose antecedents come before it
pub record IsNextStep (conflicts first : ℕ) (log : List Inference) (step : Inference) : Type 0 where
  pub fits : IsStep step
  pub earlier : All (λ n. n < first + length log) step.ants
  pub few : conflicts + nonempty_of (step ∷ []) < 2 ^ 64

abbrev pub MayComeSteps : Tally → Open → Query → ℕ → Bool → ℕ → List Inference → ℕ → Line → State → Type 0
MayComeSteps t o q k spent first log zero l s = ⊥
MayComeSteps t o q k spent first log (suc left) l s =
    (step : Inference) × IsNextStep t.conflicts first log step × (l ≡ step_fields (first + length log) step) ×
    (s ≡ in_steps (with_conflicts t (t.conflicts + nonempty_of (step ∷ []))) o q k spent first (log ++ step ∷ []) left)

-- where the reading stands so, the line may follow, and the reading then stands so
abbrev pub MayComeNext : State → Line → State → Type 0
MayComeNext state.Titled l s = (name : List ℕ) × IsName name × (l ≡ part_line name) × (s ≡ state.Named name)
MayComeNext (state.Named name) l s = (n : ℕ) × (n < 2 ^ 32) × (l ≡ count_line (codes "inputs") n) ×
    (s ≡ state.Inputs (begun name) n)
MayComeNext (state.Inputs d left) l s = MayComeInputs d left l s
MayComeNext (state.Nodes d seen left) l s = MayComeNodes d seen left l s
MayComeNext (state.Outputs d left) l s = MayComeOutputs d left l s
MayComeNext (state.Tries t) l s = MayComeTries t t.left l s
MayComeNext (state.Queries t o) l s = MayComeQueries t o o.left l s
MayComeNext (state.Regs t o q k) l s = (regs : List Bool) × (length regs ≡ register_count t.part.nodes) ×
    (l ≡ regs_line regs) × (s ≡ in_frames t o q k (record { regs = regs; inputs = [] }) (frame_count q k))
MayComeNext (state.Frames t o q k run left) l s = MayComeFrames t o q k run left l s
MayComeNext (state.Steps t o q k log) l s = MayComeSteps t o q k log.spent log.first log.log log.left l s
MayComeNext (state.Closing t) l s = (l ≡ last_line) × (s ≡ state.Ended t)
MayComeNext (state.Ended t) l s = ⊥
