-- Cited by proofs alone; nothing here has to be believed.
-- Which lines were read where the reading stands, and what it has seen to by then.
use Rattle.std.specs.Prelude.{◌≡◌, ℕ, suc, ◌+◌, ◌-◌, ◌^◌, ◌<◌, Bool, true, List, [], ◌∷◌, ◌++◌, Some, All, length, map, slice_get, sum_by, codes}
use Rattle.std.specs.List.{flat_map}
use Rattle.eq_names.specs.Name.{IsName}
use Rattle.eq_bits.specs.declared.node.Node.{Node}
use Rattle.eq_bits.specs.declared.node.Node.TheVariants.{Input}
use Rattle.eq_bits.specs.declared.part.Part.{Part}
use Rattle.eq_bits.specs.declared.run.Run.{Run}
use Rattle.eq_bits.specs.Cycle.{register_count}
use Rattle.eq_bits.specs.Node.{IsNode, NamesInput}
use Rattle.eq_bits.specs.Part.{NamesNodes}
use Rattle.eq_proof.specs.Derivation.{nonempty_of}
use Rattle.eq_proof.specs.Lrat.{IsStep}
use Rattle.eq_unroll.specs.declared.query.Query.{Query}
use Rattle.eq_unroll.specs.Query.{IsUnrollable, frame_count}
use Rattle.eq_induct.specs.declared.types.Asked.{Asked}
use Rattle.eq_induct.specs.declared.types.Try.{Try}
use Rattle.eq_induct.specs.Attempts.{learned}
use Rattle.eq_induct.specs.Outcome.{verdict_of}
use Rattle.eq_wit.specs.declared.types.Head.{Head}
use Rattle.eq_wit.specs.declared.state.Draft.{Draft}
use Rattle.eq_wit.specs.declared.state.Tally.{Tally}
use Rattle.eq_wit.specs.declared.state.Open.{Open}
use Rattle.eq_wit.specs.declared.state.Steps.{Steps}
use Rattle.eq_wit.specs.declared.state.State.{State}
use Rattle.eq_wit.specs.declared.state.State.TheVariants as state
use Rattle.eq_wit.specs.Evidence.{HaveEarlier, IsAskedOf, IsTryOf, IsWithinLimits}
use Rattle.eq_wit.specs.Faults.{HasLog, IsTypedTry}
use Rattle.eq_wit.specs.Line.{Line}
use Rattle.eq_wit.specs.Texts.{asked_lines, counted, first_number, frame_line, head_line, lines_of_part, log_lines, name_line, node_line, output_line, regs_line, tries_lines, verdict_line}
use Rattle.eq_wit.specs.declared.state.Due.TheVariants.{Run as a_run, Log as a_log}
use Rattle.eq_wit.specs.inner.Reading.{MayAsk, MayHave, count_line, last_line, part_line, query_line, title}

-- ---- the lines that were read

abbrev pub inputs_of : Draft → List Line
inputs_of d = counted (codes "inputs") (map name_line d.inputs)

abbrev pub nodes_of : Draft → List Line
nodes_of d = counted (codes "nodes") (map node_line d.nodes)

-- the part, the number of tries, and the tries
abbrev pub tally_lines : Tally → ℕ → List Line
tally_lines t n =
    (title ∷ lines_of_part t.part) ++ (count_line (codes "attempts") n ∷ tries_lines t.part t.heads t.tries)

-- a try so far, with its number of queries
abbrev pub open_lines : Part → Open → ℕ → List Line
open_lines part o n = head_line o.head n ∷ flat_map (asked_lines part) o.asked

-- up to a query
abbrev pub query_lines : Tally → Open → List Line → List Line
query_lines t o lines =
    tally_lines t (length t.tries + suc t.left) ++ (open_lines t.part o (length o.asked + suc o.left) ++ lines)

abbrev pub lines_read : State → List Line
lines_read state.Titled = title ∷ []
lines_read (state.Named name) = title ∷ part_line name ∷ []
lines_read (state.Inputs d left) =
    title ∷ part_line d.name ∷ count_line (codes "inputs") (length d.inputs + left) ∷ map name_line d.inputs
lines_read (state.Nodes d seen left) = title ∷ part_line d.name ∷
    (inputs_of d ++ (count_line (codes "nodes") (length d.nodes + left) ∷ map node_line d.nodes))
lines_read (state.Outputs d left) = title ∷ part_line d.name ∷ (inputs_of d ++
    (nodes_of d ++ (count_line (codes "outputs") (length d.outputs + left) ∷ map output_line d.outputs)))
lines_read (state.Tries t) = tally_lines t (length t.tries + t.left)
lines_read (state.Queries t o) =
    tally_lines t (length t.tries + suc t.left) ++ open_lines t.part o (length o.asked + o.left)
lines_read (state.Regs t o q k) = query_lines t o (query_line q k a_run ∷ [])
lines_read (state.Frames t o q k run left) =
    query_lines t o (query_line q k a_run ∷ regs_line run.regs ∷ map frame_line run.inputs)
lines_read (state.Steps t o q k log) = query_lines t o
    (query_line q k (a_log log.spent (length log.log + log.left)) ∷ log_lines log.first log.log)
lines_read (state.Closing t) =
    tally_lines t (length t.tries) ++ verdict_line (verdict_of (slice_get t.tries (length t.tries - 1))) ∷ []
lines_read (state.Ended t) = tally_lines t (length t.tries) ++
    verdict_line (verdict_of (slice_get t.tries (length t.tries - 1))) ∷ last_line ∷ []

-- ---- what was seen to

-- the marks are of the inputs that have a node
pub record AreMarks (d : Draft) (seen : List Bool) : Type 0 where
  pub long : length seen ≡ length d.inputs
  pub marked : (i m : ℕ) → slice_get d.nodes m ≡ Some (Input i) → slice_get seen i ≡ Some true
  pub found : (i : ℕ) → slice_get seen i ≡ Some true → (m : ℕ) × (slice_get d.nodes m ≡ Some (Input i))

-- names and few inputs
pub record HasNamedInputs (d : Draft) (more : ℕ) : Type 0 where
  pub name : IsName d.name
  pub inputs : All IsName d.inputs
  pub few : length d.inputs + more < 2 ^ 32

-- the nodes may be the first of so many
pub record HasNodes (d : Draft) (total : ℕ) : Type 0 where
  pub few : total < 2 ^ 32
  pub operands : (m : ℕ) (node : Node) → slice_get d.nodes m ≡ Some node → IsNode total m node
  pub there : (m : ℕ) (node : Node) → slice_get d.nodes m ≡ Some node → NamesInput (length d.inputs) node
  pub one_node : (a b i : ℕ) → slice_get d.nodes a ≡ Some (Input i) → slice_get d.nodes b ≡ Some (Input i) → a ≡ b

pub record HasOutputs (d : Draft) (left : ℕ) : Type 0 where
  pub names : All (λ o. IsName o.name) d.outputs
  pub there : All (NamesNodes (length d.nodes)) d.outputs
  pub few : length d.outputs + left < 2 ^ 32
  pub may : MayHave d.nodes left

pub record HasNames (part : Part) : Type 0 where
  pub name : IsName part.name
  pub inputs : All IsName part.inputs
  pub outputs : All (λ o. IsName o.name) part.outputs

pub record IsReadHead (head : Head) : Type 0 where
  pub name : IsName head.name
  pub limits : IsWithinLimits head

pub record IsReadTry (part : Part) (i : ℕ) (t : Try) : Type 0 where
  pub fits : IsTryOf part t
  pub typed : IsTypedTry t
  pub number : t.strategy ≡ i

pub record IsReadAsked (part : Part) (a : Asked) : Type 0 where
  pub fits : IsAskedOf part a
  pub typed : HasLog a.answer

-- tries that were read, where so many are due behind them
pub record HasTries (t : Tally) (left : ℕ) : Type 0 where
  pub names : HasNames t.part
  pub same : length t.heads ≡ length t.tries
  pub few : length t.tries + left < 2 ^ 32
  pub heads : (i : ℕ) (head : Head) → slice_get t.heads i ≡ Some head → IsReadHead head
  pub tries : (i : ℕ) (x : Try) → slice_get t.tries i ≡ Some x → IsReadTry t.part i x
  pub few_conflicts : t.conflicts < 2 ^ 64

-- the steps with a literal in the logs of all tries
abbrev pub learned_by : List Try → ℕ
learned_by tries = sum_by (λ t. learned t.attempt.asked) tries

-- queries that were read, where so many are due behind them
pub record HasAsked (part : Part) (o : Open) (left : ℕ) : Type 0 where
  pub head : IsReadHead o.head
  pub few : length o.asked + left < 2 ^ 32
  pub asked : (i : ℕ) (a : Asked) → slice_get o.asked i ≡ Some a → IsReadAsked part a
  pub may : MayAsk part left

-- a try whose queries are being read, with so many further conflicts
pub record IsTrying (t : Tally) (o : Open) (left more : ℕ) : Type 0 where
  pub tries : HasTries t (suc t.left)
  pub asked : HasAsked t.part o left
  pub conflicts : t.conflicts ≡ learned_by t.tries + learned o.asked + more

pub record HasRunSoFar (part : Part) (q : Query) (k : ℕ) (run : Run) (left : ℕ) : Type 0 where
  pub regs : length run.regs ≡ register_count part.nodes
  pub inputs : All (λ frame. length frame ≡ length part.inputs) run.inputs
  pub cycles : length run.inputs + left ≡ frame_count q k

pub record HasSteps (part : Part) (q : Query) (k : ℕ) (log : Steps) : Type 0 where
  pub first : log.first ≡ first_number part q k
  pub few : length log.log + log.left < 2 ^ 32
  pub steps : All IsStep log.log
  pub earlier : HaveEarlier log.first log.log

abbrev pub Stands : State → Type 0
Stands state.Titled = Unit {0}
Stands (state.Named name) = IsName name
Stands (state.Inputs d left) = HasNamedInputs d left × (d.nodes ≡ []) × (d.outputs ≡ [])
Stands (state.Nodes d seen left) =
    HasNamedInputs d 0 × HasNodes d (length d.nodes + left) × AreMarks d seen × (d.outputs ≡ [])
Stands (state.Outputs d left) = HasNamedInputs d 0 × HasNodes d (length d.nodes) × HasOutputs d left
Stands (state.Tries t) = HasTries t t.left × (t.conflicts ≡ learned_by t.tries)
Stands (state.Queries t o) = IsTrying t o o.left 0
Stands (state.Regs t o q k) = IsTrying t o (suc o.left) 0 × IsUnrollable t.part k
Stands (state.Frames t o q k run left) =
    IsTrying t o (suc o.left) 0 × IsUnrollable t.part k × HasRunSoFar t.part q k run left × (0 < left)
Stands (state.Steps t o q k log) =
    IsTrying t o (suc o.left) (nonempty_of log.log) × IsUnrollable t.part k × HasSteps t.part q k log × (0 < log.left)
Stands (state.Closing t) = HasTries t 0 × (t.conflicts ≡ learned_by t.tries)
Stands (state.Ended t) = HasTries t 0 × (t.conflicts ≡ learned_by t.tries)
