-- Cited by proofs alone; nothing here has to be believed.
-- What the words of a line are where the reading stands.
use Rattle.std.specs.Prelude.{◌≡◌, ◌≢◌, ℕ, ◌+◌, ◌-◌, ◌==◌, false, List, [], ◌∷◌, ◌++◌, Some, length, map, slice_get}
use Rattle.std.specs.List.{AllByRecursion, slice_split}
use Rattle.eq_bits.specs.declared.node.Node.TheVariants.{Input}
use Rattle.eq_induct.specs.declared.types.Decided.{Decided}
use Rattle.eq_induct.specs.Outcome.{verdict_of}
use Rattle.eq_wit.specs.declared.state.State.{State}
use Rattle.eq_wit.specs.declared.state.State.TheVariants as state
use Rattle.eq_wit.specs.declared.state.Stop.{Stop}
use Rattle.eq_wit.specs.declared.state.Stop.TheVariants as stop
use Rattle.eq_wit.specs.declared.state.Tally.{Tally}
use Rattle.eq_wit.specs.declared.types.Evidence.{Evidence}
use Rattle.eq_wit.specs.declared.types.WitKind.{WitKind}
use Rattle.eq_wit.specs.declared.types.WitKind.TheVariants as kind
use Rattle.eq_wit.specs.Evidence.{MakeEvidence}
use Rattle.eq_wit.specs.Faults.{IsFirstFault, Prints}
use Rattle.eq_wit.specs.Line.{HasForm, Line, field_text, line_text, lines_text}
use Rattle.eq_wit.specs.Texts.{node_line}
use Rattle.eq_wit.specs.inner.Reading.{MayComeNext, title}

-- no line feed is among the bytes
abbrev pub HasNoFeed : List ℕ → Type 0
HasNoFeed bytes = AllByRecursion (λ b. (b == 10) ≡ false) bytes

-- the words of a line's bytes, without its line feed
abbrev pub words_in : List ℕ → List (List ℕ)
words_in line = slice_split (λ b. b == 32) line

abbrev pub words_of : Line → List (List ℕ)
words_of line = map field_text line

-- a line of these words may follow, and the reading then stands so
abbrev pub TakesLine : State → List (List ℕ) → State → Type 0
TakesLine s ws next = (l : Line) × MayComeNext s l next × (words_of l ≡ ws)

-- no line of these words may follow
abbrev pub RefusesLine : State → List (List ℕ) → Type 0
RefusesLine s ws = (l : Line) (next : State) → MayComeNext s l next → words_of l ≡ ws → ⊥

-- the words have the form of a line that may follow
abbrev pub HasFormAt : State → List (List ℕ) → Type 0
HasFormAt s ws = (l : Line) × (next : State) × MayComeNext s l next × HasForm l ws

-- the words are those of a node that stands for an input, and an earlier node stands for it
abbrev pub NamesAgain : State → List (List ℕ) → Type 0
NamesAgain (state.Nodes d seen left) ws =
    (i : ℕ) × (m : ℕ) × (slice_get d.nodes m ≡ Some (Input i)) × (ws ≡ words_of (node_line (Input i)))
NamesAgain _ ws = ⊥

abbrev pub KindAt : State → List (List ℕ) → WitKind → Type 0
KindAt s ws kind.Head = ⊥
KindAt s ws kind.End = (t : Tally) × (s ≡ state.Ended t)
KindAt s ws kind.Number = HasFormAt s ws × (¬ NamesAgain s ws)
KindAt s ws kind.Word = ((t : Tally) → s ≡ state.Ended t → ⊥) × (HasFormAt s ws → NamesAgain s ws)

pub record IsFaulty (s : State) (ws : List (List ℕ)) (kind : WitKind) : Type 0 where
  pub refused : RefusesLine s ws
  pub kind_is : KindAt s ws kind

-- the tries that were read, and what they come to
abbrev pub decided_by : Tally → Decided
decided_by t = record {
  tries = t.tries;
  verdict = verdict_of (slice_get t.tries (length t.tries - 1));
  conflicts = t.conflicts;
}

-- behind these lines of an evidence, the first of which is the title, the reading stands so
abbrev pub Runs : State → List Line → State → Type 0
Runs s [] end = s ≡ end
Runs s (l ∷ ls) end = (next : State) × MayComeNext s l next × Runs next ls end

-- the reading has come so far in a text, behind so many lines
pub record IsReached (text : List ℕ) (s : State) (line : ℕ) (rest : List ℕ) : Type 0 where
  pub lines : List Line
  pub runs : Runs state.Titled lines s
  pub text_is : text ≡ lines_text (title ∷ lines) ++ rest
  pub number : line ≡ length lines + 1

-- what stopped the reading; want of memory says nothing
abbrev pub StopsBy : (WitKind → Type 0) → Stop → Type 0
StopsBy P (stop.Fault kind) = P kind
StopsBy P stop.Memory = Unit {0}

-- ---- what is proved of a reading

-- behind a line that may follow it has come one line further
abbrev pub GoesFurther : Type 0
GoesFurther = (text : List ℕ) (s next : State) (line : ℕ) (l : Line) (rest after : List ℕ) →
    IsReached text s line rest → MayComeNext s l next → rest ≡ line_text l ++ after → IsReached text next (line + 1) after

-- a line that may not follow is the first fault, of this kind
abbrev pub FaultAtLine : Type 0
FaultAtLine = (text : List ℕ) (s : State) (line : ℕ) (bytes after : List ℕ) (kind : WitKind) →
    IsReached text s line (bytes ++ 10 ∷ after) → HasNoFeed bytes → IsFaulty s (words_in bytes) kind →
    IsFirstFault text (line + 1) kind

-- so is the end of the text where a line is due
abbrev pub FaultAtEnd : Type 0
FaultAtEnd = (text : List ℕ) (s : State) (line : ℕ) → IsReached text s line [] →
    ((t : Tally) → s ≡ state.Ended t → ⊥) → IsFirstFault text (line + 1) kind.End

-- and a last line without a line feed
abbrev pub FaultWithoutFeed : Type 0
FaultWithoutFeed = (text : List ℕ) (s : State) (line b : ℕ) (bytes : List ℕ) → IsReached text s line (b ∷ bytes) →
    HasNoFeed (b ∷ bytes) → ((t : Tally) → s ≡ state.Ended t → ⊥) → IsFirstFault text (line + 1) kind.Word

-- and what stands behind the last line
abbrev pub FaultBehind : Type 0
FaultBehind = (text : List ℕ) (t : Tally) (line b : ℕ) (bytes : List ℕ) →
    IsReached text (state.Ended t) line (b ∷ bytes) → IsFirstFault text (line + 1) kind.End

-- a text without the first line is faulty there
abbrev pub FaultAtFirst : Type 0
FaultAtFirst = (text : List ℕ) → ((more : List ℕ) → text ≢ line_text title ++ more) → IsFirstFault text 1 kind.Head

-- where the reading has ended with the text, the text is this evidence's
abbrev pub EndsWithEvidence : Type 0
EndsWithEvidence = (text : List ℕ) (t : Tally) (line : ℕ) (e : Evidence) → IsReached text (state.Ended t) line [] →
    e.part ≡ t.part → e.heads ≡ t.heads → e.decided ≡ decided_by t → Prints e text

-- and what was read makes one
abbrev pub MakesEvidence : Type 0
MakesEvidence = (text : List ℕ) (t : Tally) (line : ℕ) (rest : List ℕ) → IsReached text (state.Ended t) line rest →
    MakeEvidence t.part t.heads (decided_by t)
