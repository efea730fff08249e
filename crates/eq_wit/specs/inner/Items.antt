-- Cited by proofs alone; nothing here has to be believed.
-- What the words of a line say where lines of one kind may stand, or what is wrong with them.
use Rattle.std.specs.Prelude.{◌≡◌, ℕ, All, zero, suc, ◌-◌, ◌^◌, ◌<◌, ◌≤◌, ◌⊎◌, Bool, false, true, List, [], ◌∷◌, ◌++◌, Result, MatchResult, Some, codes, length, map, slice_get}
use Rattle.std.specs.Fmt.{decimal}
use Rattle.eq_names.specs.Name.{IsName}
use Rattle.eq_bits.specs.declared.part.Output.{Output}
use Rattle.eq_bits.specs.Part.{NamesNodes}
use Rattle.eq_proof.specs.Literal.{Literal}
use Rattle.eq_proof.specs.Inference.{Inference}
use Rattle.eq_proof.specs.Text.{IsClauseUpTo, literal_word}
use Rattle.eq_wit.specs.declared.state.Draft.{Draft}
use Rattle.eq_wit.specs.declared.state.State.{State}
use Rattle.eq_wit.specs.declared.state.Stop.{Stop}
use Rattle.eq_wit.specs.declared.state.Stop.TheVariants as stop
use Rattle.eq_wit.specs.declared.types.WitKind.{WitKind}
use Rattle.eq_wit.specs.declared.types.WitKind.TheVariants as kind
use Rattle.eq_wit.specs.Line.{HasForm, Line, Word}
use Rattle.eq_wit.specs.Texts.{bits_word, head_line}
use Rattle.eq_wit.specs.declared.types.Head.{Head}
use Rattle.eq_wit.specs.inner.Judging.{IsFaulty, StopsBy, TakesLine, words_of}
use Rattle.eq_wit.specs.declared.state.Question.{Question}
use Rattle.eq_wit.specs.inner.Reading.{query_line}

-- the words say this
pub record IsItem {X : Type 0} (line : X → Line) (Fits : X → Type 0) (ws : List (List ℕ)) (x : X) : Type 0 where
  pub fits : Fits x
  pub words : words_of (line x) ≡ ws

abbrev pub ItemKind : {X : Type 0} → (X → Line) → (X → Type 0) → List (List ℕ) → WitKind → Type 0
ItemKind {X} line Fits ws kind.Head = ⊥
ItemKind {X} line Fits ws kind.Word = (x : X) → Fits x → HasForm (line x) ws → ⊥
ItemKind {X} line Fits ws kind.Number = (x : X) × Fits x × HasForm (line x) ws
ItemKind {X} line Fits ws kind.End = ⊥

-- they say nothing of the kind: a number is wrong, or a word
pub record IsNoItem {X : Type 0} (line : X → Line) (Fits : X → Type 0) (ws : List (List ℕ)) (kind : WitKind) : Type 0 where
  pub refused : (x : X) → Fits x → words_of (line x) ≡ ws → ⊥
  pub kind_is : ItemKind line Fits ws kind

abbrev pub ReadsLine : {X : Type 0} → (X → Line) → (X → Type 0) → List (List ℕ) → Result X Stop → Type 0
ReadsLine line Fits ws result = MatchResult result (IsItem line Fits ws) (StopsBy (IsNoItem line Fits ws))

-- a word that is no number that may stand there: a number is wrong where it could be one
abbrev pub IsWrong : List ℕ → Stop → Type 0
IsWrong word (stop.Fault kind.Number) = IsName word
IsWrong word (stop.Fault kind.Word) = ¬ IsName word
IsWrong word _ = ⊥

-- words that have a form, where a number is wrong: a number where all from a place on are names, else a word
abbrev pub IsWrongFrom : ℕ → List (List ℕ) → Stop → Type 0
IsWrongFrom n ws (stop.Fault kind.Number) = (k : ℕ) (word : List ℕ) → n ≤ k → slice_get ws k ≡ Some word → IsName word
IsWrongFrom n ws (stop.Fault kind.Word) =
    (k : ℕ) × (word : List ℕ) × (n ≤ k) × (slice_get ws k ≡ Some word) × (¬ IsName word)
IsWrongFrom n ws _ = ⊥

abbrev pub IsOutput : ℕ → Output → Type 0
IsOutput nodes o = IsName o.name × NamesNodes nodes o

-- a key with truth values
abbrev pub bits_line : List ℕ → List Bool → Line
bits_line key bits = Word key ∷ bits_word bits ∷ []

-- so many truth values
abbrev pub IsBits : ℕ → List Bool → Type 0
IsBits n bits = length bits ≡ n

abbrev pub question_line : Question → Line
question_line a = query_line a.query a.k a.due

abbrev pub headed_line : Head × ℕ → Line
headed_line h = head_line h.0 h.1

-- the word of a log's answer: spent, or not
abbrev pub log_word : Bool → List ℕ
log_word false = codes "unsat"
log_word true = codes "spent"

-- where an operand is wrong: a word where there is no earlier node
abbrev pub IsWrongOperand : ℕ → List (List ℕ) → Stop → Type 0
IsWrongOperand zero ws (stop.Fault kind.Word) = Unit {0}
IsWrongOperand zero ws _ = ⊥
IsWrongOperand (suc n) ws s = IsWrongFrom 1 ws s

-- what is promised of a draft where a node is read
pub record IsReady (d : Draft) (total : ℕ) : Type 0 where
  pub within : length d.nodes < total
  pub few : total < 2 ^ 32
  pub few_inputs : length d.inputs < 2 ^ 32

-- where a word is the number of no input without a node: a word where there is no such input
abbrev pub IsWrongInput : List Bool → List ℕ → Stop → Type 0
IsWrongInput seen word (stop.Fault kind.Number) = IsName word × ((i : ℕ) × (slice_get seen i ≡ Some false))
IsWrongInput seen word (stop.Fault kind.Word) =
    ((i : ℕ) → i < length seen → slice_get seen i ≡ Some true) ⊎ (¬ IsName word)
IsWrongInput seen word _ = ⊥

-- the reading goes on behind a line of the words, or this is wrong with them
abbrev pub Judges : State → List (List ℕ) → Result State Stop → Type 0
Judges s ws result = MatchResult result (TakesLine s ws) (StopsBy (IsFaulty s ws))

-- a number from 1 to below a limit
abbrev pub IsFrom : ℕ → ℕ → Type 0
IsFrom limit n = (1 ≤ n) × (n < limit)

-- the words of a step
abbrev pub step_words : ℕ → List Literal → List ℕ → List (List ℕ)
step_words n clause ants =
    decimal n ∷ (map literal_word clause ++ codes "0" ∷ (map decimal ants ++ codes "0" ∷ []))

-- `0` stands at this place, behind the first word and before the last, and is the last
pub record HasZeros (ws : List (List ℕ)) (z : ℕ) : Type 0 where
  pub from : 1 ≤ z
  pub within : suc z < length ws
  pub middle : slice_get ws z ≡ Some (codes "0")
  pub last : slice_get ws (length ws - 1) ≡ Some (codes "0")

-- where words are no step: a number is wrong where there are such zeros and all words are names, else a word
abbrev pub IsMisstep : List (List ℕ) → Stop → Type 0
IsMisstep ws s = ((z : ℕ) × HasZeros ws z × (z < 2 ^ 32) × IsWrongFrom 0 ws s) ⊎
    ((s ≡ stop.Fault kind.Word) × ((z : ℕ) → HasZeros ws z → z < 2 ^ 32 → ⊥))

-- a step with antecedents below its number
abbrev pub IsEarlierStep : ℕ → Inference → Type 0
IsEarlierStep n step = IsClauseUpTo (2 ^ 31 - 1) step.clause × All (IsFrom n) step.ants
