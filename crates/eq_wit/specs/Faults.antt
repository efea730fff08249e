-- Which texts are those of evidences, and which line of any other text is the first that no evidence continues with.
use Rattle.std.specs.Prelude.{◌≡◌, ◌≢◌, ℕ, ◌-◌, ◌≤◌, ◌<◌, ◌^◌, ◌⊎◌, List, All, Option, None, Some, length, map, slice_get}
use Rattle.eq_names.specs.Name.{IsName}
use Rattle.eq_bits.specs.declared.node.Node.TheVariants.{Input}
use Rattle.eq_proof.specs.Inference.{Inference}
use Rattle.eq_proof.specs.Lrat.{IsStep}
use Rattle.eq_proof.specs.Text.{AgreeOn, IsFirstBadLine, lines_of}
use Rattle.eq_induct.specs.declared.types.Answer.{Answer}
use Rattle.eq_induct.specs.declared.types.Answer.TheVariants.{Sat, Unsat, Spent}
use Rattle.eq_induct.specs.declared.types.Asked.{Asked}
use Rattle.eq_induct.specs.declared.types.End.{End}
use Rattle.eq_induct.specs.declared.types.End.TheVariants as end
use Rattle.eq_induct.specs.declared.types.Try.{Try}
use Rattle.eq_wit.specs.declared.types.Evidence.{Evidence}
use Rattle.eq_wit.specs.declared.types.WitKind.{WitKind}
use Rattle.eq_wit.specs.declared.types.WitKind.TheVariants as kind
use Rattle.eq_wit.specs.Line.{HasForm, Line, Word, line_text}
use Rattle.eq_wit.specs.Texts.{evidence_lines, evidence_text, node_line}

-- ---- texts of evidences

-- tries are numbered from 0, as reading numbers them
abbrev pub AreNumbered : List Try → Type 0
AreNumbered tries = (i : ℕ) (t : Try) → slice_get tries i ≡ Some t → t.strategy ≡ i

-- a number of cycles has 32 bits
abbrev pub IsShortEnd : End → Type 0
IsShortEnd (end.Proved k) = k < 2 ^ 32
IsShortEnd (end.Fail k) = k < 2 ^ 32
IsShortEnd end.Deep = Unit {0}
IsShortEnd end.Spent = Unit {0}

-- there are fewer than 2^32 steps, each a clause in order with numbers from 1
pub record IsLogOf (log : List Inference) : Type 0 where
  pub few : length log < 2 ^ 32
  pub steps : All IsStep log

abbrev pub HasLog : Answer → Type 0
HasLog (Sat run) = Unit {0}
HasLog (Unsat log) = IsLogOf log
HasLog (Spent log) = IsLogOf log

pub record IsTypedTry (t : Try) : Type 0 where
  pub logs : (i : ℕ) (a : Asked) → slice_get t.attempt.asked i ≡ Some a → HasLog a.answer
  pub end : IsShortEnd t.attempt.end

-- a value of the types, whose numbers have their bits and whose names are names, with its tries numbered in order. A
-- variable of a specification ranges over all numbers and lists
pub record IsTyped (e : Evidence) : Type 0 where
  pub name : IsName e.part.name
  pub inputs : All IsName e.part.inputs
  pub outputs : All (λ output. IsName output.name) e.part.outputs
  pub heads : All (λ head. IsName head.name) e.heads
  pub tries : (i : ℕ) (t : Try) → slice_get e.decided.tries i ≡ Some t → IsTypedTry t
  pub conflicts : e.decided.conflicts < 2 ^ 64
  pub in_order : AreNumbered e.decided.tries

abbrev pub lines_of_evidence : Evidence → List Line
lines_of_evidence e = evidence_lines e.part e.heads e.decided

abbrev pub text_of_evidence : Evidence → List ℕ
text_of_evidence e = evidence_text e.part e.heads e.decided

-- the text of this evidence
pub record Prints (e : Evidence) (text : List ℕ) : Type 0 where
  pub plain : IsTyped e
  pub text_is : text ≡ text_of_evidence e

-- the text of some evidence
abbrev pub IsEvidenceText : List ℕ → Type 0
IsEvidenceText text = (e : Evidence) × Prints e text

-- one evidence a text
abbrev pub OneEvidence : Type 0
OneEvidence = (text : List ℕ) (e f : Evidence) → Prints e text → Prints f text → e ≡ f

-- ---- lines that are due

-- the line of a number, counted from 1
abbrev pub text_line : List ℕ → ℕ → Option (List ℕ)
text_line text line = slice_get (lines_of text) (line - 1)

-- some evidence has the text's lines before this one, and then this line
pub record IsDue (text : List ℕ) (line : ℕ) (due : Line) : Type 0 where
  pub evidence : Evidence
  pub plain : IsTyped evidence
  pub agrees : AgreeOn (line - 1) (text_of_evidence evidence) text
  pub there : slice_get (lines_of_evidence evidence) (line - 1) ≡ Some due

-- a line that is due would be this one, but for what stands at the places of its numbers
abbrev pub IsRightButForNumbers : List ℕ → ℕ → Type 0
IsRightButForNumbers text line = (due : Line) × (words : List (List ℕ)) × IsDue text line due × HasForm due words ×
    (text_line text line ≡ Some (line_text (map Word words)))

-- the line is `input I` with a number of 32 bits, and so is an earlier one
abbrev pub RepeatsInput : List ℕ → ℕ → Type 0
RepeatsInput text line = (i : ℕ) × (earlier : ℕ) × (i < 2 ^ 32) × (1 ≤ earlier) × (earlier < line) ×
    (text_line text earlier ≡ Some (line_text (node_line (Input i)))) ×
    (text_line text line ≡ Some (line_text (node_line (Input i))))

-- ---- kinds

-- there is a line though none is due, or none though one is due
abbrev pub IsAmiss : List ℕ → ℕ → Type 0
IsAmiss text line = (text_line text line ≡ None) ⊎ ((due : Line) → ¬ IsDue text line due)

abbrev pub IsNumberFault : List ℕ → ℕ → Type 0
IsNumberFault text line = IsRightButForNumbers text line × (¬ RepeatsInput text line)

-- what is wrong with the first line that no evidence continues with: the first that holds of Head (it is line 1), End
-- (there is none or none is due), Number (all but numbers is right) and Word
abbrev pub HasKind : List ℕ → ℕ → WitKind → Type 0
HasKind text line kind.Head = line ≡ 1
HasKind text line kind.End = (line ≢ 1) × IsAmiss text line
HasKind text line kind.Number = (line ≢ 1) × (¬ IsAmiss text line) × IsNumberFault text line
HasKind text line kind.Word = (line ≢ 1) × (¬ IsAmiss text line) × (¬ IsNumberFault text line)

-- the first line that no evidence continues with, and its kind
pub record IsFirstFault (text : List ℕ) (line : ℕ) (kind : WitKind) : Type 0 where
  pub first : IsFirstBadLine IsEvidenceText text line
  pub kind_is : HasKind text line kind

-- a text has one fault at most, and the text of an evidence has none
pub record OneFault : Type 0 where
  pub line : (text : List ℕ) (m n : ℕ) (a b : WitKind) → IsFirstFault text m a → IsFirstFault text n b → m ≡ n
  pub kind : (text : List ℕ) (m n : ℕ) (a b : WitKind) → IsFirstFault text m a → IsFirstFault text n b → a ≡ b
  pub never_both : (text : List ℕ) (m : ℕ) (a : WitKind) → IsEvidenceText text → IsFirstFault text m a → ⊥
