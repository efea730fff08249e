-- Which texts are patterns, which names they match, and what their wilds capture.
use Rattle.std.specs.Prelude.{◌≡◌, ℕ, ◌+◌, if◌then◌else◌, ◌==◌, ◌⊎◌, Bool, List, [], drop, take, slice_index, count_by, Option, Some, None, Result, Ok, Err}
use Rattle.eq_names.specs.declared.fault.PatErr.{PatErr}
use Rattle.eq_names.specs.declared.fault.PatErr.TheVariants as error
use Rattle.eq_names.specs.declared.piece.Piece.{Piece}
use Rattle.eq_names.specs.declared.piece.Piece.TheVariants.{Byte, AnyByte, AnyRun, OneOf}
use Rattle.eq_names.specs.declared.span.Span.{Span}
use Rattle.eq_names.specs.Brackets.{is_negated, inside, closing, members, are_ranges}
use Rattle.eq_names.specs.Divisions.{IsDivided, AreSpans}
use Rattle.eq_names.specs.Pieces.{is_wild}
use Rattle.eq_names.specs.Reading.{Rule, ArePiecesOf, HasFirstFault}

-- The set whose closing `]` stands at this place inside; without one it is open, and that is the fault also where a
-- range goes down.
abbrev pub set_to : Bool → List ℕ → Option ℕ → Result (Piece × ℕ) PatErr
set_to negated text None = Err error.OpenBracket
set_to negated text (Some close) =
    if are_ranges (members (take close text))
    then Ok (
      OneOf (record { negated = negated; ranges = members (take close text) }),
      close + (if negated then 3 else 2),
    )
    else Err error.EmptyRange

-- the set behind a `[`
abbrev pub set_at : List ℕ → Result (Piece × ℕ) PatErr
set_at behind = set_to (is_negated behind) (inside behind) (closing (inside behind))

-- what stands at the front of a pattern: 42 is `*`, 63 `?` and 91 `[`
abbrev pub piece_at : Rule Piece PatErr
piece_at text =
    if slice_index text 0 == 42 then Ok (AnyRun, 1)
    else (if slice_index text 0 == 63 then Ok (AnyByte, 1)
    else (if slice_index text 0 == 91 then set_at (drop 1 text)
    else Ok (Byte (slice_index text 0), 1)))

-- the text is a pattern
abbrev pub IsPattern : List ℕ → Type 0
IsPattern text = (pieces : List Piece) × ArePiecesOf piece_at text pieces

-- The first fault of a text from the left: it has no byte, or a set begins that is open or has a range that goes down.
abbrev pub HasPatternFault : List ℕ → PatErr → Type 0
HasPatternFault text fault = ((text ≡ []) × (fault ≡ error.Empty)) ⊎ HasFirstFault piece_at text fault

-- the rule finds this fault, or there was no memory
abbrev pub IsRuleFault : Result (Piece × ℕ) PatErr → PatErr → Type 0
IsRuleFault found fault = (fault ≡ error.Memory) ⊎ (found ≡ Err fault)

-- this answer, but for want of memory
abbrev pub IsOrNoMemory : Result (List ℕ) PatErr → Result (List ℕ) PatErr → Type 0
IsOrNoMemory result answer = (result ≡ answer) ⊎ (result ≡ Err error.Memory)

-- what an error says of the text; want of memory says nothing
abbrev pub Explains : List ℕ → PatErr → Type 0
Explains text fault = (fault ≡ error.Memory) ⊎ HasPatternFault text fault

-- the name is divided among the pieces of the pattern
pub record Matches (pattern name : List ℕ) : Type 0 where
  pub pieces : List Piece
  pub are_pieces : ArePiecesOf piece_at pattern pieces
  pub divided : IsDivided pieces name

-- the wilds of the pattern stand at these spans of the name
pub record AreCaptures (pattern name : List ℕ) (spans : List Span) : Type 0 where
  pub pieces : List Piece
  pub are_pieces : ArePiecesOf piece_at pattern pieces
  pub are_spans : AreSpans pieces name 0 spans

-- the pattern has so many wilds
pub record HasWilds (pattern : List ℕ) (wilds : ℕ) : Type 0 where
  pub pieces : List Piece
  pub are_pieces : ArePiecesOf piece_at pattern pieces
  pub wilds_are : wilds ≡ count_by is_wild pieces
