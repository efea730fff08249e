-- How a name is divided among the pieces of a pattern, and what its wilds capture.
use Rattle.std.specs.Prelude.{◌≡◌, ℕ, ◌+◌, ◌<◌, ◌≤◌, true, ◌⊎◌, if◌then◌else◌, List, [], ◌∷◌, ◌++◌, length, take, drop, ⊤}
use Rattle.eq_names.specs.declared.piece.Piece.{Piece}
use Rattle.eq_names.specs.declared.span.Span.{Span}
use Rattle.eq_names.specs.Pieces.{takes_byte, is_run, is_wild}

-- a piece takes a run of bytes: `*` any run, each other piece one byte
abbrev pub Takes : Piece → List ℕ → Type 0
Takes piece run = (is_run piece ≡ true) ⊎ ((b : ℕ) × (run ≡ b ∷ []) × (takes_byte piece b ≡ true))

-- The name is runs of these lengths, one after the other to its end, and each piece takes its run.
abbrev pub Divides : List Piece → List ℕ → List ℕ → Type 0
Divides [] [] name = name ≡ []
Divides (piece ∷ pieces) (len ∷ lens) name = (len ≤ length name) × Takes piece (take len name) × Divides pieces lens
    (drop len name)
Divides _ _ name = ⊥

-- some division gives each piece its run
abbrev pub IsDivided : List Piece → List ℕ → Type 0
IsDivided pieces name = (lens : List ℕ) × Divides pieces lens name

-- Each piece from the left takes the shortest run with which the rest still matches.
abbrev pub IsShortest : List Piece → List ℕ → List ℕ → Type 0
IsShortest (piece ∷ pieces) (len ∷ lens) name =
    ((m : ℕ) → m < len → Takes piece (take m name) → ¬ IsDivided pieces (drop m name)) × IsShortest pieces lens
    (drop len name)
IsShortest _ _ name = ⊤

-- where the run of a wild stands that begins at the place `at`; a byte that stands for itself has no span
abbrev pub span_of : Piece → ℕ → ℕ → List Span
span_of piece at len = if is_wild piece then record { start = at; end = at + len } ∷ [] else []

-- where the runs of the wilds stand, the first run at the place `at`
abbrev pub wild_spans : List Piece → List ℕ → ℕ → List Span
wild_spans (piece ∷ pieces) (len ∷ lens) at = span_of piece at len ++ wild_spans pieces lens (at + len)
wild_spans _ _ at = []

-- Of the name's divisions the one with the shortest runs from the left gives the wilds these spans, where the name
-- begins at the place `at`.
pub record AreSpans (pieces : List Piece) (name : List ℕ) (at : ℕ) (spans : List Span) : Type 0 where
  pub lens : List ℕ
  pub divides : Divides pieces lens name
  pub shortest : IsShortest pieces lens name
  pub spans_are : spans ≡ wild_spans pieces lens at
