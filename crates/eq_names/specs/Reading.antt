-- A text read piece by piece from left to right, by a rule for what stands at the front of a text that isn't empty: a piece
-- and how many bytes it has, or a fault.
use Rattle.std.specs.Prelude.{◌≡◌, ◌≢◌, ℕ, List, [], ◌∷◌, drop, Result, Ok, Err}

abbrev pub Rule : Type 0 → Type 0 → Type 0
Rule P F = List ℕ → Result (P × ℕ) F

-- the text is these pieces, one after the other, and then the rest
abbrev pub IsFront : {P F : Type 0} → Rule P F → List P → List ℕ → List ℕ → Type 0
IsFront rule [] text rest = text ≡ rest
IsFront rule (piece ∷ pieces) text rest = (text ≢ []) × ((len : ℕ) × (rule text ≡ Ok (
  piece,
  len,
)) × IsFront rule pieces (drop len text) rest)

-- The text has a byte, and is pieces from its first byte to its last.
pub record ArePiecesOf {P F : Type 0} (rule : Rule P F) (text : List ℕ) (pieces : List P) : Type 0 where
  pub some : text ≢ []
  pub whole : IsFront rule pieces text []

-- The text is pieces up to a place where this fault begins: the first from the left.
pub record HasFirstFault {P F : Type 0} (rule : Rule P F) (text : List ℕ) (fault : F) : Type 0 where
  pub pieces : List P
  pub rest : List ℕ
  pub front : IsFront rule pieces text rest
  pub more : rest ≢ []
  pub fault_is : rule rest ≡ Err fault
