-- The tokens of a text, and its first fault.
use Rattle.std.specs.Prelude.{◌≡◌, ℕ, ◌+◌, ◌<◌, ◌≤◌, List, [], ◌∷◌, ◌++◌, Option, Some, None, Result, Err, ◌⊎◌, ⊤, count_by, ◌==◌, take}
use Rattle.eq_vlex.specs.declared.fault.LexKind.{LexKind}
use Rattle.eq_vlex.specs.declared.fault.LexErr.{LexErr}
use Rattle.eq_vlex.specs.declared.fault.LexErr.TheVariants as error
use Rattle.eq_vlex.specs.declared.fault.Stop.{Stop}
use Rattle.eq_vlex.specs.declared.fault.Stop.TheVariants as stop
use Rattle.eq_vlex.specs.declared.piece.Piece.{Piece}
use Rattle.eq_vlex.specs.declared.token.Token.{Token}
use Rattle.eq_vlex.specs.declared.token.TokenKind.{TokenKind}
use Rattle.eq_vlex.specs.Pieces.{IsFront, BeginsFault}

-- the token of a piece that has a kind
abbrev pub token_of : Option TokenKind → ℕ → ℕ → List Token
token_of None at len = []
token_of (Some kind) at len = record { kind = kind; start = at; end = at + len } ∷ []

-- the tokens of pieces, the first of which begins at the place `at`
abbrev pub tokens_from : ℕ → List Piece → List Token
tokens_from at [] = []
tokens_from at (piece ∷ pieces) = token_of piece.kind at piece.len ++ tokens_from (at + piece.len) pieces

-- how many bytes pieces have
abbrev pub bytes_in : List Piece → ℕ
bytes_in [] = 0
bytes_in (piece ∷ pieces) = piece.len + bytes_in pieces

-- the text is pieces from its first byte to its last, and these are their tokens
pub record HasTokens (text : List ℕ) (tokens : List Token) : Type 0 where
  pub pieces : List Piece
  pub whole : IsFront pieces text []
  pub tokens_are : tokens ≡ tokens_from 0 pieces

-- the text is pieces up to the place `at`, where this fault begins
pub record HasFault (text : List ℕ) (at : ℕ) (fault : LexKind) : Type 0 where
  pub pieces : List Piece
  pub rest : List ℕ
  pub front : IsFront pieces text rest
  pub at_is : at ≡ bytes_in pieces
  pub fault_is : BeginsFault rest fault

-- what an error says of the text; want of memory says nothing
abbrev pub Explains : List ℕ → LexErr → Type 0
Explains text (error.At at fault) = HasFault text at fault
Explains text error.Memory = ⊤

-- the error of what stopped the reading at a place
abbrev pub located : Stop → ℕ → LexErr
located (stop.Fault fault) at = error.At at fault
located stop.Memory at = error.Memory

-- spans in order: each has a byte, none overlaps the next, and all are between two places
abbrev pub AreInOrder : ℕ → ℕ → List Token → Type 0
AreInOrder from to [] = from ≤ to
AreInOrder from to (token ∷ tokens) = (from ≤ token.start) × (token.start < token.end) × AreInOrder token.end to tokens

-- this answer, but for want of memory
abbrev pub IsOrNoMemory : Result (List Token) LexErr → Result (List Token) LexErr → Type 0
IsOrNoMemory result answer = (result ≡ answer) ⊎ (result ≡ Err error.Memory)

-- which line a place is in: 1 for the first
abbrev pub line_at : List ℕ → ℕ → ℕ
line_at text at = 1 + count_by (λ b. b == 10) (take at text)
