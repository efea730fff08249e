-- A text as pieces: separators and tokens, each of them determined by what stands there.
use Rattle.std.specs.Prelude.{◌≡◌, ℕ, ◌+◌, ◌<◌, List, [], ◌∷◌, length, drop, Option, Some, None, ⊤}
use Rattle.std.specs.List.{prefix_len}
use Rattle.eq_vlex.specs.declared.bytes.Class.TheVariants as class
use Rattle.eq_vlex.specs.declared.bytes.Start.{Start}
use Rattle.eq_vlex.specs.declared.bytes.Start.TheVariants as start
use Rattle.eq_vlex.specs.declared.fault.LexKind.{LexKind}
use Rattle.eq_vlex.specs.declared.fault.LexKind.TheVariants.{BadByte, OpenComment, OpenAttribute}
use Rattle.eq_vlex.specs.declared.fault.Stop.{Stop}
use Rattle.eq_vlex.specs.declared.fault.Stop.TheVariants as stop
use Rattle.eq_vlex.specs.declared.mark.Mark.{Mark}
use Rattle.eq_vlex.specs.declared.piece.Piece.{Piece}
use Rattle.eq_vlex.specs.declared.token.TokenKind.{TokenKind}
use Rattle.eq_vlex.specs.declared.token.TokenKind.TheVariants as token
use Rattle.eq_vlex.specs.Bytes.{is_in, begins}
use Rattle.eq_vlex.specs.Separators.{ClosesComment, ClosesAttribute, IsFirst}
use Rattle.eq_vlex.specs.Words.{key_of, word_or_key, simple_name, escaped_name, IsEscapedName}
use Rattle.eq_vlex.specs.Marks.{mark_at}
use Rattle.eq_vlex.specs.Numbers.{IsNumber, IsBadNumber}

-- The first len bytes of a text that begins so are a separator: all white space that stands there; a comment up to
-- the end of its line; a comment up to its first `*/`; an attribute up to its first `*)` outside of strings.
abbrev pub IsSeparator : Start → List ℕ → ℕ → Type 0
IsSeparator start.White text len = len ≡ prefix_len (is_in class.White) text
IsSeparator start.LineComment text len = len ≡ prefix_len (is_in class.Line) text
IsSeparator start.BlockComment text len = (k : ℕ) × IsFirst (ClosesComment (drop 2 text)) k × (len ≡ k + 4)
IsSeparator start.Attribute text len = (k : ℕ) × IsFirst (ClosesAttribute (drop 2 text)) k × (len ≡ k + 4)
IsSeparator _ text len = ⊥

-- the first len bytes of a text that begins so are this token
abbrev pub IsLexeme : Start → List ℕ → ℕ → TokenKind → Type 0
IsLexeme start.SimpleName text len kind = (len ≡ length (simple_name text)) × (kind ≡ word_or_key (key_of (simple_name text)) (simple_name text))
IsLexeme start.EscapedName text len kind = IsEscapedName text × (len ≡ length (escaped_name text) + 1) × (kind ≡ token.Word (escaped_name text))
IsLexeme start.Number text len kind = IsNumber text len kind
IsLexeme start.Other text len kind = (m : Mark) × (mark_at text ≡ Some (m, len)) × (kind ≡ token.Mark m)
IsLexeme _ text len kind = ⊥

-- what is wrong with a text that begins so
abbrev pub IsFault : Start → List ℕ → LexKind → Type 0
IsFault start.BlockComment text fault = (fault ≡ OpenComment) × ((k : ℕ) → ¬ ClosesComment (drop 2 text) k)
IsFault start.Attribute text fault = (fault ≡ OpenAttribute) × ((k : ℕ) → ¬ ClosesAttribute (drop 2 text) k)
IsFault start.EscapedName text fault = (fault ≡ BadByte) × ¬ IsEscapedName text
IsFault start.Number text fault = IsBadNumber text fault
IsFault start.Other text fault = (fault ≡ BadByte) × (mark_at text ≡ None)
IsFault _ text fault = ⊥

-- the text begins with this piece: a separator where it has no kind, or a token
abbrev pub IsKind : Start → List ℕ → ℕ → Option TokenKind → Type 0
IsKind begin text len None = IsSeparator begin text len
IsKind begin text len (Some kind) = IsLexeme begin text len kind

abbrev pub IsPiece : List ℕ → Piece → Type 0
IsPiece text piece = IsKind (begins text) text piece.len piece.kind

-- the text is not empty, and begins with this fault
abbrev pub BeginsFault : List ℕ → LexKind → Type 0
BeginsFault text fault = (0 < length text) × IsFault (begins text) text fault

-- the text is these pieces, one after the other, and then the rest
abbrev pub IsFront : List Piece → List ℕ → List ℕ → Type 0
IsFront [] text rest = text ≡ rest
IsFront (piece ∷ pieces) text rest = IsPiece text piece × IsFront pieces (drop piece.len text) rest

-- what stopped the reading of a piece; want of memory says nothing
abbrev pub Stops : (LexKind → Type 0) → Stop → Type 0
Stops P (stop.Fault fault) = P fault
Stops P stop.Memory = ⊤
