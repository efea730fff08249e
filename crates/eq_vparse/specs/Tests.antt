-- Tests of the next token. Marks and keys are compared by their place in the lists of them.
use Rattle.std.specs.Prelude.{ℕ, Bool, true, false, ◌==◌, List, [], ◌∷◌}
use Rattle.eq_vlex.specs.declared.key.Key.{Key}
use Rattle.eq_vlex.specs.declared.key.Key.TheVariants as key
use Rattle.eq_vlex.specs.declared.mark.Mark.{Mark}
use Rattle.eq_vlex.specs.declared.mark.Mark.TheVariants as mark
use Rattle.eq_vlex.specs.declared.token.TokenKind.{TokenKind}
use Rattle.eq_vlex.specs.declared.token.TokenKind.TheVariants as token

abbrev pub mark_number : Mark → ℕ
mark_number mark.CaseEqual = 0
mark_number mark.CaseNotEqual = 1
mark_number mark.Equal = 2
mark_number mark.NotEqual = 3
mark_number mark.LessEqual = 4
mark_number mark.GreaterEqual = 5
mark_number mark.ShiftLeft = 6
mark_number mark.ShiftRight = 7
mark_number mark.LogicalAnd = 8
mark_number mark.LogicalOr = 9
mark_number mark.TildeAnd = 10
mark_number mark.TildeOr = 11
mark_number mark.TildeXor = 12
mark_number mark.XorTilde = 13
mark_number mark.LeftParen = 14
mark_number mark.RightParen = 15
mark_number mark.LeftBracket = 16
mark_number mark.RightBracket = 17
mark_number mark.LeftBrace = 18
mark_number mark.RightBrace = 19
mark_number mark.Semicolon = 20
mark_number mark.Comma = 21
mark_number mark.Dot = 22
mark_number mark.Colon = 23
mark_number mark.At = 24
mark_number mark.Assign = 25
mark_number mark.Question = 26
mark_number mark.Tilde = 27
mark_number mark.Exclamation = 28
mark_number mark.And = 29
mark_number mark.Or = 30
mark_number mark.Xor = 31
mark_number mark.Plus = 32
mark_number mark.Minus = 33
mark_number mark.Less = 34
mark_number mark.Greater = 35

abbrev pub key_number : Key → ℕ
key_number key.Module = 0
key_number key.Endmodule = 1
key_number key.Input = 2
key_number key.Output = 3
key_number key.Wire = 4
key_number key.Reg = 5
key_number key.Assign = 6
key_number key.Always = 7
key_number key.Initial = 8
key_number key.Posedge = 9
key_number key.Begin = 10
key_number key.End = 11
key_number key.If = 12
key_number key.Else = 13
key_number key.And = 14
key_number key.Nand = 15
key_number key.Or = 16
key_number key.Nor = 17
key_number key.Xor = 18
key_number key.Xnor = 19
key_number key.Buf = 20
key_number key.Not = 21
key_number key.Reserved = 22

-- the next token is this mark
unfoldable pub is_mark : Mark → List TokenKind → Bool
is_mark m (token.Mark n ∷ ts) = mark_number n == mark_number m
is_mark m ts = false

-- the next token is this key
unfoldable pub is_key : Key → List TokenKind → Bool
is_key k (token.Key j ∷ ts) = key_number j == key_number k
is_key k ts = false

-- the next token is a name
unfoldable pub is_word : List TokenKind → Bool
is_word (token.Word n ∷ ts) = true
is_word ts = false

-- no token is left
abbrev pub is_end : List TokenKind → Bool
is_end [] = true
is_end (t ∷ ts) = false
