-- How tokens are written as a text.
use Rattle.std.specs.Prelude.{◌≡◌, ◌≢◌, true, false, ℕ, ◌^◌, ◌<◌, ◌≤◌, Bool, not, ◌&&◌, ◌||◌, if◌then◌else◌, ◌==◌, List, [], ◌∷◌, ◌++◌, slice_index, ⊤, codes}
use Rattle.std.specs.Char.{is_ascii_alphabetic}
use Rattle.std.specs.Fmt.{decimal, digits}
use Rattle.std.specs.List.{list_all, list_any}
use Rattle.std.specs.Option.{is_none}
use Rattle.eq_names.specs.Name.{IsName}
use Rattle.eq_vlex.specs.declared.bytes.Class.TheVariants as class
use Rattle.eq_vlex.specs.declared.key.Key.{Key}
use Rattle.eq_vlex.specs.declared.key.Key.TheVariants as key
use Rattle.eq_vlex.specs.declared.mark.Mark.{Mark}
use Rattle.eq_vlex.specs.declared.mark.Mark.TheVariants as mark
use Rattle.eq_vlex.specs.declared.token.Constant.{Constant}
use Rattle.eq_vlex.specs.declared.token.TokenKind.{TokenKind}
use Rattle.eq_vlex.specs.declared.token.TokenKind.TheVariants as kind
use Rattle.eq_vlex.specs.Bytes.{is_in}
use Rattle.eq_vlex.specs.Words.{key_of}

-- what is written: a token, or white space
pub data Written : Type 0 where
  token : TokenKind → Written
  space : Written
  line : Written

-- ---- the bytes of a token

-- a letter or `_` stands first
abbrev pub begins_simple : List ℕ → Bool
begins_simple name = is_ascii_alphabetic (slice_index name 0) || slice_index name 0 == 95

-- a letter or `_`, then letters, digits, `_` and `$`, and no keyword
unfoldable pub is_simple : List ℕ → Bool
is_simple name = begins_simple name && list_all (is_in class.Simple) name && is_none (key_of name)

-- a name that isn't simple, or is a keyword, stands between `\` and a space
abbrev pub name_bytes : List ℕ → List ℕ
name_bytes name = if is_simple name then name else 92 ∷ name ++ 32 ∷ []

-- the word of a key; that of no sentence has none
abbrev pub key_bytes : Key → List ℕ
key_bytes key.Module = codes "module"
key_bytes key.Endmodule = codes "endmodule"
key_bytes key.Input = codes "input"
key_bytes key.Output = codes "output"
key_bytes key.Wire = codes "wire"
key_bytes key.Reg = codes "reg"
key_bytes key.Assign = codes "assign"
key_bytes key.Always = codes "always"
key_bytes key.Initial = codes "initial"
key_bytes key.Posedge = codes "posedge"
key_bytes key.Begin = codes "begin"
key_bytes key.End = codes "end"
key_bytes key.If = codes "if"
key_bytes key.Else = codes "else"
key_bytes key.And = codes "and"
key_bytes key.Nand = codes "nand"
key_bytes key.Or = codes "or"
key_bytes key.Nor = codes "nor"
key_bytes key.Xor = codes "xor"
key_bytes key.Xnor = codes "xnor"
key_bytes key.Buf = codes "buf"
key_bytes key.Not = codes "not"
key_bytes key.Reserved = []

abbrev pub mark_bytes : Mark → List ℕ
mark_bytes mark.CaseEqual = codes "==="
mark_bytes mark.CaseNotEqual = codes "!=="
mark_bytes mark.Equal = codes "=="
mark_bytes mark.NotEqual = codes "!="
mark_bytes mark.LessEqual = codes "<="
mark_bytes mark.GreaterEqual = codes ">="
mark_bytes mark.ShiftLeft = codes "<<"
mark_bytes mark.ShiftRight = codes ">>"
mark_bytes mark.LogicalAnd = codes "&&"
mark_bytes mark.LogicalOr = codes "||"
mark_bytes mark.TildeAnd = codes "~&"
mark_bytes mark.TildeOr = codes "~|"
mark_bytes mark.TildeXor = codes "~^"
mark_bytes mark.XorTilde = codes "^~"
mark_bytes mark.LeftParen = codes "("
mark_bytes mark.RightParen = codes ")"
mark_bytes mark.LeftBracket = codes "["
mark_bytes mark.RightBracket = codes "]"
mark_bytes mark.LeftBrace = codes "{"
mark_bytes mark.RightBrace = codes "}"
mark_bytes mark.Semicolon = codes ";"
mark_bytes mark.Comma = codes ","
mark_bytes mark.Dot = codes "."
mark_bytes mark.Colon = codes ":"
mark_bytes mark.At = codes "@"
mark_bytes mark.Assign = codes "="
mark_bytes mark.Question = codes "?"
mark_bytes mark.Tilde = codes "~"
mark_bytes mark.Exclamation = codes "!"
mark_bytes mark.And = codes "&"
mark_bytes mark.Or = codes "|"
mark_bytes mark.Xor = codes "^"
mark_bytes mark.Plus = codes "+"
mark_bytes mark.Minus = codes "-"
mark_bytes mark.Less = codes "<"
mark_bytes mark.Greater = codes ">"

-- size, `'h` and lower case hexadecimal digits without leading zeros
abbrev pub constant_bytes : Constant → List ℕ
constant_bytes c = decimal c.size ++ codes "'h" ++ digits 16 false c.value

abbrev pub spelled : TokenKind → List ℕ
spelled (kind.Word name) = name_bytes name
spelled (kind.Key k) = key_bytes k
spelled (kind.Decimal n) = decimal n
spelled (kind.Sized c) = constant_bytes c
spelled (kind.Mark m) = mark_bytes m

-- ---- texts

abbrev pub bytes_of : List Written → List ℕ
bytes_of [] = []
bytes_of (token t ∷ ws) = spelled t ++ bytes_of ws
bytes_of (space ∷ ws) = 32 ∷ bytes_of ws
bytes_of (line ∷ ws) = 10 ∷ bytes_of ws

abbrev pub tokens_of : List Written → List TokenKind
tokens_of [] = []
tokens_of (token t ∷ ws) = t ∷ tokens_of ws
tokens_of (space ∷ ws) = tokens_of ws
tokens_of (line ∷ ws) = tokens_of ws

-- ---- what can be read again

-- the bytes that directly after a mark would make a longer one of it, or begin an attribute
abbrev pub lengthening : Mark → List ℕ
lengthening mark.Assign = codes "="
lengthening mark.Exclamation = codes "="
lengthening mark.Less = codes "=<"
lengthening mark.Greater = codes "=>"
lengthening mark.And = codes "&"
lengthening mark.Or = codes "|"
lengthening mark.Tilde = codes "&|^"
lengthening mark.Xor = codes "~"
lengthening mark.Equal = codes "="
lengthening mark.NotEqual = codes "="
lengthening mark.LeftParen = codes "*"
lengthening _ = []

-- A byte may stand directly after a token where it would not be read as part of it. A name with `\` ends with a space
-- of its own.
abbrev pub may_touch : TokenKind → ℕ → Bool
may_touch (kind.Word name) b = not (is_simple name && is_in class.Simple b)
may_touch (kind.Key k) b = not (is_in class.Simple b)
may_touch (kind.Decimal n) b = not (is_in class.Word b || b == 39)
may_touch (kind.Sized c) b = not (is_in class.Value b)
may_touch (kind.Mark m) b = not (list_any (λ x. b == x) (lengthening m))

pub record IsConstant (c : Constant) : Type 0 where
  pub some_bit : 1 ≤ c.size
  pub narrow : c.size ≤ 128
  pub fits : c.value < 2 ^ c.size

-- a token that can be written
abbrev pub IsPrintable : TokenKind → Type 0
IsPrintable (kind.Word name) = IsName name
IsPrintable (kind.Key k) = k ≢ key.Reserved
IsPrintable (kind.Decimal n) = n < 2 ^ 31
IsPrintable (kind.Sized c) = IsConstant c
IsPrintable (kind.Mark m) = ⊤

-- each token can be written, and what stands behind it may stand there
abbrev pub IsLegible : List Written → Type 0
IsLegible [] = ⊤
IsLegible (token t ∷ ws) = IsPrintable t × (may_touch t (slice_index (bytes_of ws) 0) ≡ true) × IsLegible ws
IsLegible (space ∷ ws) = IsLegible ws
IsLegible (line ∷ ws) = IsLegible ws

-- ---- tokens with spaces between words

-- names, keywords and numbers
abbrev pub is_word : TokenKind → Bool
is_word (kind.Mark m) = false
is_word _ = true

-- a word whose last byte isn't a space
abbrev pub is_open : TokenKind → Bool
is_open (kind.Word name) = is_simple name
is_open t = is_word t

abbrev pub begins_word : List Written → Bool
begins_word (token t ∷ ws) = is_word t
begins_word _ = false

-- a space between two words, where the first has none of its own
abbrev pub spaced : List Written → List Written
spaced [] = []
spaced (token t ∷ ws) = token t ∷ (if is_open t && begins_word ws then space ∷ spaced ws else spaced ws)
spaced (space ∷ ws) = space ∷ spaced ws
spaced (line ∷ ws) = line ∷ spaced ws

-- whether a token may directly follow another, as written by `spaced`
abbrev pub may_follow : TokenKind → TokenKind → Bool
may_follow (kind.Mark m) (kind.Mark n) = not (list_any (λ x. slice_index (mark_bytes n) 0 == x) (lengthening m))
may_follow (kind.Sized c) (kind.Mark mark.Question) = false
may_follow _ _ = true

abbrev pub follows : TokenKind → List TokenKind → Bool
follows t [] = true
follows t (u ∷ us) = may_follow t u

-- each token may follow the one before it
abbrev pub all_follow : List TokenKind → Bool
all_follow [] = true
all_follow (t ∷ ts) = follows t ts && all_follow ts
