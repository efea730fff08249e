-- Names and keywords (IEEE 1364-2005, 3.7 and annex B).
use Rattle.std.specs.Prelude.{◌≡◌, ℕ, ◌+◌, ◌<◌, true, if◌then◌else◌, List, [], ◌∷◌, ◌++◌, length, map, drop, slice_index, Option, Some, None, codes}
use Rattle.std.specs.List.{take_while}
use Rattle.std.specs.Str.{bytes_eq}
use Rattle.eq_vlex.specs.declared.bytes.Class.TheVariants as class
use Rattle.eq_vlex.specs.declared.key.Key.{Key}
use Rattle.eq_vlex.specs.declared.key.Key.TheVariants as key
use Rattle.eq_vlex.specs.declared.token.TokenKind.{TokenKind}
use Rattle.eq_vlex.specs.declared.token.TokenKind.TheVariants as token
use Rattle.eq_vlex.specs.Bytes.{is_in}

-- what stands beside a word in a table
abbrev pub looked_up : {A : Type 0} → List (List ℕ × A) → List ℕ → Option A
looked_up [] word = None
looked_up (row ∷ rows) word = if bytes_eq row.0 word then Some row.1 else looked_up rows word

-- the keywords that sentences of the profile have
abbrev pub grammar_words : List (List ℕ × Key)
grammar_words =
    (codes "module", key.Module) ∷ (codes "endmodule", key.Endmodule) ∷ (codes "input", key.Input) ∷ (codes "output", key.Output)
    ∷ (codes "wire", key.Wire) ∷ (codes "reg", key.Reg) ∷ (codes "assign", key.Assign) ∷ (codes "always", key.Always)
    ∷ (codes "initial", key.Initial) ∷ (codes "posedge", key.Posedge) ∷ (codes "begin", key.Begin) ∷ (codes "end", key.End)
    ∷ (codes "if", key.If) ∷ (codes "else", key.Else) ∷ (codes "and", key.And) ∷ (codes "nand", key.Nand)
    ∷ (codes "or", key.Or) ∷ (codes "nor", key.Nor) ∷ (codes "xor", key.Xor) ∷ (codes "xnor", key.Xnor)
    ∷ (codes "buf", key.Buf) ∷ (codes "not", key.Not) ∷ []

-- the keywords that no sentence of the profile has
abbrev pub reserved_words : List (List ℕ)
reserved_words =
    codes "inout" ∷ codes "tri" ∷ codes "supply0" ∷ codes "supply1" ∷ codes "parameter" ∷ codes "localparam" ∷ codes "defparam"
    ∷ codes "function" ∷ codes "endfunction" ∷ codes "task" ∷ codes "endtask" ∷ codes "generate" ∷ codes "endgenerate" ∷ codes "genvar"
    ∷ codes "case" ∷ codes "casez" ∷ codes "casex" ∷ codes "endcase" ∷ codes "default" ∷ codes "for" ∷ codes "while" ∷ codes "repeat"
    ∷ codes "forever" ∷ codes "integer" ∷ codes "real" ∷ codes "time" ∷ codes "signed" ∷ codes "negedge" ∷ codes "specify"
    ∷ codes "endspecify" ∷ codes "primitive" ∷ codes "endprimitive" ∷ []

-- each keyword, and its key
abbrev pub keywords : List (List ℕ × Key)
keywords = grammar_words ++ map (λ word. (word, key.Reserved)) reserved_words

-- the key of a word, if it is a keyword
unfoldable pub key_of : List ℕ → Option Key
key_of word = looked_up keywords word

-- the token that a simple name is
abbrev pub word_or_key : Option Key → List ℕ → TokenKind
word_or_key None word = token.Word word
word_or_key (Some k) word = token.Key k

-- the simple name at the front: the longest run of its bytes
abbrev pub simple_name : List ℕ → List ℕ
simple_name text = take_while (is_in class.Simple) text

-- the bytes of the escaped name at the front, without its `\`
abbrev pub escaped_name : List ℕ → List ℕ
escaped_name text = take_while (is_in class.Visible) (drop 1 text)

-- a `\` has a byte after it, and its bytes go up to white space or the end
pub record IsEscapedName (text : List ℕ) : Type 0 where
  pub some : 0 < length (escaped_name text)
  pub ends : length (escaped_name text) + 1 < length text → is_in class.White (slice_index text (length (escaped_name text) + 1)) ≡ true
