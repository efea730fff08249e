-- The first form of a design.
use Rattle.std.specs.Prelude.{◌≡◌, ◌≢◌, ℕ, ◌≤◌, ◌<◌, ◌^◌, List, [], ◌∷◌, ◌++◌, length, codes, All, AllPairs, Contains, count_by}
use Rattle.eq_first.specs.declared.module.Direction.{Direction}
use Rattle.eq_first.specs.declared.module.Direction.TheVariants.{Input, Output}
use Rattle.eq_first.specs.declared.module.Port.{Port}
use Rattle.eq_first.specs.declared.module.Module.{Module}
use Rattle.eq_first.specs.declared.token.Mark.TheVariants.{Open, Close, Comma, Semicolon, Equals}
use Rattle.eq_first.specs.Configuration.{IsShort}
use Rattle.eq_first.specs.Tokens.{Token, word, mark, HasTokens}
use Rattle.eq_first.specs.Phrases.{Phrase, tokens_of, IsGrouped, is_counted, IsPortAt, Denotes}
use Rattle.eq_first.specs.Well.{Goes}

-- the keywords of the grammar, and the words that are reserved
abbrev pub reserved : List (List ℕ)
reserved =
    codes "module" ∷ codes "endmodule" ∷ codes "input" ∷ codes "output" ∷ codes "wire" ∷ codes "reg" ∷ codes "assign" ∷ codes "always" ∷ codes "initial" ∷ codes "posedge"
    ∷ codes "begin" ∷ codes "end" ∷ codes "if" ∷ codes "else" ∷ codes "and" ∷ codes "nand" ∷ codes "or" ∷ codes "nor" ∷ codes "xor" ∷ codes "xnor" ∷ codes "buf" ∷ codes "not"
    ∷ codes "inout" ∷ codes "tri" ∷ codes "supply0" ∷ codes "supply1" ∷ codes "parameter" ∷ codes "localparam" ∷ codes "defparam" ∷ codes "function" ∷ codes "endfunction" ∷ codes "task" ∷ codes "endtask"
    ∷ codes "generate" ∷ codes "endgenerate" ∷ codes "genvar" ∷ codes "case" ∷ codes "casez" ∷ codes "casex" ∷ codes "endcase" ∷ codes "default" ∷ codes "for" ∷ codes "while" ∷ codes "repeat" ∷ codes "forever"
    ∷ codes "integer" ∷ codes "real" ∷ codes "time" ∷ codes "signed" ∷ codes "negedge" ∷ codes "specify" ∷ codes "endspecify" ∷ codes "primitive" ∷ codes "endprimitive" ∷ []

-- a word that is a name: one of at most 1,024 bytes that is no keyword and not reserved
pub record IsPlain (w : List ℕ) : Type 0 where
  pub short : IsShort w
  pub free : ¬ Contains reserved w

abbrev pub keyword_of : Direction → List ℕ
keyword_of Input = codes "input"
keyword_of Output = codes "output"

-- the ports of a header, with commas between them
abbrev pub header_tokens : List Port → List Token
header_tokens [] = []
header_tokens (p ∷ []) = word (keyword_of p.direction) ∷ word p.name ∷ []
header_tokens (p ∷ q ∷ ps) = word (keyword_of p.direction) ∷ word p.name ∷ mark Comma ∷ header_tokens (q ∷ ps)

-- module TOP ( PORTS ) ; assign TARGET = PHRASE ; endmodule
abbrev pub module_tokens : List ℕ → List Port → List ℕ → Phrase → List Token
module_tokens top ports target phrase =
    word (codes "module") ∷ word top ∷ mark Open ∷ (header_tokens ports
    ++ mark Close ∷ mark Semicolon ∷ word (codes "assign") ∷ word target ∷ mark Equals ∷ (tokens_of phrase
    ++ mark Semicolon ∷ word (codes "endmodule") ∷ []))

-- the tokens are those of this module, which is called `top`
pub record IsSentence (tokens : List Token) (top : List ℕ) (m : Module) : Type 0 where
  pub target : List ℕ
  pub phrase : Phrase
  pub spelling : tokens ≡ module_tokens top m.ports target phrase
  pub called : IsPlain top
  pub names : All (λ p. IsPlain p.name) m.ports
  pub distinct : AllPairs (λ p q. p.name ≢ q.name) m.ports
  -- a place in the header is a number of 32 bits
  pub few : length m.ports < 2 ^ 32
  pub output : IsPortAt m.ports Output target m.output
  pub inputs : (n : ℕ) → n < length m.ports → n ≢ m.output → Goes m.ports Input n
  pub grouping : IsGrouped phrase
  pub marks : count_by is_counted (tokens_of phrase) ≤ 1000
  pub meaning : Denotes m.ports phrase m.expr

-- the text is the design of the first form of this module, which is called `top`
pub record IsModule (text top : List ℕ) (m : Module) : Type 0 where
  pub tokens : List Token
  pub lexed : HasTokens text tokens
  pub sentence : IsSentence tokens top m
