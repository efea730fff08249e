-- Trees that were read of texts.
use Rattle.std.specs.Prelude.{ℕ, List}
use Rattle.eq_vlex.specs.declared.token.Token.{Token}
use Rattle.eq_vlex.specs.Tokens.{HasTokens}
use Rattle.eq_vparse.specs.declared.tree.Source.{Source}
use Rattle.eq_vparse.specs.Grammar.{HasTreeWithin}
use Rattle.eq_vparse.specs.Limits.{Limits}
use Rattle.eq_vparse.specs.Reading.{kinds}

-- some text's tokens have this tree within some limits
abbrev pub IsFromText : Source → Type 0
IsFromText s =
    (text : List ℕ) × (tokens : List Token) × (l : Limits) × HasTokens text tokens × HasTreeWithin l (kinds tokens) s
