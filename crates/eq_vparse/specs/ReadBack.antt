-- Texts that are read as a tree.
use Rattle.std.specs.Prelude.{ℕ, List}
use Rattle.eq_vlex.specs.declared.token.Token.{Token}
use Rattle.eq_vlex.specs.Tokens.{HasTokens}
use Rattle.eq_vparse.specs.declared.tree.Source.{Source}
use Rattle.eq_vparse.specs.Grammar.{HasTree, HasTreeWithin}
use Rattle.eq_vparse.specs.Limits.{Limits}
use Rattle.eq_vparse.specs.Reading.{kinds}

-- the tree of some text
pub record IsTree (s : Source) : Type 0 where
  pub text : List ℕ
  pub tokens : List Token
  pub lexed : HasTokens text tokens
  pub tree : HasTree (kinds tokens) s

-- a text whose tokens have this tree within limits
pub record IsTextOf (l : Limits) (s : Source) (text : List ℕ) : Type 0 where
  pub tokens : List Token
  pub lexed : HasTokens text tokens
  pub tree : HasTreeWithin l (kinds tokens) s
