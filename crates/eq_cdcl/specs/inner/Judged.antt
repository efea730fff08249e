-- Cited by proofs alone; nothing here has to be believed.
-- What a clause says under a set of true literals.
use Rattle.std.specs.Prelude.{◌⊎◌, List, Contains}
use Rattle.eq_proof.specs.Literal.{Literal}
use Rattle.eq_proof.specs.Sets.{HasNoValue}
use Rattle.eq_cdcl.specs.inner.Slots.{IsProper}

-- a literal of the clause isn't false
abbrev pub IsLive : List Literal → List Literal → Type 0
IsLive set clause = (l : Literal) × Contains clause l × IsProper l × (Contains set l ⊎ HasNoValue set l)
