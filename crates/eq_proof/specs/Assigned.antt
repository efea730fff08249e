-- What a trail stands for.
use Rattle.std.specs.Prelude.{ℕ, ◌<◌, List, All}
use Rattle.eq_proof.specs.Literal.{Literal}

-- the literals that are true, in the order in which they became so, of variables below a size
pub record Assigned : Type 0 where
  pub size : ℕ
  pub lits : List Literal

-- all literals are of variables below a size
abbrev pub AllBelow : ℕ → List Literal → Type 0
AllBelow size lits = All (λ l. l.var < size) lits
