-- Cited by proofs alone; nothing here has to be believed.
-- What a trail stands for.
use Rattle.std.specs.Prelude.{ℕ, List, [], ◌∷◌, ◌++◌, take}
use Rattle.eq_proof.specs.Literal.{Literal}
use Rattle.eq_cdcl.specs.declared.trail.Reason.{Reason}

-- the true literals in the order in which they became so, of variables below a size, each with its reason
pub record Assignment : Type 0 where
  pub size : ℕ
  pub lits : List Literal
  pub reasons : List Reason

-- one literal more
abbrev pub extended : Assignment → Literal → Reason → Assignment
extended a l reason = record { size = a.size; lits = a.lits ++ l ∷ []; reasons = a.reasons ++ reason ∷ [] }

-- the first literals alone
abbrev pub cut_to : ℕ → Assignment → Assignment
cut_to len a = record { size = a.size; lits = take len a.lits; reasons = take len a.reasons }
