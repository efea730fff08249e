-- Cited by proofs alone; nothing here has to be believed.
-- What propagation finds.
use Rattle.std.specs.Prelude.{ℕ, List, All}
use Rattle.eq_proof.specs.Literal.{Literal}
use Rattle.eq_proof.specs.Sets.{IsFalsified}
use Rattle.eq_proof.specs.Derivation.{HasNumber}
use Rattle.eq_proof.specs.Fresh.{IsSettled}
use Rattle.eq_cdcl.specs.inner.Judged.{IsLive}
use Rattle.eq_cdcl.specs.declared.propagation.Propagated.{Propagated}
use Rattle.eq_cdcl.specs.declared.propagation.Propagated.TheVariants.{Conflict, Settled}

-- the clause with this number is falsified
abbrev pub IsConflict : List (List Literal) → List Literal → ℕ → Type 0
IsConflict known set number = (clause : List Literal) × HasNumber known number clause × IsFalsified set clause

-- no clause is falsified, none is unit, and each has a literal that isn't false
pub record IsQuiet (known : List (List Literal)) (set : List Literal) : Type 0 where
  pub settled : IsSettled known set
  pub live : All (IsLive set) known

abbrev pub Finds : List (List Literal) → List Literal → Propagated → Type 0
Finds known set (Conflict number) = IsConflict known set number
Finds known set Settled = IsQuiet known set
