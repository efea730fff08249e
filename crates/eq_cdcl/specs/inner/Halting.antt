-- Cited by proofs alone; nothing here has to be believed.
-- Where propagation and decisions end.
use Rattle.std.specs.Prelude.{◌≡◌, ℕ, ◌<◌, ◌≤◌, Bool, List, All, Contains}
use Rattle.eq_proof.specs.Literal.{Literal}
use Rattle.eq_proof.specs.Sets.{HasNoValue}
use Rattle.eq_cdcl.specs.Halting.{value_in}
use Rattle.eq_cdcl.specs.inner.Slots.{IsProper}
use Rattle.eq_cdcl.specs.inner.Judged.{IsLive}
use Rattle.eq_cdcl.specs.inner.Found.{IsConflict}
use Rattle.eq_cdcl.specs.declared.search.Halt.{Halt}
use Rattle.eq_cdcl.specs.declared.search.Halt.TheVariants.{Conflict, Satisfied}

-- each variable up to `vars` has a value
abbrev pub AllHaveValues : ℕ → List Literal → Type 0
AllHaveValues vars set = (l : Literal) → IsProper l → l.var ≤ vars → ¬ HasNoValue set l

-- the values make the literals true
abbrev pub GivesValues : ℕ → List Literal → List Bool → Type 0
GivesValues vars set bits = (l : Literal) → Contains set l → 0 < l.var → l.var ≤ vars → value_in bits l.var ≡ l.positive

-- a falsified clause, or values for all variables with a true literal or an open one in each clause
abbrev pub Halts : List (List Literal) → ℕ → List Literal → Halt → Type 0
Halts known vars set (Conflict number) = IsConflict known set number
Halts known vars set Satisfied = All (IsLive set) known × AllHaveValues vars set
