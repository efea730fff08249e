-- Cited by proofs alone; nothing here has to be believed.
-- Bits that are put behind others, each if it isn't there.
use Rattle.std.specs.Prelude.{◌≡◌, ◌<◌, ◌^◌, ◌==◌, ◌⊎◌, ℕ, Bool, List, Option, All, true, is_some, length}
use Rattle.eq_names.specs.declared.BitName.{BitName}
use Rattle.eq_net.specs.declared.types.NetInfo.{NetInfo}
use Rattle.eq_verilog.specs.Trees.{Name, StmtTree}
use Rattle.eq_verilog.specs.Equations.{place_below}
use Rattle.eq_verilog.specs.Registers.{sets}
use Rattle.eq_analysis.specs.Finding.{scope_of}
use Rattle.eq_flatten.specs.Driving.{number_in}
use Rattle.eq_registers.specs.declared.keys.Keys.{Keys}
use Rattle.eq_registers.specs.Collecting.{IsKeyed}
use Rattle.eq_registers.specs.Running.{IsKey, IsStmtReady}

-- the number of each bit is there
abbrev pub AreInRow : List ℕ → List BitName → Type 0
AreInRow starts bits = All (λ (b : BitName). (b.net < length starts) × (number_in starts b < 2 ^ 32)) bits

abbrev pub just : ℕ → ℕ → Bool
just c b = c == b

-- the bit stands at one of the first n positions
abbrev pub stands : (ℕ → Option ℕ) → ℕ → ℕ → Bool
stands f n b = is_some (place_below n f b)

-- the bits of which f is true were added
pub record IsAdded (nets : List NetInfo) (old new : Keys) (f : ℕ → Bool) : Type 0 where
  pub keyed : IsKeyed nets new
  pub kept : (b : ℕ) → IsKey old.bits b → IsKey new.bits b
  pub added : (b : ℕ) → f b ≡ true → IsKey new.bits b
  pub only : (b : ℕ) → IsKey new.bits b → (f b ≡ true) ⊎ IsKey old.bits b

-- of statements in a row some were looked at
pub record IsAmong (nets : List NetInfo) (names : List Name) (from : ℕ) (all rest : StmtTree) (old now : Keys) : Type 0
  where
    pub ready : IsStmtReady nets names from rest
    pub keyed : IsKeyed nets now
    pub goes : (new : Keys) → IsAdded nets now new (sets (scope_of nets names from) rest) →
        IsAdded nets old new (sets (scope_of nets names from) all)
