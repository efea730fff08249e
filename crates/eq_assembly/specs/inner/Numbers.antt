-- Cited by proofs alone; nothing here has to be believed.
-- The numbers of a bit's net and of the nets of names.
use Rattle.std.specs.Prelude.{◌≡◌, ◌<◌, ◌≤◌, ◌+◌, ℕ, List, Option, Some, None, length, map, slice_get}
use Rattle.eq_net.specs.declared.types.NetInfo.{NetInfo}
use Rattle.eq_net.specs.Net.{net_at, offset}
use Rattle.eq_net.specs.Nets.{width_of}
use Rattle.eq_verilog.specs.Trees.{Name}

-- bit b is one of net k
pub record IsNetOf (nets : List NetInfo) (b k : ℕ) : Type 0 where
  pub there : k < length nets
  pub starts : offset nets k ≤ b
  pub ends : b < offset nets k + width_of (net_at nets k)

-- the same of a bit that may not be there
abbrev pub IsNetOfMaybe : List NetInfo → Option ℕ → Option ℕ → Type 0
IsNetOfMaybe nets None None = Unit {0}
IsNetOfMaybe nets (Some b) (Some k) = IsNetOf nets b k
IsNetOfMaybe nets _ _ = ⊥

-- these are the numbers of names among the names of a module
pub record AreNumbers (names : List Name) (ks : List ℕ) (ns : List Name) : Type 0 where
  pub are : map (λ k. slice_get names k) ks ≡ map (λ n. Some n) ns
