-- The bits that a statement sets, with their places and their names.
use Rattle.std.specs.Prelude.{◌≡◌, ℕ, List, Some, true, length, slice_get}
use Rattle.eq_names.specs.declared.BitName.{BitName}
use Rattle.eq_net.specs.declared.types.NetInfo.{NetInfo}
use Rattle.eq_net.specs.Net.{HasBit, number_of}
use Rattle.eq_verilog.specs.Trees.{StmtTree}
use Rattle.eq_verilog.specs.Scopes.{Scope}
use Rattle.eq_verilog.specs.Registers.{sets}
use Rattle.eq_registers.specs.declared.keys.Keys.{Keys}
use Rattle.eq_registers.specs.Running.{AllKeys, HasKeys, IsKey}

-- each bit has one place, and the name there is its name
pub record IsKeyed (nets : List NetInfo) (keys : Keys) : Type 0 where
  pub has : HasKeys keys.bits keys.places
  pub size : length keys.names ≡ length keys.bits
  pub named : (p : ℕ) (n : BitName) → slice_get keys.names p ≡ Some n →
      HasBit nets n × (slice_get keys.bits p ≡ Some (number_of nets n))

-- they are exactly the bits that a statement sets
pub record IsCollected (nets : List NetInfo) (s : Scope) (body : StmtTree) (keys : Keys) : Type 0 where
  pub keyed : IsKeyed nets keys
  pub all : AllKeys keys.bits s body
  pub only : (b : ℕ) → IsKey keys.bits b → sets s body b ≡ true
