-- Mirrors src/index.rt; nothing here has to be believed.
use Rattle.std.specs.Prelude.{◌≡◌, ◌≢◌, ℕ, ◌+◌, ◌<◌, ◌↔◌, Bool, true, false, None, List, [], length, slice_index_or, Some}
use Rattle.eq_names.specs.Tables.{number_of}
use Rattle.eq_net.specs.declared.types.Dir.TheVariants.{Inner}
use Rattle.eq_net.specs.declared.types.Driver.{Driver}
use Rattle.eq_net.specs.declared.types.Driver.TheVariants.{Undriven}
use Rattle.eq_net.specs.declared.types.NetInfo.{NetInfo}
use Rattle.eq_net.specs.Net.{Parts, name_at}
use Rattle.eq_net.specs.Nets.{width_of}
use Rattle.eq_match.specs.Seen.{IsSeen}

-- of the bits from `first` on, so many have drivers
abbrev pub AreDriven : List Driver → ℕ → ℕ → Type 0
AreDriven drivers first width = (j : ℕ) → j < width → slice_index_or drivers (first + j) Undriven ≢ Undriven

-- a net whose bits begin at `first` is seen
pub record IsSeenAt (net : NetInfo) (drivers : List Driver) (first : ℕ) : Type 0 where
  pub inside : net.dir ≡ Inner
  pub driven : AreDriven drivers first (width_of net)

-- of a netlist what says which nets are seen
abbrev pub part_of : List NetInfo → List Driver → Parts
part_of nets drivers = record { nets = nets; words = []; drivers = drivers; ports = []; clock = None; cost = 0 }

-- the first n nets are told
pub record TellsTo (n : ℕ) (net : Parts) (seen : List Bool) : Type 0 where
  pub size : length seen ≡ n
  pub tells : (k : ℕ) → k < n → (slice_index_or seen k false ≡ true) ↔ IsSeen net k

-- names have their nets' numbers, and the nets that are seen are told
pub record IsIndex (n : Parts) (names : List (List ℕ)) (seen : List Bool) : Type 0 where
  pub found : (k : ℕ) → k < length n.nets → number_of names (name_at n.nets k) ≡ Some k
  pub there : (text : List ℕ) (k : ℕ) → number_of names text ≡ Some k → k < length n.nets
  pub named : (text : List ℕ) (k : ℕ) → number_of names text ≡ Some k → name_at n.nets k ≡ text
  pub tells : TellsTo (length n.nets) n seen
