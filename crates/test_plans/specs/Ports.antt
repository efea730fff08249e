-- Whether two netlists have the same ports, as a test asks.
use Rattle.std.specs.Prelude.{◌≡◌, ◌≢◌, ℕ, ◌<◌, List, length}
use Rattle.eq_net.specs.declared.types.NetInfo.{NetInfo}
use Rattle.eq_net.specs.declared.types.Dir.TheVariants.{Inner}
use Rattle.eq_net.specs.Nets.{width_of}
use Rattle.eq_net.specs.Net.{net_at}

pub record IsSamePort (n m : NetInfo) : Type 0 where
  pub names : m.name ≡ n.name
  pub dirs : m.dir ≡ n.dir
  pub widths : width_of n ≡ width_of m

-- a net is no port, or the others have the port
abbrev pub IsFound : List NetInfo → NetInfo → Type 0
IsFound others n = n.dir ≢ Inner → (h : ℕ) × (h < length others) × IsSamePort n (net_at others h)

abbrev pub AreFound : List NetInfo → List NetInfo → ℕ → Type 0
AreFound others nets n = (k : ℕ) → k < n → IsFound others (net_at nets k)
