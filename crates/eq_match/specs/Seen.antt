-- What matching sees of a netlist.
use Rattle.std.specs.Prelude.{◌≡◌, ◌≢◌, ℕ, ◌+◌, ◌<◌, length}
use Rattle.eq_net.specs.declared.types.Dir.TheVariants.{Inner}
use Rattle.eq_net.specs.declared.types.Driver.TheVariants.{Undriven}
use Rattle.eq_net.specs.Nets.{width_of}
use Rattle.eq_net.specs.Net.{Parts, driver_at, net_at, offset}

-- each bit of net k has a driver
abbrev pub IsDriven : Parts → ℕ → Type 0
IsDriven n k = (j : ℕ) → j < width_of (net_at n.nets k) → driver_at n (offset n.nets k + j) ≢ Undriven

-- the lines of a match section see the nets that aren't ports of the top and whose bits are all driven
pub record IsSeen (n : Parts) (k : ℕ) : Type 0 where
  pub there : k < length n.nets
  pub inside : (net_at n.nets k).dir ≡ Inner
  pub driven : IsDriven n k

-- net k of one netlist and net h of another have as many bits
abbrev pub HaveOneWidth : Parts → ℕ → Parts → ℕ → Type 0
HaveOneWidth n k m h = width_of (net_at n.nets k) ≡ width_of (net_at m.nets h)

-- each port of one netlist is a port of the other, of the same name, direction and width
abbrev pub HasPortsOf : Parts → Parts → Type 0
HasPortsOf n m = (k : ℕ) → k < length n.nets → (net_at n.nets k).dir ≢ Inner → (h : ℕ) × (h < length m.nets) ×
    ((net_at m.nets h).name ≡ (net_at n.nets k).name) × ((net_at m.nets h).dir ≡ (net_at n.nets k).dir) ×
    HaveOneWidth n k m h

-- both have the same ports
pub record HaveSamePorts (gold gate : Parts) : Type 0 where
  pub gold_ports : HasPortsOf gold gate
  pub gate_ports : HasPortsOf gate gold
