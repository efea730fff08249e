-- Designs, which are systems whose bits stand in nets, and their runs.
-- A design is what elaboration makes of a top module (IEEE 1364-2005, 12.8): all instances flattened into one system.
use Rattle.std.specs.Prelude.{◌≡◌, ◌≢◌, ℕ, ◌<◌, Bool, false, List, [], Contains, AllPairs, Option, None, ◌↔◌}
use Rattle.std.specs.Option.{ForSome}
use Rattle.eq_model.specs.System.{Values, System, IsSystem, IsInput, IsInitial, Solves, Agree, nothing}
use Rattle.eq_model.specs.Nets.{Dir, inner, is_input, is_output, IsPort, NetName, Key, Net, net_width, total_width, at_bit, HasNet}

-- a system whose bits stand in nets of a top module. What a design may cost isn't told by its bits: it is a function of the
-- sources, and stands with elaboration
pub record Design : Type 0 where
  pub system : System
  pub open system use *
  -- instance by instance, each one's by first mention, the top's ports first
  pub nets : List Net
  -- the names of the ports in the order of the top's header (IEEE 1364-2005, 12.3.2)
  pub ports : List NetName
  -- the input at whose edges the always items run, none where there is no always item. Registers may stand also there
  pub clock : Option NetName
  -- the bit of which a bit is a plain copy, by wiring alone, or none
  pub copy_of : ℕ → Option ℕ

-- the name and place of bit b
abbrev pub key : Design → ℕ → Key
key d b = at_bit ([], 0) (λ n place. (n.name, place)) d.nets b

-- the direction of bit b's net
abbrev pub dir : Design → ℕ → Dir
dir d b = at_bit inner (λ n place. n.dir) d.nets b

-- the range that bit b's net is declared with
abbrev pub range : Design → ℕ → Option (ℕ × ℕ)
range d b = at_bit None (λ n place. n.range) d.nets b

-- whether a tool made up the name of bit b's net
abbrev pub automatic : Design → ℕ → Bool
automatic d b = at_bit false (λ n place. n.automatic) d.nets b

-- bit b is this place of net n
pub record IsPlaceOf (d : Design) (n : Net) (place b : ℕ) : Type 0 where
  pub there : b < d.bits
  pub named : key d b ≡ (n.name, place)
  pub directed : dir d b ≡ n.dir
  pub ranged : range d b ≡ n.range
  pub made_up : automatic d b ≡ n.automatic

pub record IsDesign (d : Design) : Type 0 where
  pub drivers : IsSystem d.system
  -- the bits are those of the nets, and no two nets have one name. So no two bits have one name and place
  pub widths : total_width d.nets ≡ d.bits
  pub names : AllPairs (λ m n. m.name ≢ n.name) d.nets
  -- just the bits of input ports are inputs
  pub inputs : (b : ℕ) → b < d.bits → IsInput (d.driver b) ↔ (dir d b ≡ is_input)
  -- the ports are just the nets that aren't inner, each once
  pub ports_once : AllPairs (λ p q. p ≢ q) d.ports
  pub ports : (name : NetName) → Contains d.ports name ↔ HasNet d.nets name (λ n. IsPort n.dir)
  -- the clock is an input of one bit
  pub clocked : ForSome d.clock (λ name. HasNet d.nets name (λ n. (n.dir ≡ is_input) ×
      (net_width n ≡ 1)))

-- the values of the inputs in each cycle, by name and place. So one list of inputs can be given to two designs
abbrev pub Given : Type 0
Given = ℕ → Key → Bool

-- a run over n cycles, from the initial values
pub record Run (d : Design) (given : Given) (n : ℕ) (v : ℕ → Values) : Type 0 where
  pub inputs : (c b : ℕ) → c < n → b < d.bits → IsInput (d.driver b) → v c b ≡ given c (key d b)
  pub begins : 0 < n → IsInitial d.system nothing (v 0)
  pub solves : Solves d.system nothing n v

-- there is a run, and any two runs have the same values
pub record HasOneRun (d : Design) (given : Given) (n : ℕ) : Type 0 where
  pub some : (v : ℕ → Values) × Run d given n v
  pub only : (v w : ℕ → Values) → Run d given n v → Run d given n w → Agree d.system n v w

-- each port bit of d is a port bit of e, of the same name, place and direction
abbrev pub HasPorts : Design → Design → Type 0
HasPorts d e = (a : ℕ) → a < d.bits → IsPort (dir d a) → (b : ℕ) × (b < e.bits) ×
    (dir e b ≡ dir d a) × (key e b ≡ key d a)

-- in runs on the same inputs, outputs of one name and place have the same values in all cycles
abbrev pub SameOutputs : Design → Design → Type 0
SameOutputs gold gate = (given : Given) (n : ℕ) (v w : ℕ → Values) → Run gold given n v →
    Run gate given n w →
    (c a b : ℕ) → c < n → a < gold.bits → b < gate.bits → dir gold a ≡ is_output →
    dir gate b ≡ is_output → key gold a ≡ key gate b → v c a ≡ w c b

-- sequential equivalence of two designs, from the initial values: the same ports, one run each on all inputs of all
-- lengths, and the same outputs in these runs. The order of the ports, the clock's name and the names inside don't matter
pub record Equivalent (gold gate : Design) : Type 0 where
  pub gold_design : IsDesign gold
  pub gate_design : IsDesign gate
  pub gold_ports : HasPorts gold gate
  pub gate_ports : HasPorts gate gold
  pub gold_run : (given : Given) (n : ℕ) → HasOneRun gold given n
  pub gate_run : (given : Given) (n : ℕ) → HasOneRun gate given n
  pub outputs : SameOutputs gold gate
