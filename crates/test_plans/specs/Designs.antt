-- Netlists made by hand from a list of signals: inputs come from outside, and what is driven has the value 0.
use Rattle.std.specs.Prelude.{ℕ, zero, suc, List, [], ◌∷◌, ◌++◌, Bool, false, None, length, fold, if◌then◌else◌}
use Rattle.eq_net.specs.declared.types.NetInfo.{NetInfo}
use Rattle.eq_net.specs.declared.types.Dir.{Dir}
use Rattle.eq_net.specs.declared.types.Dir.TheVariants.{Inner, Input as InputPort, Output as OutputPort}
use Rattle.eq_net.specs.declared.types.Driver.{Driver}
use Rattle.eq_net.specs.declared.types.Driver.TheVariants.{Input, Undriven, Expr}
use Rattle.eq_net.specs.Nets.{width_of}
use Rattle.eq_net.specs.Tree.{Tree, const}
use Rattle.eq_net.specs.Net.{Parts}
use Rattle.eq_net.specs.Decided.{is_net, is_port}
use Rattle.test_plans.specs.declared.types.Draft.{Draft}
use Rattle.test_plans.specs.declared.types.Signal.{Signal}

abbrev pub net_of : Signal → NetInfo
net_of s = record { name = s.name.now; left = s.left; right = s.right; ranged = s.ranged; dir = s.dir; auto = s.auto }

-- what drives the bits of a net
abbrev pub driver_of : Dir → Bool → Driver
driver_of InputPort driven = Input
driver_of Inner driven = if driven then Expr 0 0 else Undriven
driver_of OutputPort driven = if driven then Expr 0 0 else Undriven

abbrev pub copies : Driver → ℕ → List Driver
copies d zero = []
copies d (suc n) = copies d n ++ d ∷ []

-- the ports among nets, the first of which has this number
abbrev pub with_port : Dir → ℕ → List ℕ → List ℕ
with_port dir k ports = if is_port dir then ports ++ k ∷ [] else ports

-- a netlist as it is made, net by net
abbrev pub none : Draft
none = record { nets = []; drivers = []; ports = [] }

abbrev pub with_net : Draft → Signal → Draft
with_net d s = record {
  nets = d.nets ++ net_of s ∷ [];
  drivers = d.drivers ++ copies (driver_of s.dir s.driven) (width_of (net_of s));
  ports = with_port s.dir (length d.nets) d.ports;
}

abbrev pub draft_of : List Signal → Draft
draft_of signals = fold with_net none signals

abbrev pub zero_word : List Tree
zero_word = const (false ∷ []) ∷ []

abbrev pub design : Draft → Parts
design d = record {
  nets = d.nets;
  words = zero_word;
  drivers = d.drivers;
  ports = d.ports;
  clock = None;
  cost =
      2000000;
}

-- there is nothing to read, so all ranks are 0
abbrev pub is_good : List Signal → Bool
is_good signals = is_net (λ b. 0) (λ k. 0) (design (draft_of signals))
