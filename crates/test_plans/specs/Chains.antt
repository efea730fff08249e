-- Netlists made by hand from a list of wires, each of which reads one bit.
use Rattle.std.specs.Prelude.{ℕ, suc, List, [], ◌∷◌, ◌++◌, Bool, false, None, length, fold, map, if◌then◌else◌, slice_index_or}
use Rattle.eq_net.specs.declared.types.NetInfo.{NetInfo}
use Rattle.eq_net.specs.declared.types.Dir.{Dir}
use Rattle.eq_net.specs.declared.types.Dir.TheVariants.{Inner, Input as InputPort, Output as OutputPort}
use Rattle.eq_net.specs.declared.types.Driver.{Driver}
use Rattle.eq_net.specs.declared.types.Driver.TheVariants.{Input, Expr, Reg}
use Rattle.eq_net.specs.Tree.{Tree, read}
use Rattle.eq_net.specs.Net.{Parts}
use Rattle.eq_net.specs.Decided.{is_net}
use Rattle.test_plans.specs.declared.types.Draft.{Draft}
use Rattle.test_plans.specs.declared.types.Wire.{Wire}
use Rattle.test_plans.specs.Designs.{none, with_port}

abbrev pub net_of : Wire → NetInfo
net_of w = record { name = w.name.now; left = 0; right = 0; ranged = false; dir = w.dir; auto = w.auto }

-- what drives a wire, whose word this is
abbrev pub driver_of : Dir → Bool → ℕ → Driver
driver_of InputPort register word = Input
driver_of Inner register word = if register then Reg false word 0 else Expr word 0
driver_of OutputPort register word = if register then Reg false word 0 else Expr word 0

-- the lowest bit of a net
abbrev pub reading : ℕ → Tree
reading net = read (record { net = net; bit = 0 } ∷ [])

abbrev pub with_wire : Draft → Wire → Draft
with_wire d w = record {
  nets = d.nets ++ net_of w ∷ [];
  drivers = d.drivers ++ driver_of w.dir w.register (length d.nets) ∷ [];
  ports = with_port w.dir (length d.nets) d.ports;
}

abbrev pub draft_of : List Wire → Draft
draft_of wires = fold with_wire none wires

abbrev pub words_of : List Wire → List Tree
words_of wires = map (λ (w : Wire). reading w.reads) wires

abbrev pub design : Draft → List Tree → Parts
design d words = record {
  nets = d.nets;
  words = words;
  drivers = d.drivers;
  ports = d.ports;
  clock = None;
  cost = 2000000;
}

-- the rank of a wire, and above it that of the word that reads it
abbrev pub rank_at : List Wire → ℕ → ℕ
rank_at wires b = slice_index_or (map (λ (w : Wire). w.rank) wires) b 0

abbrev pub top_at : List Wire → ℕ → ℕ
top_at wires k = suc (rank_at wires (slice_index_or (map (λ (w : Wire). w.reads) wires) k 0))

abbrev pub is_good : List Wire → Bool
is_good wires = is_net (rank_at wires) (top_at wires) (design (draft_of wires) (words_of wires))
