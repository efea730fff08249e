-- Designs on which nets, the conditions of a design and agreement are tried.
use Rattle.std.specs.Prelude.{ℕ, zero, suc, true, false, ◌==◌, if◌then◌else◌, List, [], ◌∷◌, Option, Some, None}
use Rattle.eq_model.specs.System.{Expr, Driver, input, undriven, equation}
use Rattle.eq_model.specs.Nets.{Dir, inner, is_input, is_output, NetName, Net}
use Rattle.eq_model.specs.Run.{Design}
use Rattle.eq_model.specs.Table.{low, wire, and_gate, or_gate, expr_of, design}
use Rattle.eq_model.specs.Examples.{conjunction}

-- Nets, and what a design asks of them

-- the names k, w, y and n
abbrev pub k_name : NetName
k_name = 0 ∷ []

abbrev pub w_name : NetName
w_name = 1 ∷ []

abbrev pub y_name : NetName
y_name = 2 ∷ []

abbrev pub n_name : NetName
n_name = 3 ∷ []

-- a net whose name no tool made up
abbrev pub net : NetName → Option (ℕ × ℕ) → Dir → Net
net name range dir = record { name = name; range = range; dir = dir; automatic = false }

-- input k (bit 0)
abbrev pub k_net : Net
k_net = net k_name None is_input

-- input w [3:1] (bits 1, 2 and 3)
abbrev pub w_net : Net
w_net = net w_name (Some (3, 1)) is_input

-- output y (bit 4)
abbrev pub y_net : Net
y_net = net y_name None is_output

-- inner n [0:1] (bits 5 and 6), whose name a tool made up
abbrev pub n_net : Net
n_net = record { name = n_name; range = Some (0, 1); dir = inner; automatic = true }

abbrev pub four_nets : List Net
four_nets = k_net ∷ w_net ∷ y_net ∷ n_net ∷ []

-- the bits of n have no net
abbrev pub without_n : List Net
without_n = k_net ∷ w_net ∷ y_net ∷ []

-- n has y's name
abbrev pub two_of_y : List Net
two_of_y = k_net ∷ w_net ∷ y_net ∷ net y_name (Some (0, 1)) inner ∷ []

-- k is no port
abbrev pub inner_k : List Net
inner_k = net k_name None inner ∷ w_net ∷ y_net ∷ n_net ∷ []

-- y is an input
abbrev pub input_y : List Net
input_y = k_net ∷ w_net ∷ net y_name None is_input ∷ n_net ∷ []

-- bits 0 to 3 are inputs, bit 4 has an equation, and bits 5 and 6 have no driver
abbrev pub seven_drivers : ℕ → Driver
seven_drivers zero = input
seven_drivers (suc zero) = input
seven_drivers (suc (suc zero)) = input
seven_drivers (suc (suc (suc zero))) = input
seven_drivers (suc (suc (suc (suc zero)))) = equation (expr_of (wire 2))
seven_drivers (suc (suc (suc (suc (suc b))))) = undriven

-- seven bits in these nets
abbrev pub with_nets : List Net → List NetName → Option NetName → Design
with_nets nets ports clock = record {
  system = record { bits = 7; driver = seven_drivers };
  nets = nets;
  ports = ports;
  clock = clock;
  copy_of = λ b. None;
}

-- a header has its own order
abbrev pub headed : List NetName
headed = y_name ∷ k_name ∷ w_name ∷ []

-- Agreement, tried on `conjunction`: inputs a (0) and b (1), output y (2)

-- with this driver of y
abbrev pub driven : Driver → Design
driven d = record (design conjunction) {
  system =
      record { bits = 3; driver = λ b. if b == 2 then d else input };
}

abbrev pub both_high : Expr
both_high = expr_of (and_gate (wire 0) (wire 1))

abbrev pub one_high : Expr
one_high = expr_of (or_gate (wire 0) (wire 1))

abbrev pub never_high : Expr
never_high = expr_of low

-- it reads a, and is 0 whatever a is
abbrev pub never_high_of_a : Expr
never_high_of_a = expr_of (and_gate low (wire 0))

-- with this net of y
abbrev pub netted : Net → Design
netted n = record (design conjunction) {
  nets = net (0 ∷ []) None is_input ∷
      net (1 ∷ []) None is_input ∷ n ∷ [];
}

abbrev pub renamed : Design
renamed = netted (net n_name None is_output)

abbrev pub ranged : Design
ranged = netted (net (2 ∷ []) (Some (0, 0)) is_output)

abbrev pub turned_inside : Design
turned_inside = netted (net (2 ∷ []) None inner)

abbrev pub made_up : Design
made_up = netted (record (net (2 ∷ []) None is_output) { automatic = true })

abbrev pub turned_ports : Design
turned_ports = record (design conjunction) { ports = (1 ∷ []) ∷ (0 ∷ []) ∷ (2 ∷ []) ∷ [] }

abbrev pub clocked_by_a : Design
clocked_by_a = record (design conjunction) { clock = Some (0 ∷ []) }

abbrev pub copies_of_a : Design
copies_of_a = record (design conjunction) { copy_of = λ b. Some 0 }

-- one bit more than there are nets
abbrev pub one_bit_more : Design
one_bit_more = record (design conjunction) {
  system =
      record { bits = 4; driver = (design conjunction).driver };
}
