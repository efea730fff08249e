-- Small designs written as tables, for examples: one signal of one bit a line, known by its number.
use Rattle.std.specs.Prelude.{ℕ, suc, Bool, true, false, not, ◌&&◌, ◌||◌, ◌==◌, List, [], ◌∷◌, ◌++◌, length, slice_index_or, None}
use Rattle.std.specs.List.{list_any}
use Rattle.eq_model.specs.System.{Values, Expr, Driver, input, undriven, equation, register}
use Rattle.eq_model.specs.Run.{Design, Equivalent}
use Rattle.eq_model.specs.Nets.{Dir, inner, is_input, is_output, NetName, Net}
use Rattle.eq_model.specs.Plan.{Plan, Covers}
use Rattle.eq_model.specs.Cut.{Base, Step, Never}
use Rattle.eq_model.specs.Kind.{Kind, IsKind}
use Rattle.eq_model.specs.Part.{Part}
use Rattle.eq_model.specs.Denotes.{Denotes}

-- a circuit of gates over the signals: the constant 0, a signal, and gates
pub data Gate : Type 0 where
  low : Gate
  wire : ℕ → Gate
  inverter : Gate → Gate
  and_gate : Gate → Gate → Gate
  or_gate : Gate → Gate → Gate
  xor_gate : Gate → Gate → Gate

-- the signals that a circuit reads
abbrev pub reads_of : Gate → List ℕ
reads_of low = []
reads_of (wire b) = b ∷ []
reads_of (inverter g) = reads_of g
reads_of (and_gate g h) = reads_of g ++ reads_of h
reads_of (or_gate g h) = reads_of g ++ reads_of h
reads_of (xor_gate g h) = reads_of g ++ reads_of h

-- exclusive or
abbrev pub exclusive_or : Bool → Bool → Bool
exclusive_or true b = not b
exclusive_or false b = b

-- a circuit's value for values of the signals
abbrev pub value_of : Gate → Values → Bool
value_of low v = false
value_of (wire b) v = v b
value_of (inverter g) v = not (value_of g v)
value_of (and_gate g h) v = value_of g v && value_of h v
value_of (or_gate g h) v = value_of g v || value_of h v
value_of (xor_gate g h) v = exclusive_or (value_of g v) (value_of h v)

abbrev pub expr_of : Gate → Expr
expr_of g = record { reads = reads_of g; value = value_of g }

-- a line of a table: a port, or an inner signal, which a circuit, a register or nothing drives
pub data Signal : Type 0 where
  input_port : Signal
  output_port : Gate → Signal
  inner_wire : Gate → Signal
  inner_register : Bool → Gate → Signal
  inner_open : Signal

abbrev pub dir_of : Signal → Dir
dir_of input_port = is_input
dir_of (output_port g) = is_output
dir_of (inner_wire g) = inner
dir_of (inner_register init g) = inner
dir_of inner_open = inner

abbrev pub driver_of : Signal → Driver
driver_of input_port = input
driver_of (output_port g) = equation (expr_of g)
driver_of (inner_wire g) = equation (expr_of g)
driver_of (inner_register init g) = register init (expr_of g)
driver_of inner_open = undriven

abbrev pub signal_at : List Signal → ℕ → Signal
signal_at lines b = slice_index_or lines b (inner_wire low)

-- whether a line is a port's
abbrev pub is_port : Signal → Bool
is_port input_port = true
is_port (output_port g) = true
is_port (inner_wire g) = false
is_port (inner_register init g) = false
is_port inner_open = false

-- the net of a line. A signal is a scalar, and its name is its number
abbrev pub net_of_line : ℕ → Signal → Net
net_of_line k s = record { name = k ∷ []; range = None; dir = dir_of s; automatic = false }

-- the nets of lines, the first line having number k
abbrev pub nets_of_lines : ℕ → List Signal → List Net
nets_of_lines k [] = []
nets_of_lines k (s ∷ lines) = net_of_line k s ∷ nets_of_lines (suc k) lines

-- a port's name before other names
abbrev pub with_port : Dir → NetName → List NetName → List NetName
with_port inner name names = names
with_port is_input name names = name ∷ names
with_port is_output name names = name ∷ names

-- the names of the nets that are ports, in order
abbrev pub port_names : List Net → List NetName
port_names [] = []
port_names (n ∷ ns) = with_port n.dir n.name (port_names ns)

-- the design of a table
abbrev pub design : List Signal → Design
design lines = record {
  system = record { bits = length lines; driver = λ b. driver_of (signal_at lines b) };
  nets = nets_of_lines 0 lines;
  ports = port_names (nets_of_lines 0 lines);
  clock = None;
  copy_of = λ b. None;
}

-- whether a line is an input port's
abbrev pub is_input_port : Signal → Bool
is_input_port input_port = true
is_input_port (output_port g) = false
is_input_port (inner_wire g) = false
is_input_port (inner_register init g) = false
is_input_port inner_open = false

-- the plan that pairs the first n signals of two tables, each with that of its number, with the partitions given by lists
-- of numbers
abbrev pub plan_of : List Signal → ℕ → (ℕ → Bool) → List (List ℕ) → Plan
plan_of lines n inverted parts = record {
  pairs = n;
  gold = λ i. i;
  gate = λ i. i;
  inverted = inverted;
  input = λ i. is_input_port (signal_at lines i);
  parts = length parts;
  holds = λ q i. list_any (λ j. j == i) (slice_index_or parts q []);
}

-- all pairs are plain
abbrev pub plain : ℕ → Bool
plain i = false

-- the two tables' designs are equivalent
abbrev pub EquivalentTables : List Signal → List Signal → Type 0
EquivalentTables gold gate = Equivalent (design gold) (design gate)

-- the plan covers the two tables' designs
abbrev pub CoversTables : List Signal → List Signal → Plan → Type 0
CoversTables gold gate p = Covers (design gold) (design gate) p

-- partition q of the plan never differs
abbrev pub NeverDiffers : List Signal → List Signal → Plan → ℕ → Type 0
NeverDiffers gold gate p q = Never (design gold).system (design gate).system p (p.holds q)

-- partition q has a difference after k cycles
abbrev pub DiffersAfter : List Signal → List Signal → Plan → ℕ → ℕ → Type 0
DiffersAfter gold gate p q k = Base (design gold).system (design gate).system p (p.holds q) k

-- what k-induction answers on partition q up to a depth
abbrev pub Answers : List Signal → List Signal → Plan → ℕ → ℕ → Kind → Type 0
Answers gold gate p q depth x =
    IsKind (Base (design gold).system (design gate).system p (p.holds q)) (Step (design gold).system (design gate).system p (p.holds q)) depth x

-- the part denotes partition q
abbrev pub DenotesPartition : List Signal → List Signal → Plan → ℕ → Part → Type 0
DenotesPartition gold gate p q t = Denotes (design gold).system (design gate).system p (p.holds q) t
