-- Small designs on which equivalence is tried.
use Rattle.std.specs.Prelude.{false, List, [], ◌∷◌, None}
use Rattle.eq_model.specs.Nets.{is_input, is_output, Net}
use Rattle.eq_model.specs.Run.{Design}
use Rattle.eq_model.specs.Table.{low, wire, inverter, and_gate, xor_gate, Signal, input_port, output_port, inner_wire, inner_register, design}

-- inner x (0), output y (1): both are 0
abbrev pub inner_silence : List Signal
inner_silence = inner_wire low ∷ output_port low ∷ []

-- output y (0): y = ~y
abbrev pub own_negation : List Signal
own_negation = output_port (inverter (wire 0)) ∷ []

-- input x (0), output y (1), registers p (2) and s (3) that begin at 0: p follows x, s follows 1, and y tells that x isn't
-- what it was in the cycle before
abbrev pub change : List Signal
change =
    input_port ∷ output_port (and_gate (wire 3) (xor_gate (wire 2) (wire 0))) ∷
    inner_register false (wire 0) ∷ inner_register false (inverter low) ∷ []

-- output y (0), inner p (1) and q (2): y = 0, p = q, q = p
abbrev pub ring_inside : List Signal
ring_inside = output_port low ∷ inner_wire (wire 2) ∷ inner_wire (wire 1) ∷ []

-- inputs a (0) and b (1), output y (2): y = a ^ b
abbrev pub differing : List Signal
differing = input_port ∷ input_port ∷ output_port (xor_gate (wire 0) (wire 1)) ∷ []

-- the same with y = 0
abbrev pub two_silenced : List Signal
two_silenced = input_port ∷ input_port ∷ output_port low ∷ []

abbrev pub input_net : Net
input_net = record { name = 0 ∷ []; range = None; dir = is_input; automatic = false }

abbrev pub output_net : Net
output_net = record { name = 2 ∷ []; range = None; dir = is_output; automatic = false }

-- the design of such a table, but both inputs have one name
abbrev pub collided : List Signal → Design
collided lines = record (design lines) { nets = input_net ∷ input_net ∷ output_net ∷ [] }
