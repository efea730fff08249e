-- Parts and graphs on which `Denotes` and `IsGraphOf` are tried.
use Rattle.std.specs.Prelude.{ℕ, zero, suc, true, false, List, [], ◌∷◌}
use Rattle.eq_model.specs.Plan.{Plan}
use Rattle.eq_model.specs.Part.{Part}
use Rattle.eq_model.specs.Table.{low, wire, inverter, and_gate, or_gate, xor_gate, Signal, input_port, output_port, inner_wire, inner_register, inner_open, design, plan_of, plain}
use Rattle.eq_model.specs.Examples.{output_part}
use Rattle.eq_model.specs.PlanExamples.{input_first}

-- `output_part` with a node 4 that no output leads to
abbrev pub idle_part : Part
idle_part = record output_part {
  system = (design (input_port ∷ output_port (wire 0) ∷ inner_wire (inverter (wire 0)) ∷
      inner_wire (inverter (wire 2)) ∷ inner_wire low ∷ [])).system;
}

-- `output_part` with its output listed twice
abbrev pub output_twice : Part
output_twice = record output_part { outputs = 2 }

-- `output_part` with a second input, which no node has
abbrev pub input_without_node : Part
input_without_node = record output_part { inputs = 2 }

-- no nodes, and no output
abbrev pub no_output : Part
no_output = record {
  system = record { bits = 0; driver = (design []).driver };
  inputs = 0;
  number =
      λ b. 0;
  outputs = 0;
  gold = λ o. 0;
  gate = λ o. 0;
}

-- an input (node 0) whose negation (node 1) stands for the output's bit on both sides
abbrev pub other_input : Part
other_input = record {
  system = (design (input_port ∷ inner_wire (inverter (wire 0)) ∷ [])).system;
  inputs = 1;
  number = λ b. 0;
  outputs = 1;
  gold = λ o. 1;
  gate = λ o. 1;
}

-- an input (node 0) that is the output on both sides
abbrev pub input_is_output : Part
input_is_output = record {
  system = (design (input_port ∷ [])).system;
  inputs = 1;
  number = λ b. 0;
  outputs = 1;
  gold = λ o. 0;
  gate = λ o. 0;
}

-- the plan of `input_first`, y = ~a, with itself: the pairs a and y, and the partition of y
abbrev pub negation_plan : Plan
negation_plan = plan_of input_first 2 plain ((1 ∷ []) ∷ [])

-- `register_part` with r (1) beginning at 1
abbrev pub begun_high : Part
begun_high = record {
  system =
      (design (input_port ∷ inner_register true (xor_gate (wire 1) (wire 0)) ∷
      inner_register true (xor_gate (wire 2) (wire 0)) ∷ inner_wire (inverter (wire 2)) ∷
      [])).system;
  inputs = 1;
  number = λ b. 0;
  outputs = 1;
  gold = λ o. 1;
  gate = λ o. 3;
}

-- Graphs

-- input x (0), output y (1), a register r (2) that begins at 1, an inner u (3) without a driver: y = (x & r) | u, and r
-- follows x & r
abbrev pub shared_bits : List Signal
shared_bits =
    input_port ∷ output_port (or_gate (and_gate (wire 0) (wire 2)) (wire 3)) ∷
    inner_register true (and_gate (wire 0) (wire 2)) ∷ inner_open ∷ []

-- its graph: x (node 0), r (1), x & r, which both use (2), u, which is 0 (3), and y (4)
abbrev pub shared_nodes : List Signal
shared_nodes =
    input_port ∷ inner_register true (wire 2) ∷ inner_wire (and_gate (wire 0) (wire 1)) ∷
    inner_wire low ∷ output_port (or_gate (wire 2) (wire 3)) ∷ []

abbrev pub own_node : ℕ → ℕ
own_node zero = 0
own_node (suc zero) = 4
own_node (suc (suc zero)) = 1
own_node (suc (suc (suc b))) = 3

-- the same with r beginning at 0
abbrev pub nodes_begun_low : List Signal
nodes_begun_low =
    input_port ∷ inner_register false (wire 2) ∷ inner_wire (and_gate (wire 0) (wire 1)) ∷
    inner_wire low ∷ output_port (or_gate (wire 2) (wire 3)) ∷ []

-- the same with the shared node given from outside
abbrev pub nodes_given : List Signal
nodes_given =
    input_port ∷ inner_register true (wire 2) ∷ input_port ∷ inner_wire low ∷
    output_port (or_gate (wire 2) (wire 3)) ∷ []

-- the same with u at 1
abbrev pub nodes_open_high : List Signal
nodes_open_high =
    input_port ∷ inner_register true (wire 2) ∷ inner_wire (and_gate (wire 0) (wire 1)) ∷
    inner_wire (inverter low) ∷ output_port (or_gate (wire 2) (wire 3)) ∷ []
