-- Plans on which coverage is tried. The first are over `conjunction` on both sides: inputs a (0) and b (1), output y (2).
use Rattle.std.specs.Prelude.{ℕ, zero, suc, false, ◌==◌, List, [], ◌∷◌, None}
use Rattle.eq_model.specs.System.{Driver, input, equation}
use Rattle.eq_model.specs.Run.{Design}
use Rattle.eq_model.specs.Plan.{Plan}
use Rattle.eq_model.specs.Table.{low, wire, inverter, expr_of, Signal, input_port, output_port, net_of_line, plan_of, plain}
use Rattle.eq_model.specs.Examples.{conjunction, silence}

-- a partition holds nothing
abbrev pub empty_partition : Plan
empty_partition = plan_of conjunction 3 plain ((2 ∷ []) ∷ [] ∷ [])

-- a partition holds the input a
abbrev pub input_held : Plan
input_held = plan_of conjunction 3 plain ((0 ∷ 2 ∷ []) ∷ [])

-- a partition holds a number that is no pair's
abbrev pub no_pair_held : Plan
no_pair_held = plan_of conjunction 3 plain ((2 ∷ 3 ∷ []) ∷ [])

-- y isn't paired
abbrev pub output_unpaired : Plan
output_unpaired = plan_of conjunction 2 plain []

-- y is an inverted pair
abbrev pub output_inverted : Plan
output_inverted = plan_of conjunction 3 (λ i. i == 2) ((2 ∷ []) ∷ [])

-- the inputs aren't marked
abbrev pub inputs_unmarked : Plan
inputs_unmarked = record (plan_of conjunction 3 plain ((0 ∷ 1 ∷ 2 ∷ []) ∷ [])) {
  input =
      λ i. false;
}

-- a is paired with b, and b with a
abbrev pub crossed : ℕ → ℕ
crossed zero = 1
crossed (suc zero) = 0
crossed (suc (suc i)) = suc (suc i)

abbrev pub inputs_crossed : Plan
inputs_crossed = record (plan_of conjunction 3 plain ((2 ∷ []) ∷ [])) { gate = crossed }

-- a is in two pairs
abbrev pub doubling : ℕ → ℕ
doubling zero = 0
doubling (suc i) = i

abbrev pub gold_twice : Plan
gold_twice = record (plan_of conjunction 4 plain ((3 ∷ []) ∷ [])) { gold = doubling }

abbrev pub gate_twice : Plan
gate_twice = record (plan_of conjunction 4 plain ((3 ∷ []) ∷ [])) { gate = doubling }

-- a pair of bits that aren't there
abbrev pub bits_beyond : Plan
bits_beyond = plan_of conjunction 4 plain ((2 ∷ 3 ∷ []) ∷ [])

-- Unpaired bits: the output of `silence` with that of a design that has inner bits besides

abbrev pub silent_output : Plan
silent_output = plan_of silence 1 plain ((0 ∷ []) ∷ [])

-- Ports in another order

-- input a (0), output y (1): y = ~a
abbrev pub input_first : List Signal
input_first = input_port ∷ output_port (inverter (wire 0)) ∷ []

-- output y (0), input a (1)
abbrev pub turned_driver : ℕ → Driver
turned_driver zero = equation (expr_of (inverter (wire 1)))
turned_driver (suc b) = input

abbrev pub output_first : Design
output_first = record {
  system = record { bits = 2; driver = turned_driver };
  nets = net_of_line 1 (output_port low) ∷ net_of_line 0 input_port ∷ [];
  ports = (1 ∷ []) ∷ (0 ∷ []) ∷ [];
  clock = None;
  copy_of = λ b. None;
}

abbrev pub turn : ℕ → ℕ
turn zero = 1
turn (suc i) = 0

-- a with a and y with y, and the partition of y
abbrev pub turned : Plan
turned = record {
  pairs = 2;
  gold = λ i. i;
  gate = turn;
  inverted = plain;
  input = λ i. i == 0;
  parts = 1;
  holds = λ q i. i == 1;
}
