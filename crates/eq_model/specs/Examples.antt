-- Small designs on which the definitions are tried.
use Rattle.std.specs.Prelude.{ℕ, Bool, true, false, ◌==◌, List, [], ◌∷◌}
use Rattle.eq_model.specs.Plan.{Plan}
use Rattle.eq_model.specs.Part.{Part}
use Rattle.eq_model.specs.Table.{low, wire, inverter, and_gate, or_gate, xor_gate, Signal, input_port, output_port, inner_wire, inner_register, design, plan_of, plain}

-- inputs a (0) and b (1), output y (2): y = a & b
abbrev pub conjunction : List Signal
conjunction = input_port ∷ input_port ∷ output_port (and_gate (wire 0) (wire 1)) ∷ []

-- the same with y = ~(~a | ~b)
abbrev pub de_morgan : List Signal
de_morgan = input_port ∷ input_port ∷
    output_port (inverter (or_gate (inverter (wire 0)) (inverter (wire 1)))) ∷ []

-- the same with y = a | b
abbrev pub disjunction : List Signal
disjunction = input_port ∷ input_port ∷ output_port (or_gate (wire 0) (wire 1)) ∷ []

-- output p (0), inner q (1): p = q, q = p
abbrev pub ring : List Signal
ring = output_port (wire 1) ∷ inner_wire (wire 0) ∷ []

-- input x (0), outputs p (1) and q (2): p = x & (x | q), q = x
abbrev pub p_reads_q : List Signal
p_reads_q = input_port ∷ output_port (and_gate (wire 0) (or_gate (wire 0) (wire 2))) ∷
    output_port (wire 0) ∷ []

-- the same with p = x, q = x | (x & p)
abbrev pub q_reads_p : List Signal
q_reads_p = input_port ∷ output_port (wire 0) ∷
    output_port (or_gate (wire 0) (and_gate (wire 0) (wire 1))) ∷ []

-- all signals paired, with the partitions p and q
abbrev pub apart : Plan
apart = plan_of p_reads_q 3 plain ((1 ∷ []) ∷ (2 ∷ []) ∷ [])

-- the same with q in both partitions
abbrev pub doubled : Plan
doubled = plan_of p_reads_q 3 plain ((1 ∷ 2 ∷ []) ∷ (2 ∷ []) ∷ [])

-- input a (0), output y (1), inner n (2): n = a, y = n & a
abbrev pub reads_both : List Signal
reads_both = input_port ∷ output_port (and_gate (wire 2) (wire 0)) ∷ inner_wire (wire 0) ∷ []

-- the same with y = n
abbrev pub reads_inner : List Signal
reads_inner = input_port ∷ output_port (wire 2) ∷ inner_wire (wire 0) ∷ []

-- the same with n = ~a, y = n
abbrev pub reads_inverted : List Signal
reads_inverted = input_port ∷ output_port (wire 2) ∷ inner_wire (inverter (wire 0)) ∷ []

-- n is cut: all signals paired, with the partitions y and n
abbrev pub inner_cut : Plan
inner_cut = plan_of reads_both 3 plain ((1 ∷ []) ∷ (2 ∷ []) ∷ [])

-- y and n are compared as one
abbrev pub inner_merged : Plan
inner_merged = plan_of reads_both 3 plain ((1 ∷ 2 ∷ []) ∷ [])

-- n is cut, and stands in no partition
abbrev pub inner_left_out : Plan
inner_left_out = plan_of reads_inner 3 plain ((1 ∷ []) ∷ [])

-- output y (0), a counter of two bits (1 and 2) that begins at 0: y tells that it is at 2
abbrev pub counter : List Signal
counter =
    output_port (and_gate (wire 2) (inverter (wire 1))) ∷ inner_register false (inverter (wire 1)) ∷
    inner_register false (xor_gate (wire 2) (wire 1)) ∷ []

-- output y (0): y = 0
abbrev pub silence : List Signal
silence = output_port low ∷ []

-- y alone is paired
abbrev pub output_only : Plan
output_only = plan_of counter 1 plain ((0 ∷ []) ∷ [])

-- input x (0), output y (1), a register r (2) that is 0 and stays: y = r & x
abbrev pub gated : List Signal
gated = input_port ∷ output_port (and_gate (wire 2) (wire 0)) ∷ inner_register false (wire 2) ∷ []

-- input x (0), output y (1): y = 0
abbrev pub gated_silence : List Signal
gated_silence = input_port ∷ output_port low ∷ []

-- x and y are paired
abbrev pub ports_only : Plan
ports_only = plan_of gated 2 plain ((1 ∷ []) ∷ [])

-- output y (0), registers s (1) and t (2) that begin at 1 and 0: y = s, s follows t, and t follows t ^ s
abbrev pub feedback : List Signal
feedback = output_port (wire 1) ∷ inner_register true (wire 2) ∷
    inner_register false (xor_gate (wire 2) (wire 1)) ∷ []

-- input a (0), output y (1), a register r (2) that begins at 0 and follows r ^ a: y = r
abbrev pub toggle : List Signal
toggle = input_port ∷ output_port (wire 2) ∷ inner_register false (xor_gate (wire 2) (wire 0)) ∷ []

-- the same with a register m that begins at 1, and y = ~m
abbrev pub complement_toggle : List Signal
complement_toggle = input_port ∷ output_port (inverter (wire 2)) ∷
    inner_register true (xor_gate (wire 2) (wire 0)) ∷ []

-- r and m are an inverted pair
abbrev pub register_pair : ℕ → Bool
register_pair i = i == 2

-- all signals paired, with the partitions y and the registers'
abbrev pub complements : Plan
complements = plan_of toggle 3 register_pair ((1 ∷ []) ∷ (2 ∷ []) ∷ [])

-- the same with plain pairs
abbrev pub not_complements : Plan
not_complements = plan_of toggle 3 plain ((1 ∷ []) ∷ (2 ∷ []) ∷ [])

-- the part of the partition y of `complements`: the input r (node 0), gold's y (1), m, which is ~r (2), and gate's y (3)
abbrev pub output_part : Part
output_part = record {
  system = (design (input_port ∷ output_port (wire 0) ∷ inner_wire (inverter (wire 0)) ∷
      inner_wire (inverter (wire 2)) ∷ [])).system;
  inputs = 1;
  number = λ b. 0;
  outputs = 1;
  gold = λ o. 1;
  gate = λ o. 3;
}

-- the part of the registers' partition: the input a (node 0), r (1), m (2), and ~m (3), which is to be r
abbrev pub register_part : Part
register_part = record {
  system =
      (design (input_port ∷ inner_register false (xor_gate (wire 1) (wire 0)) ∷
      inner_register true (xor_gate (wire 2) (wire 0)) ∷ inner_wire (inverter (wire 2)) ∷
      [])).system;
  inputs = 1;
  number = λ b. 0;
  outputs = 1;
  gold = λ o. 1;
  gate = λ o. 3;
}
