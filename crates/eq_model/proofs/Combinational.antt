-- Designs without registers are equivalent exactly where their outputs have the same values in one cycle.
use Rattle.std.proofs.Common.{ℕ, ◌<◌, Bool, arith, inl, inr, ◌↔◌}
use Rattle.eq_model.specs.System.{Values, Driver, input, undriven, equation, register, IsLoopFree, IsInput, IsHeld, Begins, Cycle, nothing}
use Rattle.eq_model.specs.Run.{Design, IsDesign, Given, Run, HasPorts, SameOutputs, Equivalent, key}
use Rattle.eq_model.specs.Nets.{Key}
use Rattle.eq_model.specs.Combinational.{IsPlain, IsCombinational, SameValues}
use Rattle.eq_model.proofs.Trace.{is_held, one_run}

held_is_input : (d : Driver) → IsPlain d → IsHeld d → IsInput d
held_is_input input plain h = tt
held_is_input undriven plain h = h
held_is_input (equation e) plain h = h
held_is_input (register i e) plain h = absurd plain

plain_begins : (d : Driver) → IsPlain d → (x : Bool) → Begins d x
plain_begins input plain x = tt
plain_begins undriven plain x = tt
plain_begins (equation e) plain x = tt
plain_begins (register i e) plain x = absurd plain

-- a cycle of a run
cycle_of : (d : Design) → IsCombinational d → (given : Given) (n : ℕ) (v : ℕ → Values) → Run d given n v → (c : ℕ) → c < n → Cycle d.system nothing (λ b. given c (key d b)) (v c)
cycle_of d plain given n v run c lc = record {
  held = λ b lb why. elim why [ inl e ↦ absurd (cc) | inr h ↦ run.inputs c b lc lb (held_is_input (d.driver b) (plain b lb) h) ];
  driven = λ b lb kept. run.solves.now c b lc lb kept;
}

-- a run of one cycle
run_of : (d : Design) → IsCombinational d → (given : Key → Bool) (v : Values) → Cycle d.system nothing (λ b. given (key d b)) v → Run d (λ c. given) 1 (λ c. v)
run_of d plain given v h = record {
  inputs = λ c b lc lb is. h.held b lb (inr (is_held (d.driver b) is));
  begins = λ pos b lb kept. plain_begins (d.driver b) (plain b lb) (v b);
  solves = record {
    now = λ c b lc lb kept. h.driven b lb kept;
    next = λ c b lc lb kept. absurd (omega arith);
  };
}

module _ (gold gate : Design) (gold_plain : IsCombinational gold) (gate_plain : IsCombinational gate) where
  pub same_outputs : SameValues gold gate → SameOutputs gold gate
  same_outputs same given n v w hv hw c a b lc la lb da db k =
      same (given c) (v c) (w c) (cycle_of gold gold_plain given n v hv c lc) (cycle_of gate gate_plain given n w hw c lc) a b la lb da db k

  pub same_values : SameOutputs gold gate → SameValues gold gate
  same_values same given v w hv hw a b la lb da db k =
      same (λ c. given) 1 (λ c. v) (λ c. w) (run_of gold gold_plain given v hv) (run_of gate gate_plain given w hw) 0 a b (omega arith) la lb da db k

  pub plain_equivalent : IsDesign gold → IsDesign gate → IsLoopFree gold.system → IsLoopFree gate.system → HasPorts gold gate → HasPorts gate gold →
      Equivalent gold gate ↔ SameValues gold gate
  plain_equivalent gold_is gate_is gold_free gate_free gold_ports gate_ports = (
    (λ e. same_values e.outputs),
    (λ same. record {
      gold_design = gold_is;
      gate_design = gate_is;
      gold_ports = gold_ports;
      gate_ports = gate_ports;
      gold_run = one_run gold gold_is.drivers gold_free;
      gate_run = one_run gate gate_is.drivers gate_free;
      outputs = same_outputs same;
    }),
  )
