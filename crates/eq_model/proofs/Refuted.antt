-- Equivalence of designs: what refutes it, and that it may be turned round and chained.
use Rattle.std.proofs.Common.{◌≡◌, ◌≢◌, ℕ, ◌<◌, sym, subst, ◌∙◌}
use Rattle.eq_model.specs.System.{Values}
use Rattle.eq_model.specs.Nets.{Dir, is_output, IsPort}
use Rattle.eq_model.specs.Run.{Design, key, dir, Given, Run, HasPorts, SameOutputs, Equivalent}

-- outputs that differ
pub other_outputs : (gold gate : Design) (given : Given) (n : ℕ) (v w : ℕ → Values) → Run gold given n v →
    Run gate given n w →
    (c a b : ℕ) → c < n → a < gold.bits → b < gate.bits → dir gold a ≡ is_output → dir gate b ≡ is_output →
    key gold a ≡ key gate b → v c a ≢ w c b → Equivalent gold gate → ⊥
other_outputs gold gate given n v w hv hw c a b lc la lb da db same ne e =
    ne (e.outputs given n v w hv hw c a b lc la lb da db same)

-- a port that the other design lacks
pub port_lacks : (d e : Design) (a : ℕ) → a < d.bits → IsPort (dir d a) →
    ((b : ℕ) → b < e.bits → dir e b ≡ dir d a → key e b ≡ key d a → ⊥) → HasPorts d e → ⊥
port_lacks d e a la port none ports = (let t = ports a la port in none t.0 t.1 t.2 t.3)

pub equivalent_back : (gold gate : Design) → Equivalent gold gate → Equivalent gate gold
equivalent_back gold gate e = record {
  gold_design = e.gate_design;
  gate_design = e.gold_design;
  gold_ports = e.gate_ports;
  gate_ports = e.gold_ports;
  gold_run = e.gate_run;
  gate_run = e.gold_run;
  outputs = λ given n v w hv hw c a b lc la lb da db same. sym (e.outputs given n w v hw hv c b a lc lb la db da (sym same));
}

ports_on : (d e f : Design) → HasPorts d e → HasPorts e f → HasPorts d f
ports_on d e f h i a la port =
    let P : Dir → Type 0 = λ x. IsPort x in
    let s = h a la port in
    let t = i s.0 s.1 (subst P (sym s.2) port) in
    (t.0, t.1, t.2 ∙ s.2, t.3 ∙ s.3)

outputs_on : (d e f : Design) → Equivalent d e → Equivalent e f → SameOutputs d f
outputs_on d e f h i given n v w hv hw c a b lc la lb da db same =
    let P : Dir → Type 0 = λ x. IsPort x in
    let s = h.gold_ports a la (subst P (sym da) tt) in
    let between = (h.gate_run given n).some in
    h.outputs given n v between.0 hv between.1 c a s.0 lc la s.1 da (s.2 ∙ da) (sym s.3)
    ∙ i.outputs given n between.0 w between.1 hw c s.0 b lc s.1 lb (s.2 ∙ da) db (s.3 ∙ same)

pub equivalent_on : (d e f : Design) → Equivalent d e → Equivalent e f → Equivalent d f
equivalent_on d e f h i = record {
  gold_design = h.gold_design;
  gate_design = i.gate_design;
  gold_ports = ports_on d e f h.gold_ports i.gold_ports;
  gate_ports = ports_on f e d i.gate_ports h.gate_ports;
  gold_run = h.gold_run;
  gate_run = i.gate_run;
  outputs = outputs_on d e f h i;
}
