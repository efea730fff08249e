-- Plans that cover and plans that don't.
use Rattle.std.proofs.Common.{◌≡◌, ◌≢◌, ℕ, zero, suc, ◌<◌, true, false, not, ◌==◌, List, [], ◌∷◌, AllPairs, Contains, ◌↔◌, refl, arith, sym, ap, subst, ◌∙◌}
use Rattle.std.proofs.lemmas.Bool.Decides.{Decides-eqb}
use Rattle.eq_model.specs.System.{IsSystem, IsInput, IsLoopFree, Reads}
use Rattle.eq_model.specs.Nets.{is_input}
use Rattle.eq_model.specs.Run.{key, dir, IsDesign, Equivalent}
use Rattle.eq_model.specs.Plan.{PairsPorts, Covers}
use Rattle.eq_model.specs.Cut.{Never}
use Rattle.eq_model.specs.Table.{design, plain, CoversTables}
use Rattle.eq_model.specs.Examples.{conjunction, counter, silence, output_only}
use Rattle.eq_model.specs.PlanExamples.{empty_partition, input_held, no_pair_held, output_unpaired, output_inverted, inputs_unmarked, inputs_crossed, gold_twice, gate_twice, bits_beyond, silent_output, input_first, turned_driver, output_first, turn, turned}
use Rattle.eq_model.proofs.Composition.{equivalent}
use Rattle.eq_model.proofs.Order.{free_from_rank}
use Rattle.eq_model.proofs.TableNets.{ports_are, ports_once}
use Rattle.eq_model.proofs.Tables.{design_is, design_is_free, IsComplete, plan_covers}
use Rattle.eq_model.proofs.Witness.{never_one}

pub empty_refused : CoversTables conjunction conjunction empty_partition → ⊥
empty_refused c = (let t = c.some_held 1 (omega arith) in let e = t.1 in cc)

pub input_refused : CoversTables conjunction conjunction input_held → ⊥
input_refused c = (let t = c.in_pairs 0 0 (omega arith) refl in let e = t.1 in cc)

pub no_pair_refused : CoversTables conjunction conjunction no_pair_held → ⊥
no_pair_refused c = (let t = c.in_pairs 0 3 (omega arith) refl in let lt : 3 < 3 = t.0 in omega arith)

pub unpaired_refused : CoversTables conjunction conjunction output_unpaired → ⊥
unpaired_refused c =
    let t = c.gold_ports 2 (omega arith) tt in
    let lt : t.0 < 2 = t.1 in
    let e : t.0 ≡ 2 = t.2 in
    omega arith

pub inverted_refused : CoversTables conjunction conjunction output_inverted → ⊥
inverted_refused c = (let e : true ≡ false = c.plain_ports 2 (omega arith) tt in cc)

pub crossed_refused : CoversTables conjunction conjunction inputs_crossed → ⊥
crossed_refused c =
    let t = c.gold_ports 0 (omega arith) tt in
    let P : ℕ → Type 0 = λ i. key (design conjunction) (inputs_crossed.gate i) ≡ key (design conjunction) 0 in
    let e = ap (λ (k : List ℕ × ℕ). k.0) (subst P t.2 t.4) in
    cc

pub unmarked_refused : CoversTables conjunction conjunction inputs_unmarked → ⊥
unmarked_refused c = (let e : false ≡ true = (c.gold_inputs 0 (omega arith)).1 refl in cc)

pub gold_twice_refused : CoversTables conjunction conjunction gold_twice → ⊥
gold_twice_refused c =
    let e : ◌≡◌ {A = ℕ} 0 1 = c.one_to_one.gold_once 0 1 (omega arith) (omega arith) refl in
    omega arith

pub gate_twice_refused : CoversTables conjunction conjunction gate_twice → ⊥
gate_twice_refused c =
    let e : ◌≡◌ {A = ℕ} 0 1 = c.one_to_one.gate_once 0 1 (omega arith) (omega arith) refl in
    omega arith

pub beyond_refused : CoversTables conjunction conjunction bits_beyond → ⊥
beyond_refused c = (let lt : 3 < 3 = c.one_to_one.gold_bits 3 (omega arith) in omega arith)

-- unpaired inner bits

counter_complete : IsComplete counter silence 1 plain ((0 ∷ []) ∷ [])
counter_complete = record {
  gold_size = refl;
  gate_size = refl;
  gold_ports = refl;
  gate_ports = refl;
  sides =
      refl;
  signs = refl;
  ones = refl;
  pairs = refl;
  some = refl;
}

pub gold_unpaired : CoversTables counter silence output_only
gold_unpaired = plan_covers counter silence 1 plain ((0 ∷ []) ∷ []) counter_complete

silence_complete : IsComplete silence counter 1 plain ((0 ∷ []) ∷ [])
silence_complete = record {
  gold_size = refl;
  gate_size = refl;
  gold_ports = refl;
  gate_ports = refl;
  sides =
      refl;
  signs = refl;
  ones = refl;
  pairs = refl;
  some = refl;
}

pub gate_unpaired : CoversTables silence counter silent_output
gate_unpaired = plan_covers silence counter 1 plain ((0 ∷ []) ∷ []) silence_complete

-- ports in another order

only_one : (b : ℕ) → Contains {X = ℕ} (1 ∷ []) b → 1 ≡ b
only_one b (zero, lt, e) = e
only_one b (suc k, lt, e) = absurd (omega arith)

turned_system : IsSystem output_first.system
turned_system zero lb = record {
  bounded = λ b c. (let e = only_one b c in omega arith);
  respects = λ v w same. ap not (same 1 (0, omega arith, refl));
}
turned_system (suc b) lb = tt

turned_names : AllPairs (λ m n. m.name ≢ n.name) output_first.nets
turned_names i zero d lt lj e = absurd (omega arith)
turned_names zero (suc zero) d lt lj e = cc
turned_names (suc i) (suc zero) d lt lj e = absurd (omega arith)
turned_names i (suc (suc j)) d lt lj e = absurd (omega arith)

turned_inputs : (b : ℕ) → b < 2 → IsInput (turned_driver b) ↔ (dir output_first b ≡ is_input)
turned_inputs zero lb = ((λ h. absurd h), (λ e. absurd (cc)))
turned_inputs (suc zero) lb = ((λ _. refl), (λ _. tt))
turned_inputs (suc (suc b)) lb = absurd (omega arith)

turned_is : IsDesign output_first
turned_is = record {
  drivers = turned_system;
  widths = refl;
  names = turned_names;
  inputs = turned_inputs;
  ports_once = ports_once output_first.nets turned_names;
  ports = ports_are output_first.nets;
  clocked = λ name e. absurd (cc);
}

turned_lower : (a b : ℕ) → a < 2 → Reads output_first.system a b → turn b < turn a
turned_lower zero b la c = (let P : ℕ → Type 0 = λ k. turn k < 1 in subst P (only_one b c) (omega arith))
turned_lower (suc a) b la c = (let lt : c.0 < 0 = c.1 in absurd (omega arith))

turned_free : IsLoopFree output_first.system
turned_free = free_from_rank output_first.system turned_system turn turned_lower

turned_below : (i : ℕ) → i < 2 → turn i < 2
turned_below zero lt = omega arith
turned_below (suc i) lt = omega arith

turned_once : (i j : ℕ) → i < 2 → j < 2 → turn i ≡ turn j → i ≡ j
turned_once zero zero li lj e = refl
turned_once zero (suc j) li lj e = absurd (let f : 1 ≡ 0 = e in omega arith)
turned_once (suc i) zero li lj e = absurd (let f : 0 ≡ 1 = e in omega arith)
turned_once (suc i) (suc j) li lj e = omega arith

turned_gold_ports : PairsPorts (design input_first) output_first 2 (λ i. i) turn
turned_gold_ports zero la port = (0, omega arith, refl, tt, refl)
turned_gold_ports (suc zero) la port = (1, omega arith, refl, tt, refl)
turned_gold_ports (suc (suc a)) la port = absurd (omega arith)

turned_gate_ports : PairsPorts output_first (design input_first) 2 turn (λ i. i)
turned_gate_ports zero la port = (1, omega arith, refl, tt, refl)
turned_gate_ports (suc zero) la port = (0, omega arith, refl, tt, refl)
turned_gate_ports (suc (suc a)) la port = absurd (omega arith)

turned_gold_inputs : (i : ℕ) → i < 2 → ((i == 0) ≡ true) ↔ (dir (design input_first) i ≡ is_input)
turned_gold_inputs zero lt = ((λ _. refl), (λ _. refl))
turned_gold_inputs (suc zero) lt = ((λ e. absurd (cc)), (λ e. absurd (cc)))
turned_gold_inputs (suc (suc i)) lt = absurd (omega arith)

turned_gate_inputs : (i : ℕ) → i < 2 → ((i == 0) ≡ true) ↔ (dir output_first (turn i) ≡ is_input)
turned_gate_inputs zero lt = ((λ _. refl), (λ _. refl))
turned_gate_inputs (suc zero) lt = ((λ e. absurd (cc)), (λ e. absurd (cc)))
turned_gate_inputs (suc (suc i)) lt = absurd (omega arith)

turned_in_one : (i : ℕ) → i < 2 → (i == 0) ≡ false → (q : ℕ) × (q < 1) × ((i == 1) ≡ true) ×
    ((r : ℕ) → r < 1 → (i == 1) ≡ true → r ≡ q)
turned_in_one zero lt h = absurd (cc)
turned_in_one (suc zero) lt h = (0, omega arith, refl, (λ r lr e. omega arith))
turned_in_one (suc (suc i)) lt h = absurd (omega arith)

pub turned_covers : Covers (design input_first) output_first turned
turned_covers = record {
  one_to_one = record {
    gold_bits = λ i lt. lt;
    gate_bits = turned_below;
    gold_once = λ i j li lj e. e;
    gate_once =
        turned_once;
  };
  gold_ports = turned_gold_ports;
  gate_ports = turned_gate_ports;
  plain_ports = λ i lt port. refl;
  gold_inputs = turned_gold_inputs;
  gate_inputs = turned_gate_inputs;
  in_one = turned_in_one;
  in_pairs = λ q i lq h.
      let e : i ≡ 1 = (Decides-eqb i 1).0 h in
      let P : ℕ → Type 0 = λ k. (k < 2) × ((k == 0) ≡ false) in
      subst P (sym e) (omega arith, refl);
  some_held = λ q lq. (1, refl);
}

turned_never : (q : ℕ) → q < 1 → Never (design input_first).system output_first.system turned (turned.holds q)
turned_never q lq = never_one (design input_first).system output_first.system turned (turned.holds q) 1 (λ i h. (Decides-eqb i 1).0 h) (λ n v w run begins c lc.
    run.gold_solves.now c 1 lc (omega arith) refl ∙ ap not (run.equal c 0 lc (omega arith) refl)
    ∙ sym (run.gate_solves.now c 0 lc (omega arith) refl))

pub turned_equivalent : Equivalent (design input_first) output_first
turned_equivalent = equivalent (design input_first) output_first turned (design_is input_first refl) turned_is turned_free turned_covers turned_never
    (design_is_free input_first (0 ∷ 1 ∷ []) refl refl)
