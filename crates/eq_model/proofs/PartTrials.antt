-- Parts of partitions with an inverted pair, once outside and once inside.
use Rattle.std.proofs.Common.{◌≡◌, ℕ, zero, suc, ◌<◌, Bool, true, false, not, List, [], ◌∷◌, Contains, refl, arith, sym, ap, subst, ◌⊎◌, inl, inr}
use Rattle.eq_model.specs.System.{System, IsInput, is_register}
use Rattle.eq_model.specs.Cut.{is_cut}
use Rattle.eq_model.specs.Part.{Part, IsPart, LeadsTo, IsTrim}
use Rattle.eq_model.specs.Denotes.{Pinout, Denotes}
use Rattle.eq_model.specs.Copying.{CopiesDriver, IsSigned, Copies, Copying}
use Rattle.eq_model.specs.Table.{Signal, input_port, output_port, inner_wire, inner_register, wire, inverter, xor_gate, design}
use Rattle.eq_model.specs.Examples.{toggle, complement_toggle, complements, output_part, register_part}
use Rattle.eq_model.proofs.Order.{contains_head, contains_tail}
use Rattle.eq_model.proofs.Copied.{copying_denotes}
use Rattle.eq_model.proofs.Tables.{design_is, design_is_ordered}
use Rattle.eq_model.proofs.Witness.{one_pair}
use Rattle.eq_model.proofs.RegisterTrials.{toggle_free, complement_free, complements_cover}

abbrev plus : System
plus = (design toggle).system

abbrev minus : System
minus = (design complement_toggle).system

-- a part whose node 0 is its only input
first_alone : (t : Part) → ((b : ℕ) → suc b < t.bits → IsInput (t.driver (suc b)) → ⊥) → (a b : ℕ) → a < t.bits → b < t.bits → IsInput (t.driver a) → IsInput (t.driver b) → a ≡ b
first_alone t rest zero zero la lb ia ib = refl
first_alone t rest zero (suc b) la lb ia ib = absurd (rest b lb ib)
first_alone t rest (suc a) b la lb ia ib = absurd (rest a la ia)

-- the pair is outside

abbrev output_lines : List Signal
output_lines = input_port ∷ output_port (wire 0) ∷ inner_wire (inverter (wire 0)) ∷ inner_wire (inverter (wire 2)) ∷ []

output_rest : (b : ℕ) → suc b < 4 → IsInput (output_part.driver (suc b)) → ⊥
output_rest zero lb h = absurd h
output_rest (suc zero) lb h = absurd h
output_rest (suc (suc zero)) lb h = absurd h
output_rest (suc (suc (suc b))) lb h = absurd (omega arith)

output_is : IsPart output_part
output_is = record {
  drivers = (design_is output_lines refl).drivers;
  ordered = design_is_ordered output_lines refl;
  numbers = λ b lb h. omega arith;
  one_node = λ a b la lb ia ib e. first_alone output_part output_rest a b la lb ia ib;
  gold_nodes = λ o lo. omega arith;
  gate_nodes = λ o lo. omega arith;
}

output_trim : IsTrim output_part
output_trim = record { reached = reached; named = λ k lk. (0, omega arith, tt, (omega arith)) }
  where
    reached : (b : ℕ) → b < 4 → (o : ℕ) × (cs : List ℕ) × (o < 1) × (LeadsTo output_part 1 cs b ⊎ LeadsTo output_part 3 cs b)
    reached zero lb = (0, 0 ∷ [], omega arith, inl (contains_head 0 [], refl))
    reached (suc zero) lb = (0, [], omega arith, inl refl)
    reached (suc (suc zero)) lb = (0, 2 ∷ [], omega arith, inr (contains_head 2 [], refl))
    reached (suc (suc (suc zero))) lb = (0, [], omega arith, inr refl)
    reached (suc (suc (suc (suc b)))) lb = absurd (omega arith)

abbrev output_inside : ℕ → Bool
output_inside = complements.holds 0

output_pinout : Pinout complements output_inside output_part
output_pinout = record {
  input_pair = λ k. 2;
  output_pair = λ o. 1;
  outside = λ k lk. (omega arith, refl);
  apart = λ j k lj lk e. omega arith;
  within = λ o lo. (omega arith, refl);
  each = λ i li h. (0, omega arith, sym (one_pair 1 i h));
  once = λ o u lo lu e. omega arith;
}

-- y and the register are reached
abbrev y_and_register : ℕ → Bool
y_and_register zero = false
y_and_register (suc b) = true

abbrev gold_node : ℕ → ℕ
gold_node zero = 0
gold_node (suc zero) = 1
gold_node (suc (suc b)) = 0

abbrev gate_node : ℕ → ℕ
gate_node zero = 0
gate_node (suc zero) = 3
gate_node (suc (suc b)) = 2

reaches_two : (r : ℕ) → Contains (2 ∷ []) r → y_and_register r ≡ true
reaches_two r c = (let P : ℕ → Type 0 = λ k. y_and_register k ≡ true in subst P (only_two r c) refl)
  where
    only_two : (r : ℕ) → Contains (2 ∷ []) r → 2 ≡ r
    only_two r (zero, lt, e) = e
    only_two r (suc k, lt, e) = absurd (omega arith)

output_gold : Copies plus 3 (λ i. i) (λ i. false) output_inside output_part (λ k. 2)
output_gold = record {
  reached = y_and_register;
  node = gold_node;
  nodes = nodes;
  at_cut = at_cut;
  kept = kept;
  registers = registers;
}
  where
    nodes : (b : ℕ) → b < 3 → y_and_register b ≡ true → gold_node b < 4
    nodes zero lb h = absurd (cc)
    nodes (suc zero) lb h = omega arith
    nodes (suc (suc b)) lb h = omega arith

    at_cut : (b : ℕ) → b < 3 → y_and_register b ≡ true → is_cut 3 (λ i. i) output_inside b ≡ true →
        (m : ℕ) × (m < 4) × IsInput (output_part.driver m) × (2 ≡ b) × IsSigned output_part false m (gold_node b)
    at_cut zero lb h out = absurd (cc)
    at_cut (suc zero) lb h out = absurd (cc)
    at_cut (suc (suc zero)) lb h out = (0, omega arith, tt, refl, refl)
    at_cut (suc (suc (suc b))) lb h out = absurd (omega arith)

    kept : (b : ℕ) → b < 3 → y_and_register b ≡ true → is_cut 3 (λ i. i) output_inside b ≡ false → CopiesDriver y_and_register gold_node (plus.driver b) (output_part.driver (gold_node b))
    kept zero lb h out = absurd (cc)
    kept (suc zero) lb h out = record { reads = reaches_two; value = λ v x same. same 2 (contains_head 2 []) }
    kept (suc (suc zero)) lb h out = absurd (cc)
    kept (suc (suc (suc b))) lb h out = absurd (omega arith)

    registers : (a b : ℕ) → a < 3 → b < 3 → y_and_register a ≡ true → y_and_register b ≡ true → is_register (output_part.driver (gold_node a)) ≡ true → gold_node a ≡ gold_node b → a ≡ b
    registers zero b la lb ha hb reg e = absurd (cc)
    registers (suc zero) b la lb ha hb reg e = absurd (cc)
    registers (suc (suc a)) b la lb ha hb reg e = absurd (cc)

output_gate : Copies minus 3 (λ i. i) complements.inverted output_inside output_part (λ k. 2)
output_gate = record {
  reached = y_and_register;
  node = gate_node;
  nodes = nodes;
  at_cut = at_cut;
  kept = kept;
  registers = registers;
}
  where
    nodes : (b : ℕ) → b < 3 → y_and_register b ≡ true → gate_node b < 4
    nodes zero lb h = absurd (cc)
    nodes (suc zero) lb h = omega arith
    nodes (suc (suc b)) lb h = omega arith

    at_cut : (b : ℕ) → b < 3 → y_and_register b ≡ true → is_cut 3 (λ i. i) output_inside b ≡ true →
        (m : ℕ) × (m < 4) × IsInput (output_part.driver m) × (2 ≡ b) × IsSigned output_part true m (gate_node b)
    at_cut zero lb h out = absurd (cc)
    at_cut (suc zero) lb h out = absurd (cc)
    at_cut (suc (suc zero)) lb h out = (0, omega arith, tt, refl, (λ x. refl))
    at_cut (suc (suc (suc b))) lb h out = absurd (omega arith)

    kept : (b : ℕ) → b < 3 → y_and_register b ≡ true → is_cut 3 (λ i. i) output_inside b ≡ false → CopiesDriver y_and_register gate_node (minus.driver b) (output_part.driver (gate_node b))
    kept zero lb h out = absurd (cc)
    kept (suc zero) lb h out = record { reads = reaches_two; value = λ v x same. ap not (same 2 (contains_head 2 [])) }
    kept (suc (suc zero)) lb h out = absurd (cc)
    kept (suc (suc (suc b))) lb h out = absurd (omega arith)

    registers : (a b : ℕ) → a < 3 → b < 3 → y_and_register a ≡ true → y_and_register b ≡ true → is_register (output_part.driver (gate_node a)) ≡ true → gate_node a ≡ gate_node b → a ≡ b
    registers zero b la lb ha hb reg e = absurd (cc)
    registers (suc zero) b la lb ha hb reg e = absurd (cc)
    registers (suc (suc a)) b la lb ha hb reg e = absurd (cc)

output_copying : Copying plus minus complements output_inside output_part
unfolding output_pinout output_gold output_gate
output_copying = record {
  pinout = output_pinout;
  gold = output_gold;
  gate = output_gate;
  apart = apart;
  gold_outputs = λ o lo. (refl, refl);
  gate_outputs = λ o lo. (refl, refl);
  trim = output_trim;
}
  where
    apart : (a b : ℕ) → a < 3 → b < 3 → y_and_register a ≡ true → y_and_register b ≡ true → is_register (output_part.driver (gold_node a)) ≡ true → gold_node a ≡ gate_node b → ⊥
    apart zero b la lb ha hb reg e = absurd (cc)
    apart (suc zero) b la lb ha hb reg e = absurd (cc)
    apart (suc (suc a)) b la lb ha hb reg e = absurd (cc)

pub output_denotes : Denotes plus minus complements output_inside output_part
output_denotes = copying_denotes plus minus complements output_inside output_part output_copying output_is (design_is toggle refl).drivers (design_is complement_toggle refl).drivers
    toggle_free complement_free complements_cover.one_to_one

-- the pair is inside

abbrev register_lines : List Signal
register_lines = input_port ∷ inner_register false (xor_gate (wire 1) (wire 0)) ∷ inner_register true (xor_gate (wire 2) (wire 0)) ∷ inner_wire (inverter (wire 2)) ∷ []

register_rest : (b : ℕ) → suc b < 4 → IsInput (register_part.driver (suc b)) → ⊥
register_rest zero lb h = absurd h
register_rest (suc zero) lb h = absurd h
register_rest (suc (suc zero)) lb h = absurd h
register_rest (suc (suc (suc b))) lb h = absurd (omega arith)

register_is : IsPart register_part
register_is = record {
  drivers = (design_is register_lines refl).drivers;
  ordered = design_is_ordered register_lines refl;
  numbers = λ b lb h. omega arith;
  one_node = λ a b la lb ia ib e. first_alone register_part register_rest a b la lb ia ib;
  gold_nodes = λ o lo. omega arith;
  gate_nodes = λ o lo. omega arith;
}

register_trim : IsTrim register_part
register_trim = record { reached = reached; named = λ k lk. (0, omega arith, tt, (omega arith)) }
  where
    reached : (b : ℕ) → b < 4 → (o : ℕ) × (cs : List ℕ) × (o < 1) × (LeadsTo register_part 1 cs b ⊎ LeadsTo register_part 3 cs b)
    reached zero lb = (0, 0 ∷ [], omega arith, inl (contains_tail 1 (0 ∷ []) 0 (contains_head 0 []), refl))
    reached (suc zero) lb = (0, [], omega arith, inl refl)
    reached (suc (suc zero)) lb = (0, 2 ∷ [], omega arith, inr (contains_head 2 [], refl))
    reached (suc (suc (suc zero))) lb = (0, [], omega arith, inr refl)
    reached (suc (suc (suc (suc b)))) lb = absurd (omega arith)

abbrev register_inside : ℕ → Bool
register_inside = complements.holds 1

register_pinout : Pinout complements register_inside register_part
register_pinout = record {
  input_pair = λ k. 0;
  output_pair = λ o. 2;
  outside = λ k lk. (omega arith, refl);
  apart = λ j k lj lk e. omega arith;
  within = λ o lo. (omega arith, refl);
  each = λ i li h. (0, omega arith, sym (one_pair 2 i h));
  once = λ o u lo lu e. omega arith;
}

-- a and the register are reached
abbrev a_and_register : ℕ → Bool
a_and_register zero = true
a_and_register (suc zero) = false
a_and_register (suc (suc b)) = true

abbrev plus_node : ℕ → ℕ
plus_node zero = 0
plus_node (suc b) = 1

abbrev minus_node : ℕ → ℕ
minus_node zero = 0
minus_node (suc b) = 2

reaches_both : (r : ℕ) → Contains (2 ∷ 0 ∷ []) r → a_and_register r ≡ true
reaches_both r (zero, lt, e) = (let P : ℕ → Type 0 = λ k. a_and_register k ≡ true in let f : 2 ≡ r = e in subst P f refl)
reaches_both r (suc zero, lt, e) = (let P : ℕ → Type 0 = λ k. a_and_register k ≡ true in let f : 0 ≡ r = e in subst P f refl)
reaches_both r (suc (suc k), lt, e) = absurd (omega arith)

register_gold : Copies plus 3 (λ i. i) (λ i. false) register_inside register_part (λ k. 0)
register_gold = record {
  reached = a_and_register;
  node = plus_node;
  nodes = nodes;
  at_cut = at_cut;
  kept = kept;
  registers = registers;
}
  where
    nodes : (b : ℕ) → b < 3 → a_and_register b ≡ true → plus_node b < 4
    nodes zero lb h = omega arith
    nodes (suc b) lb h = omega arith

    at_cut : (b : ℕ) → b < 3 → a_and_register b ≡ true → is_cut 3 (λ i. i) register_inside b ≡ true →
        (m : ℕ) × (m < 4) × IsInput (register_part.driver m) × (0 ≡ b) × IsSigned register_part false m (plus_node b)
    at_cut zero lb h out = (0, omega arith, tt, refl, refl)
    at_cut (suc zero) lb h out = absurd (cc)
    at_cut (suc (suc zero)) lb h out = absurd (cc)
    at_cut (suc (suc (suc b))) lb h out = absurd (omega arith)

    kept : (b : ℕ) → b < 3 → a_and_register b ≡ true → is_cut 3 (λ i. i) register_inside b ≡ false → CopiesDriver a_and_register plus_node (plus.driver b) (register_part.driver (plus_node b))
    kept zero lb h out = absurd (cc)
    kept (suc zero) lb h out = absurd (cc)
    kept (suc (suc zero)) lb h out = (
      refl,
      record {
        reads = reaches_both;
        value = λ v x same.
            (let e = same 2 (contains_head 2 (0 ∷ [])) in let f = same 0 (contains_tail 2 (0 ∷ []) 0 (contains_head 0 [])) in rw (e, f) refl);
      },
    )
    kept (suc (suc (suc b))) lb h out = absurd (omega arith)

    registers : (a b : ℕ) → a < 3 → b < 3 → a_and_register a ≡ true → a_and_register b ≡ true → is_register (register_part.driver (plus_node a)) ≡ true → plus_node a ≡ plus_node b → a ≡ b
    registers zero b la lb ha hb reg e = absurd (cc)
    registers (suc zero) b la lb ha hb reg e = absurd (cc)
    registers (suc (suc a)) zero la lb ha hb reg e = absurd (omega arith)
    registers (suc (suc a)) (suc zero) la lb ha hb reg e = absurd (cc)
    registers (suc (suc a)) (suc (suc b)) la lb ha hb reg e = omega arith

register_gate : Copies minus 3 (λ i. i) complements.inverted register_inside register_part (λ k. 0)
register_gate = record {
  reached = a_and_register;
  node = minus_node;
  nodes = nodes;
  at_cut = at_cut;
  kept = kept;
  registers = registers;
}
  where
    nodes : (b : ℕ) → b < 3 → a_and_register b ≡ true → minus_node b < 4
    nodes zero lb h = omega arith
    nodes (suc b) lb h = omega arith

    at_cut : (b : ℕ) → b < 3 → a_and_register b ≡ true → is_cut 3 (λ i. i) register_inside b ≡ true →
        (m : ℕ) × (m < 4) × IsInput (register_part.driver m) × (0 ≡ b) × IsSigned register_part false m (minus_node b)
    at_cut zero lb h out = (0, omega arith, tt, refl, refl)
    at_cut (suc zero) lb h out = absurd (cc)
    at_cut (suc (suc zero)) lb h out = absurd (cc)
    at_cut (suc (suc (suc b))) lb h out = absurd (omega arith)

    kept : (b : ℕ) → b < 3 → a_and_register b ≡ true → is_cut 3 (λ i. i) register_inside b ≡ false → CopiesDriver a_and_register minus_node (minus.driver b) (register_part.driver (minus_node b))
    kept zero lb h out = absurd (cc)
    kept (suc zero) lb h out = absurd (cc)
    kept (suc (suc zero)) lb h out = (
      refl,
      record {
        reads = reaches_both;
        value = λ v x same.
            (let e = same 2 (contains_head 2 (0 ∷ [])) in let f = same 0 (contains_tail 2 (0 ∷ []) 0 (contains_head 0 [])) in rw (e, f) refl);
      },
    )
    kept (suc (suc (suc b))) lb h out = absurd (omega arith)

    registers : (a b : ℕ) → a < 3 → b < 3 → a_and_register a ≡ true → a_and_register b ≡ true → is_register (register_part.driver (minus_node a)) ≡ true → minus_node a ≡ minus_node b → a ≡ b
    registers zero b la lb ha hb reg e = absurd (cc)
    registers (suc zero) b la lb ha hb reg e = absurd (cc)
    registers (suc (suc a)) zero la lb ha hb reg e = absurd (omega arith)
    registers (suc (suc a)) (suc zero) la lb ha hb reg e = absurd (cc)
    registers (suc (suc a)) (suc (suc b)) la lb ha hb reg e = omega arith

register_copying : Copying plus minus complements register_inside register_part
unfolding register_pinout register_gold register_gate
register_copying = record {
  pinout = register_pinout;
  gold = register_gold;
  gate = register_gate;
  apart = apart;
  gold_outputs = λ o lo. (refl, refl);
  gate_outputs = λ o lo. (refl, (λ x. refl));
  trim = register_trim;
}
  where
    apart : (a b : ℕ) → a < 3 → b < 3 → a_and_register a ≡ true → a_and_register b ≡ true → is_register (register_part.driver (plus_node a)) ≡ true → plus_node a ≡ minus_node b → ⊥
    apart zero b la lb ha hb reg e = cc
    apart (suc a) zero la lb ha hb reg e = omega arith
    apart (suc a) (suc b) la lb ha hb reg e = omega arith

pub register_denotes : Denotes plus minus complements register_inside register_part
register_denotes = copying_denotes plus minus complements register_inside register_part register_copying register_is (design_is toggle refl).drivers (design_is complement_toggle refl).drivers
    toggle_free complement_free complements_cover.one_to_one
