-- Parts that don't denote a partition. Each is refused by one run, or by the pairs that its inputs and outputs stand for.
use Rattle.std.proofs.Common.{◌≡◌, ℕ, zero, suc, ◌<◌, true, false, not, List, [], ◌∷◌, Contains, refl, arith, sym, ap, ◌∙◌, inl, inr}
use Rattle.eq_model.specs.System.{Values, System, Meets, IsInitial, reads_ever}
use Rattle.eq_model.specs.Plan.{gate_value}
use Rattle.eq_model.specs.Cut.{is_cut, CutRun, IsFromInitial}
use Rattle.eq_model.specs.Part.{LeadsTo}
use Rattle.eq_model.specs.Table.{design, DenotesPartition}
use Rattle.eq_model.specs.Examples.{toggle, complement_toggle, complements}
use Rattle.eq_model.specs.PlanExamples.{input_first}
use Rattle.eq_model.specs.PartExamples.{idle_part, input_without_node, output_twice, no_output, other_input, input_is_output, negation_plan, begun_high}
use Rattle.eq_model.proofs.Witness.{one_pair}

abbrev plus : System
plus = (design toggle).system

abbrev minus : System
minus = (design complement_toggle).system

-- an idle node

stays_below : (a : ℕ) (cs : List ℕ) (b : ℕ) → a < 4 → LeadsTo idle_part a cs b → b < 4
stays_below a [] b la e = (let f : a ≡ b = e in omega arith)
stays_below a (c ∷ cs) b la h = stays_below c cs b (step a c la h.0) h.1
  where
    one : (x c : ℕ) → Contains (x ∷ []) c → x < 4 → c < 4
    one x c (zero, lt, e) lx = (let f : x ≡ c = e in omega arith)
    one x c (suc k, lt, e) lx = absurd (omega arith)

    step : (a c : ℕ) → a < 4 → Contains (reads_ever (idle_part.driver a)) c → c < 4
    step zero c la (k, lt, e) = absurd (omega arith)
    step (suc zero) c la h = one 0 c h (omega arith)
    step (suc (suc zero)) c la h = one 0 c h (omega arith)
    step (suc (suc (suc zero))) c la h = one 2 c h (omega arith)
    step (suc (suc (suc (suc a)))) c la h = absurd (omega arith)

pub idle_refused : DenotesPartition toggle complement_toggle complements 0 idle_part → ⊥
idle_refused d =
    let t = d.trim.reached 4 (omega arith) in
    elim t.3 [
      | inl l ↦ (let lt : 4 < 4 = stays_below 1 t.1 4 (omega arith) l in omega arith)
      | inr l ↦ (let lt : 4 < 4 = stays_below 3 t.1 4 (omega arith) l in omega arith)
    ]

-- inputs and outputs

pub nameless_refused : DenotesPartition toggle complement_toggle complements 0 input_without_node → ⊥
nameless_refused d = (let t = d.trim.named 1 (omega arith) in let e : ◌≡◌ {A = ℕ} 0 1 = t.3 in omega arith)

pub twice_refused : DenotesPartition toggle complement_toggle complements 0 output_twice → ⊥
twice_refused d =
    let out : ℕ → ℕ = d.pinout.output_pair in
    let first : out 0 ≡ 1 = one_pair 1 (out 0) (d.pinout.within 0 (omega arith)).1 in
    let second : out 1 ≡ 1 = one_pair 1 (out 1) (d.pinout.within 1 (omega arith)).1 in
    let e : ◌≡◌ {A = ℕ} 0 1 = d.pinout.once 0 1 (omega arith) (omega arith) (first ∙ sym second) in
    omega arith

pub left_out_refused : DenotesPartition toggle complement_toggle complements 0 no_output → ⊥
left_out_refused d = (let t = d.pinout.each 1 (omega arith) refl in let lt : t.0 < 0 = t.1 in omega arith)

-- an input that isn't its pair

-- all of gold is 1
abbrev high : ℕ → Values
high c b = true

-- gate's register is 0
abbrev m_low : ℕ → Values
m_low c zero = true
m_low c (suc zero) = true
m_low c (suc (suc b)) = false

high_run : CutRun plus minus complements (complements.holds 0) 1 high m_low
high_run = record {
  some = omega arith;
  gold_solves = record { now = λ c b lc lb kept. gold_now c b lb; next = λ c b lc lb kept. absurd (omega arith) };
  gate_solves = record { now = λ c b lc lb kept. gate_now c b lb; next = λ c b lc lb kept. absurd (omega arith) };
  equal = λ c i lc li out. same c i li out;
}
  where
    gold_now : (c b : ℕ) → b < 3 → Meets (plus.driver b) (high c) (high c b)
    gold_now c zero lb = tt
    gold_now c (suc zero) lb = refl
    gold_now c (suc (suc zero)) lb = tt
    gold_now c (suc (suc (suc b))) lb = absurd (omega arith)

    gate_now : (c b : ℕ) → b < 3 → Meets (minus.driver b) (m_low c) (m_low c b)
    gate_now c zero lb = tt
    gate_now c (suc zero) lb = refl
    gate_now c (suc (suc zero)) lb = tt
    gate_now c (suc (suc (suc b))) lb = absurd (omega arith)

    same : (c i : ℕ) → i < 3 → complements.holds 0 i ≡ false → high c i ≡ gate_value complements i (m_low c)
    same c zero li out = refl
    same c (suc zero) li out = absurd (cc)
    same c (suc (suc zero)) li out = refl
    same c (suc (suc (suc i))) li out = absurd (omega arith)

pub input_refused : DenotesPartition toggle complement_toggle complements 0 other_input → ⊥
input_refused d =
    let r = d.part_run 1 high m_low high_run in
    let fits = r.3 in
    let given_high : r.0 0 0 ≡ true = fits.inputs 0 0 (omega arith) (omega arith) in
    let node_high : r.1 0 0 ≡ true = r.2.inputs 0 0 (omega arith) (omega arith) tt ∙ given_high in
    let output_low : r.1 0 1 ≡ false = r.2.solves.now 0 1 (omega arith) (omega arith) refl ∙ ap not node_high in
    let output_high : r.1 0 1 ≡ true = fits.gold_outputs 0 0 (omega arith) (omega arith) in
    let e : true ≡ false = sym output_high ∙ output_low in
    cc

-- an input that is the output

-- a is 1, and y is 0
abbrev a_high : ℕ → Values
a_high c zero = true
a_high c (suc b) = false

negation_run : CutRun (design input_first).system (design input_first).system negation_plan (negation_plan.holds 0) 1 a_high a_high
negation_run = record {
  some = omega arith;
  gold_solves = record { now = λ c b lc lb kept. meets c b lb; next = λ c b lc lb kept. absurd (omega arith) };
  gate_solves = record { now = λ c b lc lb kept. meets c b lb; next = λ c b lc lb kept. absurd (omega arith) };
  equal = λ c i lc li out. refl;
}
  where
    meets : (c b : ℕ) → b < 2 → Meets ((design input_first).driver b) (a_high c) (a_high c b)
    meets c zero lb = tt
    meets c (suc zero) lb = refl
    meets c (suc (suc b)) lb = absurd (omega arith)

only_a : (i : ℕ) → i < 2 → negation_plan.holds 0 i ≡ false → i ≡ 0
only_a zero lt out = refl
only_a (suc zero) lt out = absurd (cc)
only_a (suc (suc i)) lt out = absurd (omega arith)

pub own_output_refused : DenotesPartition input_first input_first negation_plan 0 input_is_output → ⊥
own_output_refused d =
    let r = d.part_run 1 a_high a_high negation_run in
    let fits = r.3 in
    let outside = d.pinout.outside 0 (omega arith) in
    let in_pair : d.pinout.input_pair 0 ≡ 0 = only_a (d.pinout.input_pair 0) outside.0 outside.1 in
    let out_pair : d.pinout.output_pair 0 ≡ 1 =
    one_pair 1 (d.pinout.output_pair 0) (d.pinout.within 0 (omega arith)).1 in
    let node_high : r.1 0 0 ≡ true = r.2.inputs 0 0 (omega arith) (omega arith) tt
    ∙ fits.inputs 0 0 (omega arith) (omega arith) ∙ ap (a_high 0) in_pair in
    let node_low : r.1 0 0 ≡ false = fits.gold_outputs 0 0 (omega arith) (omega arith) ∙ ap (a_high 0) out_pair in
    let e : true ≡ false = sym node_high ∙ node_low in
    cc

-- another initial value

-- all of gold is 0
abbrev silent : ℕ → Values
silent c b = false

-- gate's register is 1
abbrev m_high : ℕ → Values
m_high c zero = false
m_high c (suc zero) = false
m_high c (suc (suc b)) = true

begun_run : CutRun plus minus complements (complements.holds 1) 1 silent m_high
begun_run = record {
  some = omega arith;
  gold_solves = record { now = λ c b lc lb kept. gold_now c b lb kept; next = λ c b lc lb kept. absurd (omega arith) };
  gate_solves = record { now = λ c b lc lb kept. gate_now c b lb kept; next = λ c b lc lb kept. absurd (omega arith) };
  equal = λ c i lc li out. same c i li out;
}
  where
    gold_now : (c b : ℕ) → b < 3 → is_cut 3 (λ i. i) (complements.holds 1) b ≡ false →
        Meets (plus.driver b) (silent c) (silent c b)
    gold_now c zero lb kept = tt
    gold_now c (suc zero) lb kept = absurd (cc)
    gold_now c (suc (suc zero)) lb kept = tt
    gold_now c (suc (suc (suc b))) lb kept = absurd (omega arith)

    gate_now : (c b : ℕ) → b < 3 → is_cut 3 (λ i. i) (complements.holds 1) b ≡ false →
        Meets (minus.driver b) (m_high c) (m_high c b)
    gate_now c zero lb kept = tt
    gate_now c (suc zero) lb kept = absurd (cc)
    gate_now c (suc (suc zero)) lb kept = tt
    gate_now c (suc (suc (suc b))) lb kept = absurd (omega arith)

    same : (c i : ℕ) → i < 3 → complements.holds 1 i ≡ false → silent c i ≡ gate_value complements i (m_high c)
    same c zero li out = refl
    same c (suc zero) li out = refl
    same c (suc (suc zero)) li out = absurd (cc)
    same c (suc (suc (suc i))) li out = absurd (omega arith)

begun_initial : IsFromInitial plus minus complements (complements.holds 1) silent m_high
begun_initial = record { gold_begins = gold_begins; gate_begins = gate_begins }
  where
    gold_begins : IsInitial plus (is_cut 3 (λ i. i) (complements.holds 1)) (silent 0)
    gold_begins zero lb kept = tt
    gold_begins (suc zero) lb kept = tt
    gold_begins (suc (suc zero)) lb kept = refl
    gold_begins (suc (suc (suc b))) lb kept = absurd (omega arith)

    gate_begins : IsInitial minus (is_cut 3 (λ i. i) (complements.holds 1)) (m_high 0)
    gate_begins zero lb kept = tt
    gate_begins (suc zero) lb kept = tt
    gate_begins (suc (suc zero)) lb kept = refl
    gate_begins (suc (suc (suc b))) lb kept = absurd (omega arith)

pub initial_refused : DenotesPartition toggle complement_toggle complements 1 begun_high → ⊥
initial_refused d =
    let r = d.part_run_initial 1 silent m_high begun_run begun_initial in
    let high : r.1 0 1 ≡ true = r.3 1 (omega arith) refl in
    let low : r.1 0 1 ≡ false = r.4.gold_outputs 0 0 (omega arith) (omega arith) in
    let e : true ≡ false = sym high ∙ low in
    cc
