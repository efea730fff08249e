-- Examples with registers.
use Rattle.std.proofs.Common.{◌≡◌, ℕ, zero, suc, ◌<◌, ◌≤◌, Bool, true, false, not, ◌&&◌, ◌==◌, [], ◌∷◌, refl, arith, sym, ap, subst, ◌∙◌}
use Rattle.std.proofs.lemmas.Bool.{false_from_ne_true}
use Rattle.std.proofs.lemmas.Bool.Decides.{Decides-eqb}
use Rattle.eq_model.specs.System.{Values, System, IsLoopFree, Meets, Follows, Solves, nothing}
use Rattle.eq_model.specs.Run.{Equivalent}
use Rattle.eq_model.specs.Plan.{Covers, gate_value}
use Rattle.eq_model.specs.Cut.{is_cut, CutRun, IsFromInitial, Same, Base, Step, Never}
use Rattle.eq_model.specs.Kind.{fail, proved, deep, GoesOn, IsKind}
use Rattle.eq_model.specs.Table.{exclusive_or, design}
use Rattle.eq_model.specs.Examples.{counter, silence, output_only, gated, gated_silence, ports_only, feedback, toggle, complement_toggle, register_pair, complements, not_complements}
use Rattle.eq_model.proofs.Induction.{never}
use Rattle.eq_model.proofs.Composition.{equivalent}
use Rattle.eq_model.proofs.Tables.{design_is, design_is_free, IsComplete, plan_covers}
use Rattle.eq_model.proofs.Witness.{refuted, initial_v, initial_w, base_shown, free_v, free_w, step_shown, one_pair, never_one, no_base, one_same}

and_low : (a b : Bool) → a ≡ false → (a && b) ≡ false
and_low a b e = rw e refl

-- a counter

abbrev count : System
count = (design counter).system

abbrev silent : System
silent = (design silence).system

pub counter_free : IsLoopFree count
counter_free = design_is_free counter (1 ∷ 0 ∷ 0 ∷ []) refl refl

silence_free : IsLoopFree silent
silence_free = design_is_free silence (0 ∷ []) refl refl

abbrev output : ℕ → Bool
output = output_only.holds 0

-- no output is outside
none_outside : (P : ℕ → Type 0) (i : ℕ) → i < 1 → output i ≡ false → P i
none_outside P zero li out = absurd (cc)
none_outside P (suc i) li out = absurd (omega arith)

counter_third : Base count silent output_only output 3
counter_third = base_shown count silent (design_is counter refl).drivers (design_is silence refl).drivers counter_free silence_free output_only output (λ c. nothing) (λ c. nothing) 2
    (λ c i lc li out. none_outside (λ i. initial_v count silent (design_is counter refl).drivers (design_is silence refl).drivers counter_free silence_free output_only output (λ c. nothing) (λ c. nothing) c i
    ≡ gate_value output_only i (initial_w count silent (design_is counter refl).drivers (design_is silence refl).drivers counter_free silence_free output_only output (λ c. nothing) (λ c. nothing) c)) i li out)
    (0, omega arith, refl, (λ e. cc))

counter_first : Base count silent output_only output 1 → ⊥
counter_first b = one_same output_only output 0 (one_pair 0) (b.v 0) (b.w 0)
    (b.run.gold_solves.now 0 0 (omega arith) (omega arith) refl ∙ and_low (b.v 0 2) (not (b.v 0 1)) (b.initial.gold_begins 2 (omega arith) refl)
    ∙ sym (b.run.gate_solves.now 0 0 (omega arith) (omega arith) refl)) b.differ

counter_second : Base count silent output_only output 2 → ⊥
counter_second b =
    let one = b.initial.gold_begins 1 (omega arith) refl in
    let two = b.initial.gold_begins 2 (omega arith) refl in
    let e : exclusive_or (b.v 0 2) (b.v 0 1) ≡ false = rw (two, one) refl in
    one_same output_only output 0 (one_pair 0) (b.v 1) (b.w 1)
    (b.run.gold_solves.now 1 0 (omega arith) (omega arith) refl ∙ and_low (b.v 1 2) (not (b.v 1 1)) (b.run.gold_solves.next 0 2 (omega arith) (omega arith) refl ∙ e)
    ∙ sym (b.run.gate_solves.now 1 0 (omega arith) (omega arith) refl)) b.differ

-- the counter from given values of its bits
abbrev counted : (ℕ → Values) → ℕ → Values
counted u = free_v count silent (design_is counter refl).drivers (design_is silence refl).drivers counter_free silence_free output_only output u (λ c. nothing)

abbrev silenced : (ℕ → Values) → ℕ → Values
silenced u = free_w count silent (design_is counter refl).drivers (design_is silence refl).drivers counter_free silence_free output_only output u (λ c. nothing)

abbrev at_one : ℕ → Values
at_one c b = b == 1

abbrev at_zero : ℕ → Values
at_zero c b = false

counter_step_one : Step count silent output_only output 1
counter_step_one = step_shown count silent (design_is counter refl).drivers (design_is silence refl).drivers counter_free silence_free output_only output at_one (λ c. nothing) 1
    (λ c i lc li out. none_outside (λ i. counted at_one c i ≡ gate_value output_only i (silenced at_one c)) i li out) same (0, omega arith, refl, (λ e. cc))
  where
    same : (c : ℕ) → c < 1 → Same output_only output (counted at_one c) (silenced at_one c)
    same zero lc zero li is = refl
    same zero lc (suc i) li is = absurd (omega arith)
    same (suc c) lc i li is = absurd (omega arith)

counter_step_two : Step count silent output_only output 2
counter_step_two = step_shown count silent (design_is counter refl).drivers (design_is silence refl).drivers counter_free silence_free output_only output at_zero (λ c. nothing) 2
    (λ c i lc li out. none_outside (λ i. counted at_zero c i ≡ gate_value output_only i (silenced at_zero c)) i li out) same (0, omega arith, refl, (λ e. cc))
  where
    same : (c : ℕ) → c < 2 → Same output_only output (counted at_zero c) (silenced at_zero c)
    same zero lc zero li is = refl
    same zero lc (suc i) li is = absurd (omega arith)
    same (suc zero) lc zero li is = refl
    same (suc zero) lc (suc i) li is = absurd (omega arith)
    same (suc (suc c)) lc i li is = absurd (omega arith)

counter_goes_on : GoesOn (Base count silent output_only output) (Step count silent output_only output) 3
counter_goes_on zero lj lt = absurd (omega arith)
counter_goes_on (suc zero) lj lt = (counter_first, counter_step_one)
counter_goes_on (suc (suc zero)) lj lt = (counter_second, counter_step_two)
counter_goes_on (suc (suc (suc j))) lj lt = absurd (omega arith)

pub counter_fails : (depth : ℕ) → 3 ≤ depth → IsKind (Base count silent output_only output) (Step count silent output_only output) depth (fail 3)
counter_fails depth le = (omega arith, le, counter_goes_on, counter_third)

pub counter_deep : IsKind (Base count silent output_only output) (Step count silent output_only output) 2 deep
counter_deep = counter_goes_on

pub counter_differs : Equivalent (design counter) (design silence) → ⊥
counter_differs = refuted (design counter) (design silence) (design_is counter refl).drivers (design_is silence refl).drivers counter_free silence_free
    (λ c k. false) 2 0 0 (omega arith) (omega arith) refl refl refl (λ e. cc)

-- a register that stays

abbrev stay : System
stay = (design gated).system

abbrev stay_silent : System
stay_silent = (design gated_silence).system

pub gated_never : Never stay stay_silent ports_only (ports_only.holds 0)
gated_never = never_one stay stay_silent ports_only (ports_only.holds 0) 1 (one_pair 1) (λ n v w run begins c lc.
    run.gold_solves.now c 1 lc (omega arith) refl ∙ and_low (v c 2) (v c 0) (stays n v w run begins c lc) ∙ sym (run.gate_solves.now c 1 lc (omega arith) refl))
  where
    stays : (n : ℕ) (v w : ℕ → Values) → CutRun stay stay_silent ports_only (ports_only.holds 0) n v w → IsFromInitial stay stay_silent ports_only (ports_only.holds 0) v w →
        (c : ℕ) → c < n → v c 2 ≡ false
    stays n v w run begins zero lc = begins.gold_begins 2 (omega arith) refl
    stays n v w run begins (suc c) lc = run.gold_solves.next c 2 lc (omega arith) refl ∙ stays n v w run begins c (omega arith)

-- the register is 1, and x is 1 in cycle k alone
abbrev raised : ℕ → ℕ → Values
raised k c zero = c == k
raised k c (suc zero) = c == k
raised k c (suc (suc b)) = true

abbrev unraised : ℕ → ℕ → Values
unraised k c zero = c == k
unraised k c (suc b) = false

gated_step : (k : ℕ) → Step stay stay_silent ports_only (ports_only.holds 0) k
gated_step k = record {
  v = raised k;
  w = unraised k;
  run = record {
    some = omega arith;
    gold_solves = record { now = λ c b lc lb kept. gold_now c b lb; next = λ c b lc lb kept. gold_next c b lb };
    gate_solves = record { now = λ c b lc lb kept. gate_now c b lb; next = λ c b lc lb kept. gate_next c b lb };
    equal = λ c i lc li out. equal c i li out;
  };
  same = same;
  differ = (1, omega arith, refl, (λ e. let f : (k == k) ≡ true = (Decides-eqb k k).1 refl in cc));
}
  where
    gold_now : (c b : ℕ) → b < 3 → Meets (stay.driver b) (raised k c) (raised k c b)
    gold_now c zero lb = tt
    gold_now c (suc zero) lb = refl
    gold_now c (suc (suc zero)) lb = tt
    gold_now c (suc (suc (suc b))) lb = absurd (omega arith)

    gold_next : (c b : ℕ) → b < 3 → Follows (stay.driver b) (raised k c) (raised k (suc c) b)
    gold_next c zero lb = tt
    gold_next c (suc zero) lb = tt
    gold_next c (suc (suc zero)) lb = refl
    gold_next c (suc (suc (suc b))) lb = absurd (omega arith)

    gate_now : (c b : ℕ) → b < 2 → Meets (stay_silent.driver b) (unraised k c) (unraised k c b)
    gate_now c zero lb = tt
    gate_now c (suc zero) lb = refl
    gate_now c (suc (suc b)) lb = absurd (omega arith)

    gate_next : (c b : ℕ) → b < 2 → Follows (stay_silent.driver b) (unraised k c) (unraised k (suc c) b)
    gate_next c zero lb = tt
    gate_next c (suc zero) lb = tt
    gate_next c (suc (suc b)) lb = absurd (omega arith)

    equal : (c i : ℕ) → i < 2 → ports_only.holds 0 i ≡ false → raised k c i ≡ unraised k c i
    equal c zero li out = refl
    equal c (suc zero) li out = absurd (cc)
    equal c (suc (suc i)) li out = absurd (omega arith)

    same : (c : ℕ) → c < k → Same ports_only (ports_only.holds 0) (raised k c) (unraised k c)
    same c lc zero li is = absurd (cc)
    same c lc (suc zero) li is = false_from_ne_true (c == k) (λ e. let f : c ≡ k = (Decides-eqb c k).0 e in omega arith)
    same c lc (suc (suc i)) li is = absurd (omega arith)

pub gated_deep : (depth : ℕ) → IsKind (Base stay stay_silent ports_only (ports_only.holds 0)) (Step stay stay_silent ports_only (ports_only.holds 0)) depth deep
gated_deep depth j lj lt = (no_base stay stay_silent ports_only (ports_only.holds 0) gated_never j, gated_step j)

-- a register whose next value takes two cycles to be seen

abbrev shift : System
shift = (design feedback).system

feedback_free : IsLoopFree shift
feedback_free = design_is_free feedback (1 ∷ 0 ∷ 0 ∷ []) refl refl

feedback_first : Base shift shift output_only output 1 → ⊥
feedback_first b = one_same output_only output 0 (one_pair 0) (b.v 0) (b.w 0)
    (b.run.gold_solves.now 0 0 (omega arith) (omega arith) refl ∙ b.initial.gold_begins 1 (omega arith) refl
    ∙ sym (b.run.gate_solves.now 0 0 (omega arith) (omega arith) refl ∙ b.initial.gate_begins 1 (omega arith) refl)) b.differ

feedback_second : Base shift shift output_only output 2 → ⊥
feedback_second b = one_same output_only output 0 (one_pair 0) (b.v 1) (b.w 1)
    (b.run.gold_solves.now 1 0 (omega arith) (omega arith) refl ∙ b.run.gold_solves.next 0 1 (omega arith) (omega arith) refl ∙ b.initial.gold_begins 2 (omega arith) refl
    ∙ sym (b.run.gate_solves.now 1 0 (omega arith) (omega arith) refl ∙ b.run.gate_solves.next 0 1 (omega arith) (omega arith) refl ∙ b.initial.gate_begins 2 (omega arith) refl)) b.differ

-- t is 1 on one side alone
abbrev only_t : ℕ → Values
only_t c b = b == 2

abbrev shifted : ℕ → Values
shifted = free_v shift shift (design_is feedback refl).drivers (design_is feedback refl).drivers feedback_free feedback_free output_only output only_t (λ c. nothing)

abbrev other_shifted : ℕ → Values
other_shifted = free_w shift shift (design_is feedback refl).drivers (design_is feedback refl).drivers feedback_free feedback_free output_only output only_t (λ c. nothing)

feedback_step_one : Step shift shift output_only output 1
feedback_step_one = step_shown shift shift (design_is feedback refl).drivers (design_is feedback refl).drivers feedback_free feedback_free output_only output only_t (λ c. nothing) 1
    (λ c i lc li out. none_outside (λ i. shifted c i ≡ gate_value output_only i (other_shifted c)) i li out) same (0, omega arith, refl, (λ e. cc))
  where
    same : (c : ℕ) → c < 1 → Same output_only output (shifted c) (other_shifted c)
    same zero lc zero li is = refl
    same zero lc (suc i) li is = absurd (omega arith)
    same (suc c) lc i li is = absurd (omega arith)

-- the third value follows from the first two
feedback_third : (side : ℕ → ℕ) (v : ℕ → Values) → is_cut 1 side output 0 ≡ false → is_cut 1 side output 1 ≡ false → is_cut 1 side output 2 ≡ false →
    Solves shift (is_cut 1 side output) 3 v → v 2 0 ≡ exclusive_or (v 1 0) (v 0 0)
feedback_third side v kept_y kept_s kept_t h =
    let s_zero : v 0 0 ≡ v 0 1 = h.now 0 0 (omega arith) (omega arith) kept_y in
    let s_one : v 1 0 ≡ v 1 1 = h.now 1 0 (omega arith) (omega arith) kept_y in
    let t_zero : v 1 1 ≡ v 0 2 = h.next 0 1 (omega arith) (omega arith) kept_s in
    let e : exclusive_or (v 0 2) (v 0 1) ≡ exclusive_or (v 1 0) (v 0 0) = rw (s_zero, s_one, t_zero) refl in
    h.now 2 0 (omega arith) (omega arith) kept_y ∙ h.next 1 1 (omega arith) (omega arith) kept_s ∙ h.next 0 2 (omega arith) (omega arith) kept_t ∙ e

feedback_step_two : Step shift shift output_only output 2 → ⊥
feedback_step_two b =
    let first : b.v 0 0 ≡ b.w 0 0 = b.same 0 (omega arith) 0 (omega arith) refl in
    let second : b.v 1 0 ≡ b.w 1 0 = b.same 1 (omega arith) 0 (omega arith) refl in
    let e : exclusive_or (b.v 1 0) (b.v 0 0) ≡ exclusive_or (b.w 1 0) (b.w 0 0) = rw (first, second) refl in
    one_same output_only output 0 (one_pair 0) (b.v 2) (b.w 2)
    (feedback_third (λ i. i) b.v refl refl refl b.run.gold_solves ∙ e ∙ sym (feedback_third (λ i. i) b.w refl refl refl b.run.gate_solves)) b.differ

feedback_goes_on : GoesOn (Base shift shift output_only output) (Step shift shift output_only output) 2
feedback_goes_on zero lj lt = absurd (omega arith)
feedback_goes_on (suc zero) lj lt = (feedback_first, feedback_step_one)
feedback_goes_on (suc (suc j)) lj lt = absurd (omega arith)

pub feedback_proved : (depth : ℕ) → 2 ≤ depth → IsKind (Base shift shift output_only output) (Step shift shift output_only output) depth (proved 2)
feedback_proved depth le = (omega arith, le, feedback_goes_on, feedback_second, feedback_step_two)

pub feedback_deep : IsKind (Base shift shift output_only output) (Step shift shift output_only output) 1 deep
feedback_deep = feedback_goes_on

-- an inverted pair

abbrev plus : System
plus = (design toggle).system

abbrev minus : System
minus = (design complement_toggle).system

pub toggle_free : IsLoopFree plus
toggle_free = design_is_free toggle (0 ∷ 1 ∷ 0 ∷ []) refl refl

pub complement_free : IsLoopFree minus
complement_free = design_is_free complement_toggle (0 ∷ 1 ∷ 0 ∷ []) refl refl

complete_complements : IsComplete toggle complement_toggle 3 register_pair ((1 ∷ []) ∷ (2 ∷ []) ∷ [])
complete_complements = record { gold_size = refl; gate_size = refl; gold_ports = refl; gate_ports = refl; sides = refl; signs = refl; ones = refl; pairs = refl; some = refl }

pub complements_cover : Covers (design toggle) (design complement_toggle) complements
complements_cover = plan_covers toggle complement_toggle 3 register_pair ((1 ∷ []) ∷ (2 ∷ []) ∷ []) complete_complements

registers_base : Base plus minus complements (complements.holds 1) 1 → ⊥
registers_base b =
    let w = b.initial.gate_begins 2 (omega arith) refl in
    let e : false ≡ not (b.w 0 2) = rw w refl in
    one_same complements (complements.holds 1) 2 (one_pair 2) (b.v 0) (b.w 0) (b.initial.gold_begins 2 (omega arith) refl ∙ e) b.differ

exclusive_not : (a b : Bool) → exclusive_or (not a) b ≡ not (exclusive_or a b)
exclusive_not true true = refl
exclusive_not true false = refl
exclusive_not false true = refl
exclusive_not false false = refl

registers_step : Step plus minus complements (complements.holds 1) 1 → ⊥
registers_step b =
    let before : b.v 0 2 ≡ not (b.w 0 2) = b.same 0 (omega arith) 2 (omega arith) refl in
    let inputs : b.v 0 0 ≡ b.w 0 0 = b.run.equal 0 0 (omega arith) (omega arith) refl in
    let e : exclusive_or (b.v 0 2) (b.v 0 0) ≡ exclusive_or (not (b.w 0 2)) (b.w 0 0) = rw (before, inputs) refl in
    one_same complements (complements.holds 1) 2 (one_pair 2) (b.v 1) (b.w 1)
    (b.run.gold_solves.next 0 2 (omega arith) (omega arith) refl ∙ e ∙ exclusive_not (b.w 0 2) (b.w 0 0) ∙ ap not (sym (b.run.gate_solves.next 0 2 (omega arith) (omega arith) refl))) b.differ

pub registers_proved : (depth : ℕ) → 1 ≤ depth → IsKind (Base plus minus complements (complements.holds 1)) (Step plus minus complements (complements.holds 1)) depth (proved 1)
registers_proved depth le = (omega arith, le, (λ j lj lt. absurd (omega arith)), registers_base, registers_step)

complements_never : (q : ℕ) → q < 2 → Never plus minus complements (complements.holds q)
complements_never zero lq = never_one plus minus complements (complements.holds 0) 1 (one_pair 1) (λ n v w run begins c lc.
    run.gold_solves.now c 1 lc (omega arith) refl ∙ run.equal c 2 lc (omega arith) refl ∙ sym (run.gate_solves.now c 1 lc (omega arith) refl))
complements_never (suc zero) lq = never plus minus complements (complements.holds 1) 1
    (λ j lj le b. let e : j ≡ 1 = omega arith in let P : ℕ → Type 0 = λ k. Base plus minus complements (complements.holds 1) k in registers_base (subst P e b)) registers_step
complements_never (suc (suc q)) lq = absurd (omega arith)

pub complements_equivalent : Equivalent (design toggle) (design complement_toggle)
complements_equivalent = equivalent (design toggle) (design complement_toggle) complements (design_is toggle refl) (design_is complement_toggle refl) complement_free complements_cover complements_never toggle_free

pub plain_registers_fail : Base plus minus not_complements (not_complements.holds 1) 1
plain_registers_fail = base_shown plus minus (design_is toggle refl).drivers (design_is complement_toggle refl).drivers toggle_free complement_free not_complements (not_complements.holds 1) (λ c. nothing) (λ c. nothing) 0
    equal (2, omega arith, refl, (λ e. cc))
  where
    equal : (c i : ℕ) → c < 1 → i < 3 → not_complements.holds 1 i ≡ false →
        initial_v plus minus (design_is toggle refl).drivers (design_is complement_toggle refl).drivers toggle_free complement_free not_complements (not_complements.holds 1) (λ c. nothing) (λ c. nothing) c i
        ≡ gate_value not_complements i (initial_w plus minus (design_is toggle refl).drivers (design_is complement_toggle refl).drivers toggle_free complement_free not_complements (not_complements.holds 1) (λ c. nothing) (λ c. nothing) c)
    equal zero zero lc li out = refl
    equal zero (suc zero) lc li out = refl
    equal zero (suc (suc zero)) lc li out = absurd (cc)
    equal zero (suc (suc (suc i))) lc li out = absurd (omega arith)
    equal (suc c) i lc li out = absurd (omega arith)
