-- Designs that aren't equivalent.
use Rattle.std.proofs.Common.{◌≡◌, ℕ, zero, suc, ◌<◌, Bool, true, false, not, ◌&&◌, ◌==◌, [], ◌∷◌, refl, arith, sym, ◌∙◌, inr}
use Rattle.eq_model.specs.System.{Values, IsInput, IsLoopFree, Meets, Begins, Follows}
use Rattle.eq_model.specs.Nets.{is_input, Key}
use Rattle.eq_model.specs.Run.{IsDesign, dir, Given, Run, HasOneRun, SameOutputs, Equivalent}
use Rattle.eq_model.specs.Combinational.{IsCombinational, SameValues}
use Rattle.eq_model.specs.Table.{exclusive_or, design}
use Rattle.eq_model.specs.Examples.{silence, gated_silence}
use Rattle.eq_model.specs.EquivalenceExamples.{inner_silence, own_negation, change, ring_inside, differing, two_silenced, collided, input_net}
use Rattle.eq_model.proofs.Order.{contains_head}
use Rattle.eq_model.proofs.Combinational.{same_outputs}
use Rattle.eq_model.proofs.Tables.{design_is, design_is_free}
use Rattle.eq_model.proofs.Refuted.{port_lacks}
use Rattle.eq_model.proofs.Witness.{refuted}

-- ports that differ

pub ports_same : SameOutputs (design gated_silence) (design inner_silence)
ports_same given n v w hv hw c zero b lc la lb da db same = absurd (cc)
ports_same given n v w hv hw c (suc zero) zero lc la lb da db same = absurd (cc)
ports_same given n v w hv hw c (suc zero) (suc zero) lc la lb da db same = hv.solves.now c 1 lc (omega arith) refl
    ∙ sym (hw.solves.now c 1 lc (omega arith) refl)
ports_same given n v w hv hw c (suc zero) (suc (suc b)) lc la lb da db same = absurd (omega arith)
ports_same given n v w hv hw c (suc (suc a)) b lc la lb da db same = absurd (omega arith)

no_input : (b : ℕ) → b < 2 → dir (design inner_silence) b ≡ is_input → ⊥
no_input zero lb e = cc
no_input (suc zero) lb e = cc
no_input (suc (suc b)) lb e = absurd (omega arith)

pub gold_port_more : Equivalent (design gated_silence) (design inner_silence) → ⊥
gold_port_more e = port_lacks (design gated_silence) (design inner_silence) 0 (omega arith) tt (λ b lb d k. no_input b lb d) e.gold_ports

pub gate_port_more : Equivalent (design inner_silence) (design gated_silence) → ⊥
gate_port_more e = port_lacks (design gated_silence) (design inner_silence) 0 (omega arith) tt (λ b lb d k. no_input b lb d) e.gate_ports

-- a bit that is its own negation

no_complement : (x : Bool) → x ≡ not x → ⊥
no_complement true e = cc
no_complement false e = cc

pub negation_alone : Equivalent (design own_negation) (design own_negation) → ⊥
negation_alone e =
    let r = (e.gold_run (λ c k. false) 1).some in
    no_complement (r.0 0 0) (r.1.solves.now 0 0 (omega arith) (omega arith) refl)

-- an output of a change

same_bits : (x y : Bool) → x ≡ y → exclusive_or x y ≡ false
same_bits true true e = refl
same_bits true false e = absurd (cc)
same_bits false y e = sym e

and_right : (x y : Bool) → y ≡ false → (x && y) ≡ false
and_right true y e = e
and_right false y e = refl

and_left : (x y : Bool) → x ≡ false → (x && y) ≡ false
and_left x y e = rw e refl

module _ (fixed : Key → Bool) (n : ℕ) (v : ℕ → Values) (run : Run (design change) (λ c. fixed) n v) where
  no_change : (c : ℕ) → c < n → v c 1 ≡ false
  no_change zero lc = run.solves.now 0 1 lc (omega arith) refl
      ∙ and_left (v 0 3) (exclusive_or (v 0 2) (v 0 0)) (run.begins lc 3 (omega arith) refl)
  no_change (suc c) lc =
      let before = run.solves.next c 2 lc (omega arith) refl ∙ run.inputs c 0 (omega arith) (omega arith) tt in
      let now = run.inputs (suc c) 0 lc (omega arith) tt in
      run.solves.now (suc c) 1 lc (omega arith) refl
      ∙ and_right (v (suc c) 3) (exclusive_or (v (suc c) 2) (v (suc c) 0)) (same_bits (v (suc c) 2) (v (suc c) 0) (before ∙ sym now))

pub steady : (fixed : Key → Bool) (n : ℕ) (v w : ℕ → Values) → Run (design change) (λ c. fixed) n v →
    Run (design gated_silence) (λ c. fixed) n w → (c : ℕ) → c < n → v c 1 ≡ w c 1
steady fixed n v w hv hw c lc = no_change fixed n v hv c lc ∙ sym (hw.solves.now c 1 lc (omega arith) refl)

pub change_differs : Equivalent (design change) (design gated_silence) → ⊥
change_differs = refuted (design change) (design gated_silence) (design_is change refl).drivers (design_is gated_silence refl).drivers
    (design_is_free change (0 ∷ 1 ∷ 0 ∷ 0 ∷ []) refl refl) (design_is_free gated_silence (0 ∷ 0 ∷ []) refl refl)
    (λ c k. c == 1) 1 1 1 (omega arith) (omega arith) refl refl refl (λ e. cc)

-- a ring beside an output

pub ring_looped : IsLoopFree (design ring_inside).system → ⊥
ring_looped free = free 1 (2 ∷ []) (omega arith) (contains_head 2 [], contains_head 1 [])

-- both bits of the ring have the value x
abbrev ringed : Bool → ℕ → Values
ringed x c zero = false
ringed x c (suc b) = x

ring_run : (given : Given) (n : ℕ) (x : Bool) → Run (design ring_inside) given n (ringed x)
ring_run given n x = record {
  inputs = λ c b lc lb is. absurd (none b lb is);
  begins = λ pos b lb kept. starts b lb;
  solves = record { now = λ c b lc lb kept. settles c b lb; next = λ c b lc lb kept. follows c b lb };
}
  where
    none : (b : ℕ) → b < 3 → IsInput ((design ring_inside).driver b) → ⊥
    none zero lb h = h
    none (suc zero) lb h = h
    none (suc (suc zero)) lb h = h
    none (suc (suc (suc b))) lb h = absurd (omega arith)

    starts : (b : ℕ) → b < 3 → Begins ((design ring_inside).driver b) (ringed x 0 b)
    starts zero lb = tt
    starts (suc zero) lb = tt
    starts (suc (suc zero)) lb = tt
    starts (suc (suc (suc b))) lb = absurd (omega arith)

    settles : (c b : ℕ) → b < 3 → Meets ((design ring_inside).driver b) (ringed x c) (ringed x c b)
    settles c zero lb = refl
    settles c (suc zero) lb = refl
    settles c (suc (suc zero)) lb = refl
    settles c (suc (suc (suc b))) lb = absurd (omega arith)

    follows : (c b : ℕ) → b < 3 → Follows ((design ring_inside).driver b) (ringed x c) (ringed x (suc c) b)
    follows c zero lb = tt
    follows c (suc zero) lb = tt
    follows c (suc (suc zero)) lb = tt
    follows c (suc (suc (suc b))) lb = absurd (omega arith)

two_runs : HasOneRun (design ring_inside) (λ c k. false) 1 → ⊥
two_runs one = (
    let given : Given = λ c k. false in
    let e : true ≡ false = one.only (ringed true) (ringed false) (ring_run given 1 true) (ring_run given 1 false) 0 1 (omega arith) (omega arith) in
    cc)

pub ring_gold : Equivalent (design ring_inside) (design silence) → ⊥
ring_gold e = two_runs (e.gold_run (λ c k. false) 1)

pub ring_gate : Equivalent (design silence) (design ring_inside) → ⊥
ring_gate e = two_runs (e.gate_run (λ c k. false) 1)

pub ring_same : SameOutputs (design ring_inside) (design silence)
ring_same given n v w hv hw c zero zero lc la lb da db same = hv.solves.now c 0 lc (omega arith) refl
    ∙ sym (hw.solves.now c 0 lc (omega arith) refl)
ring_same given n v w hv hw c zero (suc b) lc la lb da db same = absurd (omega arith)
ring_same given n v w hv hw c (suc zero) b lc la lb da db same = absurd (cc)
ring_same given n v w hv hw c (suc (suc zero)) b lc la lb da db same = absurd (cc)
ring_same given n v w hv hw c (suc (suc (suc a))) b lc la lb da db same = absurd (omega arith)

-- two inputs of one name

plain_differing : IsCombinational (collided differing)
plain_differing zero lb = tt
plain_differing (suc zero) lb = tt
plain_differing (suc (suc zero)) lb = tt
plain_differing (suc (suc (suc b))) lb = absurd (omega arith)

plain_silenced : IsCombinational (collided two_silenced)
plain_silenced zero lb = tt
plain_silenced (suc zero) lb = tt
plain_silenced (suc (suc zero)) lb = tt
plain_silenced (suc (suc (suc b))) lb = absurd (omega arith)

collided_values : SameValues (collided differing) (collided two_silenced)
collided_values given v w hv hw zero b la lb da db k = absurd (cc)
collided_values given v w hv hw (suc zero) b la lb da db k = absurd (cc)
collided_values given v w hv hw (suc (suc zero)) zero la lb da db k = absurd (cc)
collided_values given v w hv hw (suc (suc zero)) (suc zero) la lb da db k = absurd (cc)
collided_values given v w hv hw (suc (suc zero)) (suc (suc zero)) la lb da db k =
    hv.driven 2 (omega arith) refl ∙ same_bits (v 0) (v 1) (hv.held 0 (omega arith) (inr tt)
    ∙ sym (hv.held 1 (omega arith) (inr tt))) ∙ sym (hw.driven 2 (omega arith) refl)
collided_values given v w hv hw (suc (suc zero)) (suc (suc (suc b))) la lb da db k = absurd (omega arith)
collided_values given v w hv hw (suc (suc (suc a))) b la lb da db k = absurd (omega arith)

pub collided_same : SameOutputs (collided differing) (collided two_silenced)
collided_same = same_outputs (collided differing) (collided two_silenced) plain_differing plain_silenced collided_values

pub collided_refused : IsDesign (collided differing) → ⊥
collided_refused is = is.names 0 1 input_net (omega arith) (omega arith) refl

pub collided_unequal : Equivalent (collided differing) (collided two_silenced) → ⊥
collided_unequal e = collided_refused e.gold_design
