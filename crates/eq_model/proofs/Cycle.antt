-- One cycle of a loop-free system has exactly one solution, and it is reached by computing all bits again and again.
use Rattle.std.proofs.Common.{◌≡◌, ℕ, zero, suc, ◌<◌, ◌≤◌, Bool, true, cond, Contains, refl, arith, sym, ap, ◌∙◌, inl, inr}
use Rattle.std.proofs.lemmas.Bool.{cases_Bool, cond-true, cond-false}
use Rattle.eq_model.specs.System.{Values, Driver, input, undriven, equation, register, System, IsSystem, IsDriver, IsHeld, Meets, compute, reads_now, IsLoopFree, Cycle, rounds, HasOneCycle}
use Rattle.eq_model.proofs.Order.{settled, all_settled, passes, reads_bounded}

pub compute_same : (n : ℕ) (d : Driver) → IsDriver n d → (v w : Values) (x : Bool) → ((r : ℕ) → Contains (reads_now d) r → v r ≡ w r) → compute d v x ≡ compute d w x
compute_same n input h v w x agree = refl
compute_same n undriven h v w x agree = refl
compute_same n (equation e) h v w x agree = h.respects v w agree
compute_same n (register i e) h v w x agree = refl

compute-held : (d : Driver) (v : Values) (x : Bool) → IsHeld d → compute d v x ≡ x
compute-held input v x h = refl
compute-held undriven v x h = absurd h
compute-held (equation e) v x h = absurd h
compute-held (register i e) v x h = refl

meets_from : (d : Driver) (v : Values) (x y : Bool) → x ≡ compute d v y → Meets d v x
meets_from input v x y h = tt
meets_from undriven v x y h = h
meets_from (equation e) v x y h = h
meets_from (register i e) v x y h = tt

-- a solution has what the driver computes
from_meets : (d : Driver) (v : Values) (x y : Bool) → Meets d v x → (IsHeld d → x ≡ y) → x ≡ compute d v y
from_meets input v x y h held = held tt
from_meets undriven v x y h held = h
from_meets (equation e) v x y h held = h
from_meets (register i e) v x y h held = held tt

module _ (s : System) (cut : ℕ → Bool) (u : Values) where
  pub solution : (v : Values) → Cycle s cut u v → (b : ℕ) → b < s.bits → v b ≡ cond (cut b) (u b) (compute (s.driver b) v (u b))
  solution v h b lt =
      elim (cases_Bool (cut b)) [
        | inl e ↦ h.held b lt (inl e) ∙ sym (cond-true (cut b) (u b) (compute (s.driver b) v (u b)) e)
        | inr e ↦ from_meets (s.driver b) v (v b) (u b) (h.driven b lt e) (λ held. h.held b lt (inr held)) ∙ sym (cond-false (cut b) (u b) (compute (s.driver b) v (u b)) e)
      ]

  pub from_solution : (v : Values) → ((b : ℕ) → b < s.bits → v b ≡ cond (cut b) (u b) (compute (s.driver b) v (u b))) → Cycle s cut u v
  from_solution v h = record {
    held = λ b lt why. h b lt ∙ (elim (cases_Bool (cut b)) [
      | inl e ↦ cond-true (cut b) (u b) (compute (s.driver b) v (u b)) e
      | inr e ↦ cond-false (cut b) (u b) (compute (s.driver b) v (u b)) e ∙ (elim why [
        | inl f ↦ absurd (cc)
        | inr held ↦ compute-held (s.driver b) v (u b) held
      ])
    ]);
    driven = λ b lt e. meets_from (s.driver b) v (v b) (u b) (h b lt ∙ cond-false (cut b) (u b) (compute (s.driver b) v (u b)) e);
  }

  module _ (sound : IsSystem s) (loop_free : IsLoopFree s) where
    step_same : (v w : Values) (b : ℕ) → b < s.bits → ((r : ℕ) → r < s.bits → Contains (reads_now (s.driver b)) r → v r ≡ w r) →
        cond (cut b) (u b) (compute (s.driver b) v (u b)) ≡ cond (cut b) (u b) (compute (s.driver b) w (u b))
    step_same v w b lt agree = ap (cond (cut b) (u b)) (compute_same s.bits (s.driver b) (sound b lt) v w (u b)
        (λ r c. agree r (reads_bounded s.bits (s.driver b) (sound b lt) r c) c))

    settles : (k j b : ℕ) → b < s.bits → settled s k b ≡ true → k ≤ j → rounds s cut u j b ≡ rounds s cut u k b
    settles zero j b lt h le = absurd (cc)
    settles (suc k) zero b lt h le = absurd (omega arith)
    settles (suc k) (suc j) b lt h le = step_same (rounds s cut u j) (rounds s cut u k) b lt (λ r lr c.
        settles k j r lr (passes (settled s k) (reads_now (s.driver b)) h r c) (omega arith))

    same : (v w : Values) → Cycle s cut u v → Cycle s cut u w → (k b : ℕ) → b < s.bits → settled s k b ≡ true → v b ≡ w b
    same v w hv hw zero b lt h = absurd (cc)
    same v w hv hw (suc k) b lt h = solution v hv b lt ∙ step_same v w b lt (λ r lr c.
        same v w hv hw k r lr (passes (settled s k) (reads_now (s.driver b)) h r c)) ∙ sym (solution w hw b lt)

    pub rounds_solve : Cycle s cut u (rounds s cut u s.bits)
    rounds_solve = from_solution (rounds s cut u s.bits) (λ b lt. sym (settles s.bits (suc s.bits) b lt (all_settled s sound loop_free b lt) (omega arith)))

    pub one_cycle : HasOneCycle s cut u
    one_cycle = record {
      some = (rounds s cut u s.bits, rounds_solve);
      only = λ v w hv hw b lt. same v w hv hw s.bits b lt (all_settled s sound loop_free b lt);
    }
