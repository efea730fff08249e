-- Rounds over all bits of a system without a loop settle the bits, from the lowest heights up.
use Rattle.std.proofs.Common.{◌≡◌, ℕ, ◌+◌, ◌<◌, Bool, Contains, refl, arith, sym, ◌∙◌, inl, inr}
use Rattle.eq_model.specs.System.{Values, Driver, input, undriven, equation, register, System, IsSystem, IsDriver, IsHeld, Reads, reads_now, Meets, compute, Cycle, nothing}

-- each bit stands above the bits that it reads within a cycle
abbrev pub IsHeight : System → (ℕ → ℕ) → Type 0
IsHeight s height = (a b : ℕ) → a < s.bits → Reads s a b → height b < height a

-- what a driver computes depends on what it reads, and where it is held on the value held
compute_same : (bits : ℕ) (d : Driver) → IsDriver bits d → (v w : Values) (x y : Bool) → ((r : ℕ) → Contains (reads_now d) r → v r ≡ w r) → (IsHeld d → x ≡ y) → compute d v x ≡ compute d w y
compute_same bits input is v w x y agree held = held tt
compute_same bits undriven is v w x y agree held = refl
compute_same bits (equation e) is v w x y agree held = is.respects v w agree
compute_same bits (register i e) is v w x y agree held = held tt

reads_below : (bits : ℕ) (d : Driver) → IsDriver bits d → (r : ℕ) → Contains (reads_now d) r → r < bits
reads_below bits input is r c = (let lt : c.0 < 0 = c.1 in absurd (omega arith))
reads_below bits undriven is r c = (let lt : c.0 < 0 = c.1 in absurd (omega arith))
reads_below bits (equation e) is r c = is.bounded r c
reads_below bits (register i e) is r c = (let lt : c.0 < 0 = c.1 in absurd (omega arith))

computes : (d : Driver) (v : Values) (x : Bool) → Meets d v x → compute d v x ≡ x
computes input v x m = refl
computes undriven v x m = sym m
computes (equation e) v x m = sym m
computes (register i e) v x m = refl

meets : (d : Driver) (v : Values) (x y : Bool) → x ≡ compute d v y → Meets d v x
meets input v x y e = tt
meets undriven v x y e = e
meets (equation e) v x y m = m
meets (register i e) v x y m = tt

holds : (d : Driver) (v : Values) (x : Bool) → IsHeld d → compute d v x ≡ x
holds input v x h = refl
holds undriven v x h = absurd h
holds (equation e) v x h = absurd h
holds (register i e) v x h = refl

module _ (s : System) (is : IsSystem s) (u : Values) where
  -- a round keeps what is held
  pub held_next : (v w : Values) → ((b : ℕ) → b < s.bits → IsHeld (s.driver b) → v b ≡ u b) → ((b : ℕ) → b < s.bits → w b ≡ compute (s.driver b) v (v b)) →
      (b : ℕ) → b < s.bits → IsHeld (s.driver b) → w b ≡ u b
  held_next v w held round b lt h = round b lt ∙ holds (s.driver b) v (v b) h ∙ held b lt h

  -- a round settles the bits of one more height
  pub settled_next : (v w z : Values) → ((b : ℕ) → b < s.bits → IsHeld (s.driver b) → v b ≡ u b) → ((b : ℕ) → b < s.bits → w b ≡ compute (s.driver b) v (v b)) →
      Cycle s nothing u z → (height : ℕ → ℕ) → IsHeight s height → (k : ℕ) → ((b : ℕ) → b < s.bits → height b < k → v b ≡ z b) →
      (b : ℕ) → b < s.bits → height b < k + 1 → w b ≡ z b
  settled_next v w z held round cycle height above k settled b lt low =
      round b lt
      ∙ compute_same s.bits (s.driver b) (is b lt) v z (v b) (z b)
      (λ r c. settled r (reads_below s.bits (s.driver b) (is b lt) r c) (let less = above b r lt c in omega arith))
      (λ h. held b lt h ∙ sym (cycle.held b lt (inr h)))
      ∙ computes (s.driver b) z (z b) (cycle.driven b lt refl)

  -- values that a round leaves alone solve the cycle
  pub still : (v w : Values) → ((b : ℕ) → b < s.bits → IsHeld (s.driver b) → v b ≡ u b) → ((b : ℕ) → b < s.bits → w b ≡ compute (s.driver b) v (v b)) →
      ((b : ℕ) → b < s.bits → w b ≡ v b) → (x : Values) → ((b : ℕ) → b < s.bits → x b ≡ w b) → Cycle s nothing u x
  still v w held round same x is_w = record {
    held = λ b lt which. elim which [ inl cut ↦ absurd (cc) | inr h ↦ is_w b lt ∙ same b lt ∙ held b lt h ];
    driven = λ b lt uncut. meets (s.driver b) x (x b) (v b) (
        is_w b lt ∙ round b lt ∙ compute_same s.bits (s.driver b) (is b lt) v x (v b) (v b)
        (λ r c. (let below = reads_below s.bits (s.driver b) (is b lt) r c in sym (is_w r below ∙ same r below))) (λ h. refl));
  }

  -- the values of a solution are a solution
  pub same_cycle : (z x : Values) → Cycle s nothing u z → ((b : ℕ) → b < s.bits → x b ≡ z b) → Cycle s nothing u x
  same_cycle z x cycle same = record {
    held = λ b lt which. same b lt ∙ cycle.held b lt which;
    driven = λ b lt uncut. meets (s.driver b) x (x b) (z b) (
        same b lt ∙ sym (computes (s.driver b) z (z b) (cycle.driven b lt refl))
        ∙ compute_same s.bits (s.driver b) (is b lt) z x (z b) (z b)
        (λ r c. sym (same r (reads_below s.bits (s.driver b) (is b lt) r c))) (λ h. refl));
  }
