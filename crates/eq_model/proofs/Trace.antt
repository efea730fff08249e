-- Over any number of cycles a loop-free system has exactly one trace, and so a design exactly one run.
use Rattle.std.proofs.Common.{◌≡◌, ℕ, zero, suc, ◌<◌, Bool, true, false, cond, refl, arith, sym, ap, ◌∙◌, ◌⊎◌, inl, inr}
use Rattle.std.proofs.lemmas.Bool.{cases_Bool, cond-true, cond-false}
use Rattle.eq_model.specs.System.{Values, Driver, input, undriven, equation, register, System, IsSystem, IsDriver, IsHeld, IsInput, Meets, Begins, Follows, IsLoopFree, Solves, IsInitial, Agree, Cycle, rounds, nothing}
use Rattle.eq_model.specs.Run.{Design, Given, Run, HasOneRun, key}
use Rattle.eq_model.proofs.Cycle.{rounds_solve, one_cycle}

-- v solves n cycles: the inputs and the cut bits have the values of u in each cycle, and the registers in the first
pub record Trace (s : System) (cut : ℕ → Bool) (u : ℕ → Values) (n : ℕ) (v : ℕ → Values) : Type 0 where
  pub held : (c b : ℕ) → c < n → b < s.bits → (cut b ≡ true) ⊎ IsInput (s.driver b) → v c b ≡ u c b
  pub state : 0 < n → (b : ℕ) → b < s.bits → cut b ≡ false → IsHeld (s.driver b) → v 0 b ≡ u 0 b
  pub solves : Solves s cut n v

pub record HasOneTrace (s : System) (cut : ℕ → Bool) (u : ℕ → Values) (n : ℕ) : Type 0 where
  pub some : (v : ℕ → Values) × Trace s cut u n v
  pub only : (v w : ℕ → Values) → Trace s cut u n v → Trace s cut u n w → Agree s n v w

-- the same, but registers begin at their initial values
pub record InitialTrace (s : System) (cut : ℕ → Bool) (u : ℕ → Values) (n : ℕ) (v : ℕ → Values) : Type 0 where
  pub held : (c b : ℕ) → c < n → b < s.bits → (cut b ≡ true) ⊎ IsInput (s.driver b) → v c b ≡ u c b
  pub begins : 0 < n → IsInitial s cut (v 0)
  pub solves : Solves s cut n v

pub record HasOneInitialTrace (s : System) (cut : ℕ → Bool) (u : ℕ → Values) (n : ℕ) : Type 0 where
  pub some : (v : ℕ → Values) × InitialTrace s cut u n v
  pub only : (v w : ℕ → Values) → InitialTrace s cut u n v → InitialTrace s cut u n w → Agree s n v w

-- what a driver holds in the first cycle, where an input has the value x
abbrev pub first : Driver → Bool → Bool
first input x = x
first undriven x = x
first (equation e) x = x
first (register i e) x = i

-- what a driver holds in the cycle after one with the values v
abbrev pub after : Driver → Values → Bool → Bool
after input v x = x
after undriven v x = x
after (equation e) v x = x
after (register i e) v x = e.value v

begins_from : (d : Driver) (x y : Bool) → (IsHeld d → x ≡ first d y) → Begins d x
begins_from input x y h = tt
begins_from undriven x y h = tt
begins_from (equation e) x y h = tt
begins_from (register i e) x y h = h tt

follows_from : (d : Driver) (v : Values) (x y : Bool) → (IsHeld d → x ≡ after d v y) → Follows d v x
follows_from input v x y h = tt
follows_from undriven v x y h = tt
follows_from (equation e) v x y h = tt
follows_from (register i e) v x y h = h tt

pub is_held : (d : Driver) → IsInput d → IsHeld d
is_held input h = tt
is_held undriven h = h
is_held (equation e) h = h
is_held (register i e) h = absurd h

cond_same : (x y : Bool) → cond x y y ≡ y
cond_same true y = refl
cond_same false y = refl

first-input : (d : Driver) (x : Bool) → IsInput d → first d x ≡ x
first-input input x h = refl
first-input undriven x h = refl
first-input (equation e) x h = refl
first-input (register i e) x h = absurd h

after-input : (d : Driver) (v : Values) (x : Bool) → IsInput d → after d v x ≡ x
after-input input v x h = refl
after-input undriven v x h = refl
after-input (equation e) v x h = refl
after-input (register i e) v x h = absurd h

follows_same : (n : ℕ) (d : Driver) → IsDriver n d → (v w : Values) → ((r : ℕ) → r < n → v r ≡ w r) → (x y : Bool) → Follows d v x → Follows d w y → (IsInput d → x ≡ y) → IsHeld d → x ≡ y
follows_same n input h v w agree x y hx hy same held = same tt
follows_same n undriven h v w agree x y hx hy same held = absurd held
follows_same n (equation e) h v w agree x y hx hy same held = absurd held
follows_same n (register i e) h v w agree x y hx hy same held = hx ∙ h.respects v w (λ r c. agree r (h.bounded r c)) ∙ sym hy

module _ (s : System) (cut : ℕ → Bool) (u : ℕ → Values) where
  -- what a cycle is given after one with the values v
  abbrev pub given_after : ℕ → Values → Values
  given_after c v b = cond (cut b) (u c b) (after (s.driver b) v (u c b))

  abbrev pub trace : ℕ → Values
  trace zero = rounds s cut (u 0) s.bits
  trace (suc c) = rounds s cut (given_after (suc c) (trace c)) s.bits

  module _ (sound : IsSystem s) (loop_free : IsLoopFree s) where
    at_first : Cycle s cut (u 0) (trace 0)
    at_first = rounds_solve s cut (u 0) sound loop_free

    at_next : (c : ℕ) → Cycle s cut (given_after (suc c) (trace c)) (trace (suc c))
    at_next c = rounds_solve s cut (given_after (suc c) (trace c)) sound loop_free

    meets : (c b : ℕ) → b < s.bits → cut b ≡ false → Meets (s.driver b) (trace c) (trace c b)
    meets zero b lt kept = at_first.driven b lt kept
    meets (suc c) b lt kept = (at_next c).driven b lt kept

    held : (c b : ℕ) → b < s.bits → (cut b ≡ true) ⊎ IsInput (s.driver b) → trace c b ≡ u c b
    held zero b lt (inl e) = at_first.held b lt (inl e)
    held zero b lt (inr h) = at_first.held b lt (inr (is_held (s.driver b) h))
    held (suc c) b lt (inl e) = (at_next c).held b lt (inl e) ∙ cond-true (cut b) (u (suc c) b) (after (s.driver b) (trace c) (u (suc c) b)) e
    held (suc c) b lt (inr h) = (at_next c).held b lt (inr (is_held (s.driver b) h)) ∙ ap (cond (cut b) (u (suc c) b)) (after-input (s.driver b) (trace c) (u (suc c) b) h) ∙ cond_same (cut b) (u (suc c) b)

    follows : (c b : ℕ) → b < s.bits → cut b ≡ false → Follows (s.driver b) (trace c) (trace (suc c) b)
    follows c b lt kept = follows_from (s.driver b) (trace c) (trace (suc c) b) (u (suc c) b) (λ h.
        (at_next c).held b lt (inr h) ∙ cond-false (cut b) (u (suc c) b) (after (s.driver b) (trace c) (u (suc c) b)) kept)

    pub is_trace : (n : ℕ) → Trace s cut u n trace
    is_trace n = record {
      held = λ c b lc lt why. held c b lt why;
      state = λ pos b lt kept h. at_first.held b lt (inr h);
      solves = record {
        now = λ c b lc lt kept. meets c b lt kept;
        next = λ c b lc lt kept. follows c b lt kept;
      };
    }

    module _ (n : ℕ) (v w : ℕ → Values) (hv : Trace s cut u n v) (hw : Trace s cut u n w) where
      itself : (c : ℕ) → c < n → Cycle s cut (v c) (v c)
      itself c lc = record { held = λ b lt why. refl; driven = λ b lt kept. hv.solves.now c b lc lt kept }

      inputs_same : (c : ℕ) → c < n → (b : ℕ) → b < s.bits → IsInput (s.driver b) → w c b ≡ v c b
      inputs_same c lc b lt h = hw.held c b lc lt (inr h) ∙ sym (hv.held c b lc lt (inr h))

      -- where the bits that a cycle holds are the same, all are
      other : (c : ℕ) → c < n → ((b : ℕ) → b < s.bits → cut b ≡ false → IsHeld (s.driver b) → w c b ≡ v c b) → Cycle s cut (v c) (w c)
      other c lc same = record {
        held = λ b lt why. elim (cases_Bool (cut b)) [
          | inl e ↦ hw.held c b lc lt (inl e) ∙ sym (hv.held c b lc lt (inl e))
          | inr kept ↦ (elim why [ inl e ↦ absurd (cc) | inr h ↦ same b lt kept h ])
        ];
        driven = λ b lt kept. hw.solves.now c b lc lt kept;
      }

      agree : (c : ℕ) → c < n → (b : ℕ) → b < s.bits → v c b ≡ w c b
      agree zero lc b lt = (one_cycle s cut (v 0) sound loop_free).only (v 0) (w 0) (itself 0 lc)
          (other 0 lc (λ a la kept h. hw.state lc a la kept h ∙ sym (hv.state lc a la kept h))) b lt
      agree (suc c) lc b lt = (one_cycle s cut (v (suc c)) sound loop_free).only (v (suc c)) (w (suc c)) (itself (suc c) lc)
          (other (suc c) lc (λ a la kept h. follows_same s.bits (s.driver a) (sound a la) (w c) (v c) (λ r lr. sym (agree c (omega arith) r lr))
          (w (suc c) a) (v (suc c) a) (hw.solves.next c a lc la kept) (hv.solves.next c a lc la kept) (inputs_same (suc c) lc a la) h)) b lt

    pub one_trace : (n : ℕ) → HasOneTrace s cut u n
    one_trace n = record {
      some = (trace, is_trace n);
      only = λ v w hv hw c b lc lt. agree n v w hv hw c lc b lt;
    }

-- from initial values

first-begins : (d : Driver) (x y : Bool) → Begins d x → (IsInput d → x ≡ y) → IsHeld d → x ≡ first d y
first-begins input x y h same held = same tt
first-begins undriven x y h same held = absurd held
first-begins (equation e) x y h same held = absurd held
first-begins (register i e) x y h same held = h

module _ (s : System) (cut : ℕ → Bool) (u : ℕ → Values) where
  -- u with the registers' initial values
  abbrev pub with_initial : ℕ → Values
  with_initial c b = cond (cut b) (u c b) (first (s.driver b) (u c b))

  with_initial-at : (c b : ℕ) → (cut b ≡ true) ⊎ IsInput (s.driver b) → with_initial c b ≡ u c b
  with_initial-at c b (inl e) = cond-true (cut b) (u c b) (first (s.driver b) (u c b)) e
  with_initial-at c b (inr h) = ap (cond (cut b) (u c b)) (first-input (s.driver b) (u c b) h) ∙ cond_same (cut b) (u c b)

  to_initial : (n : ℕ) (v : ℕ → Values) → Trace s cut with_initial n v → InitialTrace s cut u n v
  to_initial n v h = record {
    held = λ c b lc lt why. h.held c b lc lt why ∙ with_initial-at c b why;
    begins = λ pos b lt kept. begins_from (s.driver b) (v 0 b) (u 0 b) (λ held.
        h.state pos b lt kept held ∙ cond-false (cut b) (u 0 b) (first (s.driver b) (u 0 b)) kept);
    solves = h.solves;
  }

  from_initial : (n : ℕ) (v : ℕ → Values) → InitialTrace s cut u n v → Trace s cut with_initial n v
  from_initial n v h = record {
    held = λ c b lc lt why. h.held c b lc lt why ∙ sym (with_initial-at c b why);
    state = λ pos b lt kept held.
        first-begins (s.driver b) (v 0 b) (u 0 b) (h.begins pos b lt kept) (λ is. h.held 0 b pos lt (inr is)) held
        ∙ sym (cond-false (cut b) (u 0 b) (first (s.driver b) (u 0 b)) kept);
    solves = h.solves;
  }

  module _ (sound : IsSystem s) (loop_free : IsLoopFree s) where
    pub one_initial_trace : (n : ℕ) → HasOneInitialTrace s cut u n
    one_initial_trace n =
        let h = one_trace s cut with_initial sound loop_free n in
        record {
          some = (h.some.0, to_initial n h.some.0 h.some.1);
          only = λ v w hv hw. h.only v w (from_initial n v hv) (from_initial n w hw);
        }

    -- one trace for every number of cycles
    abbrev pub initial_trace : ℕ → Values
    initial_trace = trace s cut with_initial

    pub is_initial_trace : (n : ℕ) → InitialTrace s cut u n initial_trace
    is_initial_trace n = to_initial n initial_trace (is_trace s cut with_initial sound loop_free n)

-- the inputs of a run, by bit
abbrev pub by_bit : Design → Given → ℕ → Values
by_bit d given c b = given c (key d b)

pub run_is_trace : (d : Design) (given : Given) (n : ℕ) (v : ℕ → Values) → Run d given n v → InitialTrace d.system nothing (by_bit d given) n v
run_is_trace d given n v run = record {
  held = λ c b lc lt why. elim why [ inl e ↦ absurd (cc) | inr h ↦ run.inputs c b lc lt h ];
  begins = run.begins;
  solves = run.solves;
}

pub trace_is_run : (d : Design) (given : Given) (n : ℕ) (v : ℕ → Values) → InitialTrace d.system nothing (by_bit d given) n v → Run d given n v
trace_is_run d given n v h = record {
  inputs = λ c b lc lt is. h.held c b lc lt (inr is);
  begins = h.begins;
  solves = h.solves;
}

pub one_run : (d : Design) → IsSystem d.system → IsLoopFree d.system → (given : Given) (n : ℕ) → HasOneRun d given n
one_run d sound loop_free given n =
    let h = one_initial_trace d.system nothing (by_bit d given) sound loop_free n in
    record {
      some = (h.some.0, trace_is_run d given n h.some.0 h.some.1);
      only = λ v w hv hw. h.only v w (run_is_trace d given n v hv) (run_is_trace d given n w hw);
    }
