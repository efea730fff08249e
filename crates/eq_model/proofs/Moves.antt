-- What holds of values holds of others that agree on the bits.
use Rattle.std.proofs.Common.{◌≡◌, ℕ, suc, ◌<◌, Bool, arith, sym, subst, ◌∙◌, inr}
use Rattle.eq_model.specs.System.{Values, Driver, input, undriven, equation, register, IsSystem, IsDriver, IsHeld, IsInput, Meets, Begins, Follows, Cycle, nothing, Agree}
use Rattle.eq_model.specs.Run.{Design, Given, Run, key}
use Rattle.eq_model.proofs.Trace.{is_held}

-- a driver is met alike where the values agree

pub meets_move : (n : ℕ) (d : Driver) → IsDriver n d → (v w : Values) → ((r : ℕ) → r < n → v r ≡ w r) → (x y : Bool) → x ≡ y → Meets d v x → Meets d w y
meets_move n input h v w agree x y e m = tt
meets_move n undriven h v w agree x y e m = sym e ∙ m
meets_move n (equation f) h v w agree x y e m = sym e ∙ m ∙ h.respects v w (λ r c. agree r (h.bounded r c))
meets_move n (register i f) h v w agree x y e m = tt

pub follows_move : (n : ℕ) (d : Driver) → IsDriver n d → (v w : Values) → ((r : ℕ) → r < n → v r ≡ w r) → (x y : Bool) → x ≡ y → Follows d v x → Follows d w y
follows_move n input h v w agree x y e m = tt
follows_move n undriven h v w agree x y e m = tt
follows_move n (equation f) h v w agree x y e m = tt
follows_move n (register i f) h v w agree x y e m = sym e ∙ m ∙ h.respects v w (λ r c. agree r (h.bounded r c))

pub begins_move : (d : Driver) (x y : Bool) → x ≡ y → Begins d x → Begins d y
begins_move d x y e h = let P : Bool → Type 0 = λ z. Begins d z in subst P e h

pub run_move : (d : Design) → IsSystem d.system → (given : Given) (n : ℕ) (v w : ℕ → Values) → Agree d.system n v w → Run d given n v → Run d given n w
run_move d sound given n v w agree run = record {
  inputs = λ c b lc lb is. sym (agree c b lc lb) ∙ run.inputs c b lc lb is;
  begins = λ pos b lb kept. begins_move (d.driver b) (v 0 b) (w 0 b) (agree 0 b pos lb) (run.begins pos b lb kept);
  solves = record {
    now = λ c b lc lb kept. meets_move d.bits (d.driver b) (sound b lb) (v c) (w c) (λ r lr. agree c r lc lr) (v c b) (w c b) (agree c b lc lb) (run.solves.now c b lc lb kept);
    next = λ c b lc lb kept. follows_move d.bits (d.driver b) (sound b lb) (v c) (w c) (λ r lr. agree c r (omega arith) lr) (v (suc c) b) (w (suc c) b) (agree (suc c) b lc lb) (run.solves.next c b lc lb kept);
  };
}

-- what a register is to have, it has where the cycle holds it
follows_held : (d : Driver) (v : Values) (x y : Bool) → (IsHeld d → x ≡ y) → Follows d v y → Follows d v x
follows_held input v x y h f = tt
follows_held undriven v x y h f = tt
follows_held (equation e) v x y h f = tt
follows_held (register i e) v x y h f = h tt ∙ f

begins_held : (d : Driver) (x y : Bool) → (IsHeld d → x ≡ y) → Begins d y → Begins d x
begins_held input x y h f = tt
begins_held undriven x y h f = tt
begins_held (equation e) x y h f = tt
begins_held (register i e) x y h f = h tt ∙ f

-- cycles that are solved one after another, each from what the one before gives the registers, are a run
pub stepped : (d : Design) (given : Given) (n : ℕ) (u v : ℕ → Values) → ((c : ℕ) → c < n → Cycle d.system nothing (u c) (v c)) →
    ((c b : ℕ) → c < n → b < d.bits → IsInput (d.driver b) → u c b ≡ given c (key d b)) →
    (0 < n → (b : ℕ) → b < d.bits → Begins (d.driver b) (u 0 b)) →
    ((c b : ℕ) → suc c < n → b < d.bits → Follows (d.driver b) (v c) (u (suc c) b)) → Run d given n v
stepped d given n u v cycles inputs first next = record {
  inputs = λ c b lc lb is. (cycles c lc).held b lb (inr (is_held (d.driver b) is)) ∙ inputs c b lc lb is;
  begins = λ pos b lb kept. begins_held (d.driver b) (v 0 b) (u 0 b) (λ h. (cycles 0 pos).held b lb (inr h)) (first pos b lb);
  solves = record {
    now = λ c b lc lb kept. (cycles c lc).driven b lb kept;
    next = λ c b lc lb kept. follows_held (d.driver b) (v c) (v (suc c) b) (u (suc c) b) (λ h. (cycles (suc c) lc).held b lb (inr h)) (next c b lc lb);
  };
}
