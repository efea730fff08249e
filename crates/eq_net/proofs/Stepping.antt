-- Steps from the initial values are a run.
use Rattle.std.proofs.Common.{◌≡◌, ℕ, suc, ◌<◌, List, Bool, arith, sym, subst}
use Rattle.eq_model.specs.Frames.{values}
use Rattle.eq_model.specs.Run.{Design, Given, Run, key}
use Rattle.eq_model.specs.System.{Values, Cycle, IsInput, Begins, Follows, nothing}
use Rattle.eq_net.specs.Cycles.{AreSteps}
use Rattle.eq_net.specs.Held.{held_bits}
use Rattle.eq_net.specs.Net.{IsNet, Parts, design_of, driver_at}
use Rattle.eq_net.proofs.Designed.{from_outside}
use Rattle.eq_net.proofs.Registers.{begins, follows}

module _ (steps : (d : Design) (given : Given) (n : ℕ) (u v : ℕ → Values) → ((c : ℕ) → c < n → Cycle d.system nothing (u c) (v c)) →
    ((c b : ℕ) → c < n → b < d.bits → IsInput (d.driver b) → u c b ≡ given c (key d b)) →
    (0 < n → (b : ℕ) → b < d.bits → Begins (d.driver b) (u 0 b)) →
    ((c b : ℕ) → suc c < n → b < d.bits → Follows (d.driver b) (v c) (u (suc c) b)) → Run d given n v) where
  pub steps_run : (n : Parts) → IsNet n → (given : Given) (cycles : ℕ) (states inputs bits : ℕ → List Bool) → AreSteps n given cycles states inputs bits →
      Run (design_of n) given cycles (λ c. values (bits c))
  steps_run n is given cycles states inputs bits are =
      steps (design_of n) given cycles (λ c. values (held_bits n.drivers (states c) (inputs c))) (λ c. values (bits c))
      (λ c lt. (are.each c lt).cycle)
      (λ c b lt lb h. are.given_inputs c b lt lb (from_outside n.nets n.words (driver_at n b) h))
      (λ lt b lb. (
      let P : List Bool → Type 0 = λ s. Begins ((design_of n).driver b) (values (held_bits n.drivers s (inputs 0)) b) in
      subst P (sym are.first) (begins n.nets n.words n.drivers (inputs 0) b)))
      (λ c b lt lb. (
      let P : List Bool → Type 0 = λ s. Follows ((design_of n).driver b) (values (bits c)) (values (held_bits n.drivers s (inputs (suc c))) b) in
      let e = (are.each c (omega arith)).next in
      subst P (sym e) (follows n.nets n.words (values (bits c)) n.drivers (inputs (suc c)) b)))
