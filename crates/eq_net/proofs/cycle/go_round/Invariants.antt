use Rattle.std.proofs.Common.{◌≡◌, ℕ, ◌<◌}
use Rattle.eq_model.specs.Frames.{values}
use Rattle.eq_model.specs.System.{Values, Cycle, IsHeld, nothing}
use Rattle.eq_net.specs.Net.{system_of}
use Rattle.eq_net.specs.Whole.{parts_of}
use Rattle.eq_net.proofs.Rounds.{IsHeight}
use Rattle.eq_net.proofs.cycle.go_round.Given as goal

abbrev pub invariant-loop : goal.invariant-loop
invariant-loop l =
    let s = system_of (parts_of l.net) in
    record {
      held : (b : ℕ) → b < s.bits → IsHeld (s.driver b) → values l.now b ≡ values l.fn.now b;
      settled : (v : Values) → Cycle s nothing (values l.fn.now) v → (height : ℕ → ℕ) → IsHeight s height →
          (b : ℕ) → b < s.bits → height b < l.counter → values l.now b ≡ v b;
    }
