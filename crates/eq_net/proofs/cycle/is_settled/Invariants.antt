use Rattle.std.proofs.Common.{◌≡◌, ℕ, ◌<◌}
use Rattle.eq_model.specs.Frames.{values}
use Rattle.eq_model.specs.System.{compute}
use Rattle.eq_net.specs.Net.{system_of}
use Rattle.eq_net.specs.Whole.{parts_of}
use Rattle.eq_net.proofs.cycle.is_settled.Given as goal

abbrev pub invariant-loop-b : goal.invariant-loop-b
invariant-loop-b l = (k : ℕ) → k < l.b → values l.now k ≡ compute ((system_of (parts_of l.net)).driver k) (values l.now) (values l.now k)
