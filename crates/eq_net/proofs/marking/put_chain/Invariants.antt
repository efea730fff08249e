use Rattle.std.proofs.Common.{◌≡◌, ℕ, length}
use Rattle.eq_model.specs.Frames.{values}
use Rattle.eq_model.specs.System.{IsHeld}
use Rattle.eq_net.specs.Net.{system_of}
use Rattle.eq_net.specs.Whole.{parts_of}
use Rattle.eq_net.specs.inner.Circuits.{IsSwept}
use Rattle.eq_net.proofs.marking.put_chain.Given as goal

abbrev pub invariant-loop : goal.invariant-loop
invariant-loop l = record {
  held : (k : ℕ) → IsHeld ((system_of (parts_of l.net)).driver k) → values l.now k ≡ values l.fn.now k;
  swept : IsSwept (parts_of l.net) l.fn.now l.fn.done.items l.words l.whole → IsSwept (parts_of l.net) l.now l.done.items l.words l.whole;
  size : length l.done.items ≡ length l.fn.done.items;
}
