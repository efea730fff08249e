use Rattle.std.proofs.Common.{ℕ, List, Option, All}
use Rattle.eq_net.specs.declared.types.NetInfo.{NetInfo}
use Rattle.eq_net.specs.Net.{HasBit}
use Rattle.eq_flatten.specs.Equating.{AreNumbered, AreStarts}
use Rattle.eq_registers.specs.Collecting.{IsKeyed}
use Rattle.eq_registers.specs.inner.Adding.{IsAdded, stands}
use Rattle.eq_registers.proofs.collecting.add_bits.Given as goal

abbrev pub invariant-loop-at : goal.invariant-loop-at
invariant-loop-at l =
    (nets : List NetInfo) (f : ℕ → Option ℕ) → IsKeyed nets l.fn.keys → All (HasBit nets) l.bits →
    AreStarts nets l.starts → AreNumbered nets l.bits f → IsAdded nets l.fn.keys l.keys (stands f l.at)
