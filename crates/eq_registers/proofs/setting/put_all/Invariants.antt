use Rattle.std.proofs.Common.{◌≡◌, ℕ, Option, length}
use Rattle.eq_flatten.specs.Driving.{AreWired}
use Rattle.eq_registers.specs.inner.Writing.{IsWritten}
use Rattle.eq_registers.proofs.setting.put_all.Given as goal

abbrev pub invariant-loop-at : goal.invariant-loop-at
invariant-loop-at l =
    (length l.table ≡ length l.fn.table)
    × ((f : ℕ → Option ℕ) → AreWired l.starts l.bits f → IsWritten l.keys.bits f l.word l.fn.table l.table l.at)
