use Rattle.std.proofs.Common.{◌≡◌, length}
use Rattle.eq_registers.specs.inner.Choosing.{IsGathered}
use Rattle.eq_registers.proofs.choosing.gather.Given as goal

abbrev pub invariant-loop-place : goal.invariant-loop-place
invariant-loop-place l =
    (length l.table ≡ length l.firsts)
    × IsGathered l.condition l.number l.firsts l.fn.table l.table l.ones l.others l.place
