use Rattle.std.proofs.Common.{◌≡◌, ◌++◌, drop}
use Rattle.eq_marks.specs.inner.Taking.{output_flags}
use Rattle.eq_marks.proofs.taking.output_flags.Given as goal

abbrev pub invariant-loop-net : goal.invariant-loop-net
invariant-loop-net l = l.flags.items ++ output_flags (drop l.net-index l.nets) ≡ output_flags l.nets
