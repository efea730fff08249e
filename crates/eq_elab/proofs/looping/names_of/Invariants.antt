use Rattle.std.proofs.Common.{◌≡◌, map, take}
use Rattle.eq_elab.specs.inner.Naming.{name_at}
use Rattle.eq_elab.proofs.looping.names_of.Given as goal

abbrev pub invariant-loop-bit : goal.invariant-loop-bit
invariant-loop-bit l = l.names ≡ map (name_at l.all) (take l.bit-index l.bits)
