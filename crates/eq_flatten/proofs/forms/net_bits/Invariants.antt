use Rattle.std.proofs.Common.{◌≡◌}
use Rattle.eq_flatten.specs.Forms as spec
use Rattle.eq_flatten.proofs.forms.net_bits.Given as goal

abbrev pub invariant-loop-bit : goal.invariant-loop-bit
invariant-loop-bit l = l.names ≡ spec.net_bits l.net l.first l.bit
