use Rattle.std.proofs.Common.{refl}
use Rattle.std.specs.Fmt.{digits}
use Rattle.eq_verilog.proofs.examples.bit_refusals.bits_refused.Goals as goal

pub returns-clause-half_begun : goal.returns-clause-half_begun
unfolding digits
returns-clause-half_begun c = refl
