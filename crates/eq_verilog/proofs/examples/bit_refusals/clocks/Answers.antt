use Rattle.std.proofs.Common.{refl}
use Rattle.std.specs.Fmt.{digits}
use Rattle.eq_verilog.proofs.examples.bit_refusals.clocks.Goals as goal

pub returns-clause-wide : goal.returns-clause-wide
unfolding digits
returns-clause-wide c = refl
