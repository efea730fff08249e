use Rattle.std.proofs.Common.{refl}
use Rattle.std.specs.Fmt.{digits}
use Rattle.eq_verilog.proofs.examples.bit_refusals.drivers_refused.Goals as goal

pub returns-clause-upper : goal.returns-clause-upper
unfolding digits
returns-clause-upper c = refl
