use Rattle.std.proofs.Common.{refl}
use Rattle.std.specs.Fmt.{digits}
use Rattle.eq_verilog.proofs.examples.modules.bits.Goals as goal

pub returns-clause-rising : goal.returns-clause-rising
unfolding digits
returns-clause-rising c = refl

pub returns-clause-falling : goal.returns-clause-falling
unfolding digits
returns-clause-falling c = refl
