use Rattle.std.proofs.Common.{arith}
use Rattle.eq_wit.proofs.Divisions.{one_of}
use Rattle.eq_wit.proofs.dividing.one.Goals as goal

pub returns : goal.returns
returns c = one_of c.args.words.now c.at.result.now (omega arith) c.at.ensures
