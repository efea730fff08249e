use Rattle.std.proofs.Common.{arith}
use Rattle.eq_wit.proofs.Divisions.{two_of}
use Rattle.eq_wit.proofs.dividing.two.Goals as goal

pub returns : goal.returns
returns c = two_of c.args.words.now c.at.result.now c.at-2.result.now (omega arith) c.at.ensures c.at-2.ensures
