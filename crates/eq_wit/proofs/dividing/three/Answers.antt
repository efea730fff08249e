use Rattle.std.proofs.Common.{arith}
use Rattle.eq_wit.proofs.Divisions.{three_of}
use Rattle.eq_wit.proofs.dividing.three.Goals as goal

pub returns : goal.returns
returns c = three_of c.args.words.now c.at.result.now c.at-2.result.now c.at-3.result.now (omega arith) c.at.ensures
    c.at-2.ensures c.at-3.ensures
