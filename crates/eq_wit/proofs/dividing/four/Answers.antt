use Rattle.std.proofs.Common.{arith}
use Rattle.eq_wit.proofs.Divisions.{four_of}
use Rattle.eq_wit.proofs.dividing.four.Goals as goal

pub returns : goal.returns
returns c = four_of c.args.words.now c.at.result.now c.at-2.result.now c.at-3.result.now c.at-4.result.now (omega arith)
    c.at.ensures c.at-2.ensures c.at-3.ensures c.at-4.ensures
