use Rattle.std.proofs.Common.{◌<◌, arith}
use Rattle.eq_wit.proofs.BitLemmas.{read_bits}
use Rattle.eq_wit.proofs.truths.bits.Goals as goal

pub returns : goal.returns
returns c =
    let some : 0 < c.args.count = omega arith in
    read_bits c.args.key.now c.args.count c.args.words.now c.in-Some.word.now c.values.result c.in-Some.ensures some
    (omega arith) c.values.ensures
