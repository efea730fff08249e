use Rattle.std.proofs.Common.{arith}
use Rattle.eq_reads.proofs.Placed.{named_there}
use Rattle.eq_part.proofs.tables.number.Goals as goal

pub overflow_cast-result : goal.overflow_cast-result
overflow_cast-result c =
    let there = named_there c.args.nets.now c.args.name c.requires.named in
    let is = c.named.ensures in
    let few = c.requires.few in
    omega arith
