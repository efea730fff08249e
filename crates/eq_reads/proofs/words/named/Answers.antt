use Rattle.std.proofs.Common.{arith}
use Rattle.eq_reads.proofs.words.named.Goals as goal

pub overflow_add-result : goal.overflow_add-result
overflow_add-result c =
    let start = c.requires.starts.each c.args.name.net c.requires.named.0 in
    let there = c.bits_stand_by_nets.ensures.there c.args.nets.now c.args.name.net c.args.name.bit c.requires.named.0
    c.requires.named.1 in
    let few = c.requires.few in
    omega arith
