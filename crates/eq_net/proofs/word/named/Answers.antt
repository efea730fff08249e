use Rattle.std.proofs.Common.{arith}
use Rattle.eq_net.proofs.Offsets.{bit_there}
use Rattle.eq_net.proofs.word.named.Goals as goal

pub bounds-now-starts : goal.bounds-now-starts
bounds-now-starts c =
    let start = c.requires.starts.each c.args.name.net c.requires.named.0 in
    let there = bit_there c.args.nets.now c.args.name.net c.args.name.bit c.requires.named.0 c.requires.named.1 in
    let bits = c.requires.bits in
    omega arith
