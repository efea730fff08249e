use Rattle.std.proofs.Common.{arith}
use Rattle.eq_marks.proofs.carrying.named.Goals as goal

pub bounds-marks-starts : goal.bounds-marks-starts
bounds-marks-starts c =
    let name = c.args.name in
    let start = c.requires.starts.each name.net c.requires.named.0 in
    let there = c.bits_stand_by_nets.ensures.there c.args.nets.now name.net name.bit c.requires.named.0
    c.requires.named.1 in
    let bits = c.requires.bits in
    omega arith
