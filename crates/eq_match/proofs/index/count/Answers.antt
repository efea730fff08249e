use Rattle.std.proofs.Common.{arith}
use Rattle.eq_match.proofs.Rows.{no_more_nets}
use Rattle.eq_match.proofs.index.count.Goals as goal

pub overflow_cast-result : goal.overflow_cast-result
overflow_cast-result c =
    let net = c.args.net.now in
    let few = no_more_nets net.nets in
    let covered = net.is_net.covered in
    let limited = net.is_net.limited in
    let size = c.len.ensures in
    omega arith
