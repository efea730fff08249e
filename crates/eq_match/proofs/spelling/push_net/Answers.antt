use Rattle.std.proofs.Common.{ap, arith}
use Rattle.eq_net.specs.Nets.{width_of}
use Rattle.eq_match.proofs.Rows.{width_le}
use Rattle.eq_match.proofs.spelling.push_net.Goals as goal

pub overflow_cast-width : goal.overflow_cast-width
overflow_cast-width c =
    let net = c.args.gold.now in
    let le = width_le net.nets c.args.k c.requires in
    let covered = net.is_net.covered in
    let limited = net.is_net.limited in
    let is = ap width_of c.net_at-net.ensures in
    let w = c.width.ensures in
    omega arith
