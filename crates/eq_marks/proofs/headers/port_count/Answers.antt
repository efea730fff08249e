use Rattle.std.proofs.Common.{arith}
use Rattle.eq_net.specs.Whole.{parts_of}
use Rattle.eq_marks.proofs.HeaderLemmas.{few_ports}
use Rattle.eq_marks.proofs.headers.port_count.Goals as goal

pub overflow_cast-result : goal.overflow_cast-result
overflow_cast-result c =
    let net = c.args.net.now in
    let few = few_ports (parts_of net) net.is_net in
    let size = c.len.ensures in
    omega arith
