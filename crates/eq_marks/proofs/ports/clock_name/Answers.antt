use Rattle.std.proofs.Common.{map, ap, ◌∙◌}
use Rattle.eq_net.specs.Net.{name_at}
use Rattle.eq_net.specs.Whole.{parts_of}
use Rattle.eq_net.specs.declared.types.NetInfo.{NetInfo}
use Rattle.eq_verilog.specs.Declarations.{has}
use Rattle.eq_marks.proofs.HeaderLemmas.{clock_port, has_port}
use Rattle.eq_marks.proofs.ports.clock_name.Goals as goal

pub net_at-requires : goal.net_at-requires
net_at-requires c = (c.args.net.now.is_net.clocked c.in-Some.k c.in-Some.is).0

pub returns-in-Some-clause-there : goal.returns-in-Some-clause-there
returns-in-Some-clause-there c =
    let net = c.args.net.now in
    ap (λ (m : NetInfo). has (map (name_at net.nets) net.ports) m.name) c.net_at.ensures
    ∙ has_port (parts_of net) net.is_net c.in-Some.k (clock_port net.nets c.in-Some.k (net.is_net.clocked c.in-Some.k
    c.in-Some.is))
