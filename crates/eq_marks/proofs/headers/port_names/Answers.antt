use Rattle.std.proofs.Common.{arith, ap, ◌∙◌}
use Rattle.std.proofs.lemmas.List.{length-map}
use Rattle.eq_net.specs.Net.{name_at}
use Rattle.eq_net.specs.declared.types.NetInfo.{NetInfo}
use Rattle.eq_net.specs.Whole.{parts_of}
use Rattle.eq_names.specs.Tables.{with_name}
use Rattle.eq_marks.proofs.HeaderLemmas.{next_port}
use Rattle.eq_marks.proofs.headers.port_names.Goals as goal

pub loop-place-preserved : goal.loop-place-preserved
loop-place-preserved c =
    let net = c.args.net.now in
    let count = c.port_count-place-end.ensures in
    let size = length-map net.ports (name_at net.nets) in
    let test = c.loop-place-test.true in
    next_port (parts_of net) net.is_net c.loop-place.place c.port_at.result c.loop-place.names c.intern.new.self (omega
    arith) c.port_at.ensures.there c.port_at.ensures.named
    c.loop-place.invariant (c.in_ok-intern.ensures.names ∙ ap (λ (m : NetInfo). with_name c.loop-place.names m.name)
    c.net_at.ensures)
