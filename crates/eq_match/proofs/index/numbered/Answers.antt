use Rattle.eq_match.proofs.Numbered.{next_name}
use Rattle.eq_match.proofs.index.numbered.Goals as goal

pub loop-net-preserved : goal.loop-net-preserved
loop-net-preserved c = next_name c.args.nets.now c.requires.names c.loop-net.net-index c.net-item.result
    c.loop-net.names
    c.intern.new.self c.loop-net-test.true c.net-item.is c.loop-net.invariant c.in_ok-intern.ensures.names
