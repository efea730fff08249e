use Rattle.eq_wit.proofs.NodeLemmas.{no_node}
use Rattle.eq_wit.proofs.nodes.gate.Goals as goal

pub returns : goal.returns
returns c = no_node c.args.d.now c.args.total c.args.words.now c.requires.ready c.in_default-keyed-2.ensures c.requires.input
    c.in_default.ensures c.in_default-two_behind.ensures c.in_default-two_behind-2.ensures c.in_default-three_behind.ensures
    c.in_default-keyed.ensures c.in_default-two_behind-3.ensures
