use Rattle.eq_blast.proofs.Worded.{none_node}
use Rattle.eq_blast.proofs.words.node_in.Goals as goal

pub returns-in-None : goal.returns-in-None
returns-in-None c = none_node c.args.nodes.now c.args.at c.in-None.ensures.value
