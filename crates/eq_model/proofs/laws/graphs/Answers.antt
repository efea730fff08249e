use Rattle.eq_model.proofs.Nodes.{graph_denotes}
use Rattle.eq_model.proofs.laws.graphs.Goals as goal

pub returns : goal.returns
returns c = graph_denotes
