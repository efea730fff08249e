use Rattle.eq_model.proofs.Nodes.{graph_run}
use Rattle.eq_model.proofs.laws.graph_runs.Goals as goal

pub returns : goal.returns
returns c = graph_run
