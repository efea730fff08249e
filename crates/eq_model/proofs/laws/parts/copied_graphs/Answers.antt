use Rattle.eq_model.proofs.CopiedGraphs.{copied_graphs_denote}
use Rattle.eq_model.proofs.laws.parts.copied_graphs.Goals as goal

pub returns : goal.returns
returns c = copied_graphs_denote
