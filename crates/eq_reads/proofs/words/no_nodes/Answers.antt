use Rattle.eq_reads.proofs.Grown.{no_edges}
use Rattle.eq_reads.proofs.words.no_nodes.Goals as goal

pub returns-clause-are : goal.returns-clause-are
returns-clause-are c = no_edges _ c.new-edges.ensures.items c.in_ok-next.ensures
