use Rattle.eq_analysis.proofs.NamedLemmas.{reached_named}
use Rattle.eq_analysis.proofs.tabled.reached_by_name.Goals as goal

pub returns : goal.returns
returns c = reached_named
