use Rattle.eq_names.proofs.CaptureLemmas.{captured_matches}
use Rattle.eq_names.proofs.laws.captured_matches.Goals as goal

pub returns : goal.returns
returns c = captured_matches
