use Rattle.eq_names.proofs.CaptureLemmas.{one_capture}
use Rattle.eq_names.proofs.laws.one_capture.Goals as goal

pub returns : goal.returns
returns c = one_capture
