use Rattle.eq_io.proofs.FileLaws as law
use Rattle.eq_io.proofs.laws.answers_exactly.Goals as goal

pub returns : goal.returns
returns c = law.answers_exactly
