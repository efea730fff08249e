use Rattle.eq_io.proofs.FileLaws as law
use Rattle.eq_io.proofs.laws.changes_only_the_name.Goals as goal

pub returns : goal.returns
returns c = law.changes_only_the_name
