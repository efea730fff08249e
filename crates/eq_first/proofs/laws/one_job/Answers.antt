use Rattle.eq_first.proofs.Jobs.{same_job}
use Rattle.eq_first.proofs.laws.one_job.Goals as goal

pub returns : goal.returns
returns c = same_job
