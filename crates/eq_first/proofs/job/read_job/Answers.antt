use Rattle.std.proofs.Common.{sym}
use Rattle.eq_first.proofs.Jobs.{job_takes, job_names, none_read}
use Rattle.eq_first.proofs.job.read_job.Goals as goal

pub owned_job-requires : goal.owned_job-requires
owned_job-requires c = job_names _ _ (job_takes c.args.text.now _ (sym c.in-Some.ensures))

pub returns-in-None-clause-none : goal.returns-in-None-clause-none
returns-in-None-clause-none c = none_read c.args.text.now (sym c.in-None.ensures)

pub returns-in_ok-owned_job-in-Some-clause-some : goal.returns-in_ok-owned_job-in-Some-clause-some
returns-in_ok-owned_job-in-Some-clause-some c = rw c.in_ok-owned_job-in-Some.ensures (job_takes c.args.text.now _ (sym c.in-Some.ensures))
