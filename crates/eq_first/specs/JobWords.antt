-- The job that words of a text ask for.
use Rattle.eq_names.specs.Name.{IsName}
use Rattle.eq_first.specs.Configuration.{IsSide}
use Rattle.eq_first.specs.declared.job.Side.{Side}
use Rattle.eq_first.specs.declared.job.Job.{Job}
use Rattle.eq_first.specs.declared.lines.SideWords.{SideWords}
use Rattle.eq_first.specs.declared.lines.JobWords.{JobWords}

abbrev pub side_of : SideWords → Side
side_of s = record { file = s.file.now; top = s.top.now }

abbrev pub job_of : JobWords → Job
job_of w = record { gold = side_of w.gold; gate = side_of w.gate; strategy = w.strategy.now; depth = w.depth }

-- its names are names
pub record HasNames (job : Job) : Type 0 where
  pub gold : IsSide job.gold
  pub gate : IsSide job.gate
  pub strategy : IsName job.strategy
