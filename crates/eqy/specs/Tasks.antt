-- Tasks that are ready, and those that the files hold.
use Rattle.std.specs.Prelude.{◌≡◌, ◌≤◌}
use Rattle.eq_io.specs.Files.{Files}
use Rattle.eq_first.specs.declared.job.Job.{Job}
use Rattle.eq_first.specs.declared.module.Module.{Module}
use Rattle.eq_first.specs.Well.{IsWellFormed}
use Rattle.eqy.specs.declared.prepare.Task.{Task}
use Rattle.eqy.specs.Command.{HasModule, most_inputs}
use Rattle.eqy.specs.Inputs.{inputs_of}

-- two well-formed designs of the same ports, with few inputs
pub record IsReady (task : Task) : Type 0 where
  pub gold : IsWellFormed task.gold
  pub gate : IsWellFormed task.gate
  pub ports : task.gold.ports ≡ task.gate.ports
  pub narrow : inputs_of task.gold.ports ≤ most_inputs

-- the task is this job with this gold, and the files hold its gate
pub record HasGate (files : Files) (job : Job) (gold : Module) (task : Task) : Type 0 where
  pub same_job : task.job ≡ job
  pub same_gold : task.gold ≡ gold
  pub gate : HasModule files job.gate task.gate
  pub ports : task.gold.ports ≡ task.gate.ports
  pub narrow : inputs_of task.gold.ports ≤ most_inputs

-- the task is this job, and the files hold its gold and its gate
pub record HasGold (files : Files) (job : Job) (task : Task) : Type 0 where
  pub same_job : task.job ≡ job
  pub gold : HasModule files job.gold task.gold
  pub gate : HasModule files job.gate task.gate
  pub ports : task.gold.ports ≡ task.gate.ports
  pub narrow : inputs_of task.gold.ports ≤ most_inputs
