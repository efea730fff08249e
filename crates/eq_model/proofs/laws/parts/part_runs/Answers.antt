use Rattle.eq_model.proofs.PartRuns.{one_part_run, part_front, part_window}
use Rattle.eq_model.proofs.laws.parts.part_runs.Goals as goal

pub returns-clause-one : goal.returns-clause-one
returns-clause-one c = one_part_run

pub returns-clause-front : goal.returns-clause-front
returns-clause-front c = part_front

pub returns-clause-window : goal.returns-clause-window
returns-clause-window c = part_window
