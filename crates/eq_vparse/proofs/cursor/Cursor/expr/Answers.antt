use Rattle.eq_vparse.specs.Limits.{limits}
use Rattle.eq_vparse.proofs.Stopped.{stops_expr}
use Rattle.eq_vparse.proofs.cursor.Cursor.expr.Goals as goal

pub returns-clause-place : goal.returns-clause-place
returns-clause-place c = stops_expr limits.marks c.args.self.now _ c.steps.result c.steps.ensures
