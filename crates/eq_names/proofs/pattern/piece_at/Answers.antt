use Rattle.eq_names.proofs.Answered.{set_here}
use Rattle.eq_names.proofs.pattern.piece_at.Goals as goal

pub returns-in-91-clause-ok : goal.returns-in-91-clause-ok
returns-in-91-clause-ok c = set_here c.args.text.now c.set_at.result c.in-91.is c.set_at.ensures.ok
