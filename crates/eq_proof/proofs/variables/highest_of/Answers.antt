use Rattle.std.proofs.Common.{sym}
use Rattle.eq_proof.proofs.Checking.{last_is_most}
use Rattle.eq_proof.proofs.variables.highest_of.Goals as goal

pub returns-in-Some : goal.returns-in-Some
returns-in-Some c = rw c.var.ensures.value (last_is_most c.args.clause.now c.in-Some.last.now c.requires (sym c.in-Some.ensures.value))
