use Rattle.std.proofs.Common.{arith}
use Rattle.eq_cdcl.proofs.trail.Trail.reason.Goals as goal

pub returns-clause-few : goal.returns-clause-few
returns-clause-few c =
    let count = c.self.inside.reasons.ok.1 in
    let small = c.self.inside.reasons.small in
    rw (← c.self.view_is) (omega arith)
