use Rattle.std.proofs.Common.{rules, arith}
use Rattle.eq_proof.proofs.Division.{length-parts}
use Rattle.eq_proof.proofs.rows.Rows.len.Goals as goal

pub returns-clause-value : goal.returns-clause-value
returns-clause-value g c = rw (← c.self.view_is, length-parts) (search rules)

pub returns-clause-few : goal.returns-clause-few
returns-clause-few g c =
    let len = c.self.inside.ends.ok.1 in
    let cap = c.self.inside.ends.small in
    let result = c.len.ensures in
    omega arith
