use Rattle.std.proofs.Common.{rules}
use Rattle.eq_proof.proofs.Division.{length-parts}
use Rattle.eq_proof.proofs.rows.Rows.at.Goals as goal

pub row-requires : goal.row-requires
row-requires g c =
    let within = rw (← c.self.view_is, length-parts) at c.requires in
    search (rules, within)

pub returns : goal.returns
returns g c = rw (← c.self.view_is) (search rules)
