use Rattle.eq_proof.proofs.Division.{row_within, row_at}
use Rattle.eq_proof.proofs.rows.row.Goals as goal

pub between-requires-clause-ordered : goal.between-requires-clause-ordered
between-requires-clause-ordered g c = rw c.end_of.ensures (row_within _ 0 c.args.ends.now c.args.place c.requires.division c.requires.within).0

pub between-requires-clause-within : goal.between-requires-clause-within
between-requires-clause-within g c = (row_within _ 0 c.args.ends.now c.args.place c.requires.division c.requires.within).1

pub returns : goal.returns
returns g c = rw (c.between.ensures, c.end_of.ensures) (row_at c.args.items.now 0 c.args.ends.now c.args.place c.requires.within)
