use Rattle.eq_unroll.proofs.Counting.{count}
use Rattle.eq_unroll.proofs.count.clause_count.Goals as goal

pub returns : goal.returns
returns c = (let e = count c.args.part.now.nodes c.args.part.now.outputs c.args.q c.args.k c.requires.from_one in cc)
