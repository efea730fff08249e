use Rattle.eq_loops.proofs.Backs.{one_back_of}
use Rattle.eq_loops.proofs.back.rank_back.Goals as goal

pub returns-clause-back : goal.returns-clause-back
returns-clause-back c =
    c.in_ok-rank_all.ensures.kept c.args.b (c.in_ok-rank_in_order.ensures.kept c.args.b
    (one_back_of c.args.edges.now c.args.b c.args.ranks.now c.args.vias.now c.requires.none c.requires.there))
