use Rattle.eq_match.proofs.pairing.pairs.Goals as goal

pub net_pairs-requires : goal.net_pairs-requires
net_pairs-requires c = record { fitting = c.templates_fit.ensures c.args.c.now c.requires.config }
