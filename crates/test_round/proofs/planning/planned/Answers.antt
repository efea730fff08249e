use Rattle.eq_net.specs.Whole.{parts_of}
use Rattle.test_round.proofs.planning.planned.Goals as goal

pub groups-requires-clause-there : goal.groups-requires-clause-there
groups-requires-clause-there c k d lt =
    let gold = c.args.gold.now in
    let gate = c.args.gate.now in
    let pairs = c.in_ok-pairs.pairs in
    let matched = c.pairs_are_matched.ensures (parts_of gold) (parts_of gate) c.args.config.now pairs gold.is_net
    gate.is_net c.requires.ports c.in_ok-pairs.ensures.ok in
    ((c.matched_pairs_are_few.ensures (parts_of gold) (parts_of gate) pairs gold.is_net matched).there k d lt).0

pub groups-requires-clause-few : goal.groups-requires-clause-few
groups-requires-clause-few c =
    let gold = c.args.gold.now in
    let gate = c.args.gate.now in
    let pairs = c.in_ok-pairs.pairs in
    let matched = c.pairs_are_matched.ensures (parts_of gold) (parts_of gate) c.args.config.now pairs gold.is_net
    gate.is_net c.requires.ports c.in_ok-pairs.ensures.ok in
    (c.matched_pairs_are_few.ensures (parts_of gold) (parts_of gate) pairs gold.is_net matched).few
