use Rattle.eq_net.specs.Whole.{parts_of}
use Rattle.measure_netlist.proofs.SamePorts.{same_ports}
use Rattle.measure_netlist.proofs.plans.plan.Goals as goal

pub pairs-requires-clause-ports : goal.pairs-requires-clause-ports
pairs-requires-clause-ports c = same_ports (parts_of c.args.gold.now) (parts_of c.args.gate.now) c.requires.same

pub partitions-requires-clause-ports : goal.partitions-requires-clause-ports
partitions-requires-clause-ports c = same_ports (parts_of c.args.gold.now) (parts_of c.args.gate.now) c.requires.same

pub groups-requires-clause-there : goal.groups-requires-clause-there
groups-requires-clause-there c k d lt =
    let gold = c.args.gold.now in
    let gate = c.args.gate.now in
    let pairs = c.in_ok-pairs.pairs in
    let matched = c.pairs_are_matched.ensures (parts_of gold) (parts_of gate) c.args.config.now pairs gold.is_net
    gate.is_net (same_ports (parts_of gold) (parts_of gate) c.requires.same) c.in_ok-pairs.ensures.ok in
    ((c.matched_pairs_are_few.ensures (parts_of gold) (parts_of gate) pairs gold.is_net matched).there k d lt).0

pub groups-requires-clause-few : goal.groups-requires-clause-few
groups-requires-clause-few c =
    let gold = c.args.gold.now in
    let gate = c.args.gate.now in
    let pairs = c.in_ok-pairs.pairs in
    let matched = c.pairs_are_matched.ensures (parts_of gold) (parts_of gate) c.args.config.now pairs gold.is_net
    gate.is_net (same_ports (parts_of gold) (parts_of gate) c.requires.same) c.in_ok-pairs.ensures.ok in
    (c.matched_pairs_are_few.ensures (parts_of gold) (parts_of gate) pairs gold.is_net matched).few
