use Rattle.std.proofs.Common.{refl}
use Rattle.eq_net.specs.Whole.{parts_of}
use Rattle.test_plans.proofs.pairing.paired.Goals as goal

pub returns : goal.returns
returns c =
    let gold = parts_of c.args.gold.now in
    let gate = parts_of c.args.gate.now in
    let pairs = c.in_ok-pairs.field-0 in
    let matched = c.pairs_are_matched.ensures gold gate c.args.config.now pairs c.args.gold.now.is_net c.args.gate.now.is_net
    (c.if-not-have_same_ports.ensures refl) c.in_ok-pairs.ensures.ok in
    record { bits = c.matched_pairs_are_few.ensures gold gate pairs c.args.gold.now.is_net matched }
