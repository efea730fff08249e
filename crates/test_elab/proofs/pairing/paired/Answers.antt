use Rattle.eq_net.specs.Whole.{parts_of}
use Rattle.test_elab.proofs.pairing.paired.Goals as goal

pub pairs-requires-clause-ports : goal.pairs-requires-clause-ports
pairs-requires-clause-ports c =
    let gold = c.args.gold.now in
    let gate = c.args.gate.now in
    record {
      gold_ports = c.ports_that_fit.ensures.gold (parts_of gold) (parts_of gate) gold.is_net gate.is_net
          c.in-Ok.ensures.ok;
      gate_ports = c.ports_that_fit.ensures.gate (parts_of gold) (parts_of gate) gold.is_net gate.is_net
          c.in-Ok.ensures.ok;
    }

pub returns-in_ok-pairs-in-Ok : goal.returns-in_ok-pairs-in-Ok
returns-in_ok-pairs-in-Ok c =
    let gold = c.args.gold.now in
    let gate = c.args.gate.now in
    c.pairs_are_matched.ensures (parts_of gold) (parts_of gate) c.args.config.now c.in_ok-pairs-in-Ok.field-0
    gold.is_net
    gate.is_net (record {
      gold_ports = c.ports_that_fit.ensures.gold (parts_of gold) (parts_of gate) gold.is_net gate.is_net
          c.in-Ok.ensures.ok;
      gate_ports = c.ports_that_fit.ensures.gate (parts_of gold) (parts_of gate) gold.is_net gate.is_net
          c.in-Ok.ensures.ok;
    }) c.in_ok-pairs-in-Ok.ensures.ok
