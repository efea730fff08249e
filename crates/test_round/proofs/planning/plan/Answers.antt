use Rattle.eq_net.specs.Whole.{parts_of}
use Rattle.test_round.proofs.planning.plan.Goals as goal

pub planned-requires-clause-ports : goal.planned-requires-clause-ports
planned-requires-clause-ports c =
    let gold = c.args.gold.now in
    let gate = c.args.gate.now in
    record {
      gold_ports = c.ports_that_fit.ensures.gold (parts_of gold) (parts_of gate) gold.is_net gate.is_net
          c.in-Ok.ensures.ok;
      gate_ports = c.ports_that_fit.ensures.gate (parts_of gold) (parts_of gate) gold.is_net gate.is_net
          c.in-Ok.ensures.ok;
    }
