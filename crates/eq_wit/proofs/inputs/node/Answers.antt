use Rattle.std.proofs.Common.{arith}
use Rattle.eq_wit.proofs.InputLemmas.{gate_read}
use Rattle.eq_wit.proofs.inputs.node.Goals as goal

pub returns : goal.returns
returns c = gate_read c.args.d.now c.args.seen.now c.args.left _ c.args.words.now c.gate.result (omega arith) c.in_default.ensures
    c.gate.ensures
