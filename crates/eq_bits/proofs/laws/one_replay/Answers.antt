use Rattle.eq_model.specs.System.{nothing}
use Rattle.eq_bits.specs.Node.{system_of}
use Rattle.eq_bits.proofs.Meanings.{system, down}
use Rattle.eq_bits.proofs.OneReplay.{one_replay}
use Rattle.eq_bits.proofs.laws.one_replay.Goals as goal

pub returns : goal.returns
returns c = λ part run.
    let nodes = part.nodes in
    let are = part.is_part.operands in
    let is = system nodes are in
    let free = c.ranked.ensures (system_of nodes) is (λ m. m) (down nodes are) in
    one_replay part run (c.one_cycle.ensures (system_of nodes) is free nothing)
