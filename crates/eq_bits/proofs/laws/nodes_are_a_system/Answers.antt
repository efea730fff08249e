use Rattle.eq_bits.specs.Node.{system_of}
use Rattle.eq_bits.proofs.Meanings.{system, down}
use Rattle.eq_bits.proofs.laws.nodes_are_a_system.Goals as goal

pub returns-clause-system : goal.returns-clause-system
returns-clause-system c = system

pub returns-clause-loop_free : goal.returns-clause-loop_free
returns-clause-loop_free c = λ nodes are. c.ranked.ensures (system_of nodes) (system nodes are) (λ m. m)
    (down nodes are)
