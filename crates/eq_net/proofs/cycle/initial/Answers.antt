use Rattle.std.proofs.Common.{List, length, ap, ◌∙◌}
use Rattle.eq_net.specs.declared.types.Driver.{Driver}
use Rattle.eq_net.specs.Held.{register_count}
use Rattle.eq_net.proofs.Registers.{if_ok, length-initial_bits}
use Rattle.eq_net.proofs.cycle.initial.Goals as goal

pub returns-clause-size : goal.returns-clause-size
returns-clause-size c =
    if_ok c.initial_values.result (λ state is. ap length is ∙ length-initial_bits c.as_slice.result.now ∙ ap (λ (ds : List Driver). register_count ds) c.as_slice.ensures) c.initial_values.ensures
