use Rattle.std.proofs.Common.{refl}
use Rattle.std.specs.Fmt.{digits}
use Rattle.eq_wit.proofs.examples.failing_pair.Goals as goal

pub returns : goal.returns
unfolding digits
returns c = λ part h. rw (h.name, h.inputs, h.nodes, h.outputs) refl
