use Rattle.std.proofs.Common.{length}
use Rattle.eq_cone.specs.inner.Sides.{cut_of}
use Rattle.eq_cone.proofs.Collected.{inputs_reordered}
use Rattle.eq_cone.proofs.inputs.inputs.Goals as goal

pub returns-clause-ok : goal.returns-clause-ok
returns-clause-ok c = inputs_reordered (cut_of c.args.sides.now) c.args.cone.now c.in_ok-inputs.inputs c.sort.new.self
    (length c.args.cone.now) c.sort.ensures.same c.in_ok-inputs.ensures
