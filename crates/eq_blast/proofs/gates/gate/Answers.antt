use Rattle.std.proofs.lemmas.Result.{IfOk-weaker}
use Rattle.std.proofs.Common.{Some, slice_get, ◌≡◌}
use Rattle.eq_bits.specs.Shared.{normal_form}
use Rattle.eq_blast.specs.inner.Growing.{Gives, has_in, value_in}
use Rattle.eq_blast.proofs.Growth.{given, on_ok_all, one_gate}
use Rattle.eq_blast.proofs.gates.gate.Goals as goal

pub returns-clause-grown : goal.returns-clause-grown
returns-clause-grown c = on_ok_all c.node.result (one_gate c.args.builder.now c.node.new.self c.args.node c.requires.gate c.node.ensures.grown)

pub returns-clause-gives : goal.returns-clause-gives
returns-clause-gives c =
    IfOk-weaker c.node.result (λ m. slice_get c.node.new.self m ≡ Some (normal_form c.args.node)) (λ m. Gives c.node.new.self m (value_in c.args.node) (has_in c.args.node))
    (λ m at. given c.node.new.self m c.args.node c.requires.gate at) c.node.ensures.ok
