use Rattle.std.proofs.Common.{◌≡◌, List, true, false, length, arith, ap}
use Rattle.eq_bits.specs.declared.node.Node.{Node}
use Rattle.eq_bits.specs.declared.node.Node.TheVariants.{Input}
use Rattle.eq_bits.specs.Shared.{IsKnown}
use Rattle.eq_cone.proofs.Added.{input_on, size}
use Rattle.eq_cone.proofs.copying.input_nodes.Goals as goal

pub loop-input-preserved : goal.loop-input-preserved
loop-input-preserved c =
    let unknown : ¬ IsKnown c.loop-input.builder (Input c.loop-input.input) = λ k. (
    let f : false ≡ true = k.0 in absurd (cc)) in
    let more = c.in_ok-node.ensures.added unknown in
    let count = c.loop-input.invariant.1 in
    let e = ap (λ (ns : List Node). length ns) more in
    let f = size c.loop-input.builder (Input c.loop-input.input) in
    (input_on c.loop-input.builder c.node.new.self c.loop-input.input c.loop-input.invariant.0 count more, omega arith)
