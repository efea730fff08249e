use Rattle.std.proofs.Common.{List, arith, sym, subst, ◌+◌}
use Rattle.eq_bits.specs.declared.part.Output.{Output}
use Rattle.eq_cone.specs.inner.Copying.{place_of}
use Rattle.eq_cone.specs.inner.Outputs.{AreOutputsOf}
use Rattle.eq_cone.proofs.OneByOne.{outputs_on}
use Rattle.eq_cone.proofs.parting.outputs.Goals as goal

pub loop-place-preserved : goal.loop-place-preserved
loop-place-preserved c =
    let P : List Output → Type 0 = λ l. AreOutputsOf c.args.net.now.nets c.args.graphs.now c.args.positions.now
    (place_of c.args.places.now) c.args.builder.now c.output.new.builder l (c.loop-place.place + 1) in
    subst P (sym c.in_ok-push.ensures.ok) (outputs_on c.args.net.now.nets c.args.graphs.now c.args.positions.now
    (place_of c.args.places.now) c.args.builder.now c.loop-place.builder c.output.new.builder c.loop-place.outputs
    c.loop-place.place c.loop-place.invariant (let t = c.loop-place-test.true in omega arith)
    c.in_ok-output.field-0 c.in_ok-output.ensures)
