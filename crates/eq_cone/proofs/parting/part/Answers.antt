use Rattle.std.proofs.Common.{ℕ, List, length, sym, subst}
use Rattle.eq_bits.specs.declared.node.Node.{Node}
use Rattle.eq_bits.specs.Part.{MakePart}
use Rattle.eq_cone.specs.inner.Copying.{place_of}
use Rattle.eq_cone.specs.inner.Outputs.{AreOutputsOf}
use Rattle.eq_cone.proofs.Composed.{makes_part}
use Rattle.eq_cone.proofs.parting.part.Goals as goal

pub invariant_of-result : goal.invariant_of-result
invariant_of-result c =
    let P : List ℕ → Type 0 = λ l. AreOutputsOf c.args.net.now.nets c.args.graphs.now l (place_of c.args.copied.places)
    c.args.copied.builder c.outputs.new.builder c.in_ok-outputs.outputs (length l) in
    let Q : List Node → Type 0 = λ l. MakePart c.in_ok-inputs.inputs l c.in_ok-outputs.outputs in
    record {
      is_part = subst Q (sym c.finish.ensures.nodes) (makes_part c.args.net.now.nets c.args.graphs.now
          c.args.partition.now.outputs c.args.inputs.now (place_of c.args.copied.places) c.args.copied.builder
          c.outputs.new.builder c.in_ok-outputs.outputs c.in_ok-inputs.inputs
          (subst P c.as_slice-positions.ensures c.in_ok-outputs.ensures) c.in_ok-inputs.ensures
          c.requires.input_nodes c.requires.no_others c.requires.nodes c.requires.few_inputs c.requires.few_outputs
          c.finish.ensures.few c.finish.ensures.operands);
    }
