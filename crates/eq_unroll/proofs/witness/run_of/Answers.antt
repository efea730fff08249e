use Rattle.std.proofs.Common.{List, length, subst}
use Rattle.eq_model.specs.Frames.{values}
use Rattle.eq_bits.specs.declared.node.Node.{Node}
use Rattle.eq_unroll.specs.inner.Witnessing.{HasFrames, HasRegisters}
use Rattle.eq_unroll.proofs.Replayed.{shows}
use Rattle.eq_unroll.proofs.witness.run_of.Goals as goal

pub returns-clause-shows : goal.returns-clause-shows
returns-clause-shows c =
    let part = c.args.part.now in
    let bits = c.args.values.now in
    let P : List Node → Type 0 = λ nodes. HasRegisters nodes (values bits) (length nodes) c.in_ok-regs.regs in
    let regs = subst P c.as_slice.ensures c.in_ok-regs.ensures in
    let inputs = subst (λ count.
    HasFrames part bits count c.in_ok-inputs.inputs) c.frame_count.ensures c.in_ok-inputs.ensures in
    shows part (record { regs = c.in_ok-regs.regs; inputs = c.in_ok-inputs.inputs }) c.args.q c.args.k bits
    (c.part_is_one.ensures part)
    (c.one_replay.ensures part _) c.requires.unrollable.from_one c.requires.satisfies regs inputs
