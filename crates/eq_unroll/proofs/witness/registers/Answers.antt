use Rattle.std.proofs.Common.{◌≡◌, List, Bool, ◌++◌, [], ◌∷◌, ◌+◌, sym, subst, ◌∙◌}
use Rattle.eq_model.specs.Frames.{values}
use Rattle.eq_unroll.specs.inner.Witnessing.{HasRegisters}
use Rattle.eq_unroll.proofs.Witnesses.{one_register, no_register}
use Rattle.eq_unroll.proofs.witness.registers.Goals.{then-is_register+in_ok-push, else-is_register}
use Rattle.eq_unroll.proofs.witness.registers.Goals as goal

pub loop-m-preserved : goal.loop-m-preserved
loop-m-preserved c =
    let nodes = c.args.nodes.now in
    let m = c.loop-m.m in
    let regs = c.loop-m.regs.items in
    let given = values c.args.bits.now in
    let P : List Bool → Type 0 = λ xs. HasRegisters nodes given (m + 1) xs in
    elim c.if-is_register.branch [
      | then-is_register+in_ok-push w ↦ (
          let e : c.if-is_register.regs.items ≡ regs ++ given m ∷ [] =
          cc (w.regs-is, w.in_ok-push.ensures.items, w.bit_at.ensures) in
          subst P (sym e) (one_register nodes given m regs c.loop-m-test.true
          (sym c.is_register.ensures ∙ w.if-is_register.true) c.loop-m.invariant))
      | else-is_register w ↦ (
          let e : c.if-is_register.regs.items ≡ regs = cc (w.regs-is) in
          subst P (sym e) (no_register nodes given m regs c.loop-m-test.true
          (sym c.is_register.ensures ∙ w.if-is_register.false) c.loop-m.invariant))
    ]
