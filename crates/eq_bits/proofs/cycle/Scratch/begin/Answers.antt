use Rattle.std.proofs.Common.{List, Bool, ◌+◌, arith, sym, ap, ◌∙◌}
use Rattle.std.proofs.Math.ListN.{length-set}
use Rattle.eq_model.specs.Frames.{values}
use Rattle.eq_model.specs.System.{compute}
use Rattle.eq_bits.specs.Cycle.{held, values_with}
use Rattle.eq_bits.specs.Node.{driver_of, node_at}
use Rattle.eq_bits.proofs.Computing.{one_more, place_yes, place_no}
use Rattle.eq_bits.proofs.cycle.Scratch.begin.Goals.{then-is_register, else-is_register}
use Rattle.eq_bits.proofs.cycle.Scratch.begin.Goals as goal

pub loop-m-preserved : goal.loop-m-preserved
loop-m-preserved c =
    let nodes = c.args.nodes.now in
    let m = c.loop-m.m in
    let u = values_with nodes c.args.regs.now c.args.inputs.now in
    let xs = c.loop-m.self-inside.values.items in
    let given = ap (λ p. held (values c.args.inputs.now) (λ next. values c.args.regs.now p) (node_at nodes m))
    c.loop-m.invariant.place in
    record {
      size = omega (arith, length-set {A = Bool});
      before = c.loop-m.invariant.before;
      place = elim c.if-is_register.branch [
        | then-is_register w ↦
            w.place-is ∙ ap (λ p. p + 1) c.loop-m.invariant.place
            ∙ sym (place_yes nodes m c.loop-m-test.true (sym c.is_register.ensures ∙ w.if-is_register.true))
        | else-is_register w ↦
            w.place-is ∙ c.loop-m.invariant.place
            ∙ sym (place_no nodes m c.loop-m-test.true (sym c.is_register.ensures ∙ w.if-is_register.false))
      ];
      computed = one_more nodes c.requires.nodes u xs m c.value.result c.loop-m-test.true (omega arith)
          c.loop-m.invariant.computed
          (c.value.ensures
          ∙ ap (λ (now : List Bool). compute (driver_of (node_at nodes m)) (values now)
          c.given_registers-given.result) c.deref.ensures.value
          ∙ ap (compute (driver_of (node_at nodes m)) (values xs)) (c.given_registers-given.ensures ∙ given));
    }
