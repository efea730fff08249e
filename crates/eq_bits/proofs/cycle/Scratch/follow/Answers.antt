use Rattle.std.proofs.Common.{List, Bool, arith, ap, ◌∙◌}
use Rattle.std.proofs.Math.ListN.{length-set}
use Rattle.eq_model.specs.Frames.{values}
use Rattle.eq_model.specs.System.{compute}
use Rattle.eq_bits.specs.Cycle.{held, values_after}
use Rattle.eq_bits.specs.Node.{driver_of, node_at}
use Rattle.eq_bits.proofs.Computing.{one_more}
use Rattle.eq_bits.proofs.cycle.Scratch.follow.Goals as goal

pub loop-m-preserved : goal.loop-m-preserved
loop-m-preserved c =
    let nodes = c.args.nodes.now in
    let m = c.loop-m.m in
    let u = values_after nodes (values c.args.self.now) c.args.inputs.now in
    let xs = c.loop-m.self-inside.values.items in
    let given = ap (λ (before : List Bool). held (values c.args.inputs.now) (values before) (node_at nodes m))
    (c.deref.ensures.value ∙ c.loop-m.invariant.old) in
    record {
      size = omega (arith, length-set {A = Bool});
      before = c.loop-m.invariant.before;
      old = c.loop-m.invariant.old;
      computed = one_more nodes c.requires.nodes u xs m c.value.result c.loop-m-test.true (omega arith)
          c.loop-m.invariant.computed
          (c.value.ensures
          ∙ ap (λ (now : List Bool). compute (driver_of (node_at nodes m)) (values now) c.given_before-given.result)
          c.deref-in-loop-m.ensures.value
          ∙ ap (compute (driver_of (node_at nodes m)) (values xs)) (c.given_before-given.ensures ∙ given));
    }
