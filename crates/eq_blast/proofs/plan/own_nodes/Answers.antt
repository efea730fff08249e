use Rattle.std.proofs.Common.{◌+◌, [], ◌∷◌, ◌++◌, List, arith, add-one, ap, slice_index_or, sym, subst, ◌∙◌}
use Rattle.eq_bits.specs.declared.node.Node.{Node}
use Rattle.eq_net.specs.declared.types.Driver.TheVariants.{Input}
use Rattle.eq_net.specs.Whole.{parts_of}
use Rattle.eq_blast.specs.Blasted.{one_if_input}
use Rattle.eq_blast.specs.inner.Planned.{AreOwn}
use Rattle.eq_blast.proofs.Plans.{driver_is, own_more}
use Rattle.eq_blast.proofs.plan.own_nodes.Goals as goal

pub loop-b-preserved : goal.loop-b-preserved
loop-b-preserved c =
    let net = parts_of c.args.net.now in
    let is = c.loop-b.invariant in
    let e = driver_is net c.as_slice-driver-items.result.now c.loop-b.b Input c.as_slice-driver-items.ensures
    c.loop-b-test.true in
    let pushed = c.in_ok-push.ensures.items ∙ ap (λ (x : Node). c.loop-b.own.items ++ x ∷ []) c.own_node.ensures in
    let P : List Node → Type 0 = λ ns. AreOwn net c.args.drives.now (c.loop-b.b + 1) ns in
    let more = c.one_if_input-inputs.ensures.value ∙ ap one_if_input e in
    record {
      own = subst P (sym pushed) (own_more net c.args.drives.now c.loop-b.b c.loop-b.inputs c.loop-b.own.items
          (slice_index_or c.as_slice-driver-items.result.now c.loop-b.b Input) e is.inputs is.own);
      inputs = rw (add-one) (cc);
      few = (let h = is.few in let g = c.one_if_input-inputs.ensures.few in omega arith);
    }
