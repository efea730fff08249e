use Rattle.std.proofs.Common.{ap, ◌∙◌}
use Rattle.eq_net.specs.Numbers.{differ}
use Rattle.eq_net.specs.inner.Cells.{seen}
use Rattle.eq_net.specs.inner.CellSteps.{folded}
use Rattle.eq_net.proofs.Cellular.{grown_twice, ok_both}
use Rattle.eq_net.proofs.CellTruths.{performs_one}
use Rattle.eq_net.proofs.cells.truths.test.Goals as goal

pub returns : goal.returns
returns c =
    let s = c.args.stack.now.items in
    let c0 = c.args.cells.now.items in
    let c1 = c.fold.new.cells.items in
    let c2 = c.flipped.new.cells.items in
    let e = c.in_ok-truth.ensures in
    let f : _ → _ = λ v. folded c.args.kind (v.cells c.args.start) c.args.count (seen v s c.args.left) (seen v s c.args.right) in
    ok_both c.leave_one.result
    (λ w p. performs_one c.args.to c.in_ok-truth.truth (λ v. differ c.args.negate (f v)) c0 c2 s c.leave_one.new.stack.items
    (grown_twice c0 c1 c2 c.in_ok-value.ensures.grown e.grown) w p
    (record { value = λ v h. e.gives.value v h ∙ ap (differ c.args.negate) (c.in_ok-value.ensures.gives.value v (e.grown.before v h)) }))
    c.leave_one.ensures.written c.leave_one.ensures.put
