use Rattle.std.proofs.Common.{nat_lt, false, ◌∙◌}
use Rattle.std.proofs.lemmas.Result.{on_ok_weaker}
use Rattle.eq_net.specs.Numbers.{number}
use Rattle.eq_net.specs.declared.cells.gates.Kind.TheVariants.{Less}
use Rattle.eq_net.specs.inner.Cells.{seen}
use Rattle.eq_net.proofs.CellTruths.{folded_less, tested}
use Rattle.eq_net.proofs.cells.truths.order.Goals as goal

pub returns : goal.returns
returns c =
    let n = c.args.count in
    let s = c.args.stack.now.items in
    on_ok_weaker c.test.result
    (tested Less c.args.negate false n 0 c.args.first c.args.second c.args.to c.args.cells.now.items c.test.new.cells.items s c.test.new.stack.items
    (λ v. nat_lt (number n (seen v s c.args.first)) (number n (seen v s c.args.second))) (λ v h. h.false_first)
    (λ v. folded_less n (seen v s c.args.first) (seen v s c.args.second) ∙ c.order_from_the_lowest.ensures.less n (seen v s c.args.first) (seen v s c.args.second)))
    c.test.ensures
