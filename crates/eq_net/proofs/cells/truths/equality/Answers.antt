use Rattle.std.proofs.Common.{◌-◌, ◌==◌, true, ◌∙◌}
use Rattle.std.proofs.lemmas.Result.{on_ok_weaker}
use Rattle.eq_net.specs.Numbers.{number}
use Rattle.eq_net.specs.declared.cells.gates.Kind.TheVariants.{Equal}
use Rattle.eq_net.specs.inner.Cells.{seen}
use Rattle.eq_net.proofs.CellTruths.{folded_equal, tested}
use Rattle.eq_net.proofs.cells.truths.equality.Goals as goal

pub returns : goal.returns
returns c =
    let n = c.args.right - c.args.left in
    let s = c.args.stack.now.items in
    on_ok_weaker c.test.result
    (tested Equal c.args.negate true n 1 c.args.left c.args.right c.args.left c.args.cells.now.items c.test.new.cells.items s c.test.new.stack.items
    (λ v. number n (seen v s c.args.left) == number n (seen v s c.args.right)) (λ v h. h.then_true)
    (λ v. folded_equal n (seen v s c.args.left) (seen v s c.args.right) ∙ c.order_from_the_lowest.ensures.same n (seen v s c.args.left) (seen v s c.args.right)))
    c.test.ensures
