use Rattle.std.proofs.Common.{ap, ◌∙◌}
use Rattle.std.proofs.lemmas.Result.{IfOk-weaker}
use Rattle.eq_net.specs.Numbers.{some_one}
use Rattle.eq_net.specs.declared.cells.gates.Kind.TheVariants.{Or}
use Rattle.eq_net.specs.inner.Cells.{Gives, seen}
use Rattle.eq_net.specs.inner.CellSteps.{folded}
use Rattle.eq_net.proofs.CellTruths.{folded_or}
use Rattle.eq_net.proofs.cells.truths.some.Goals as goal

pub returns-clause-gives : goal.returns-clause-gives
returns-clause-gives c =
    let n = c.args.count in
    let s = c.args.stack.now.items in
    let from = c.args.from in
    let c1 = c.fold.new.cells.items in
    IfOk-weaker c.fold.result (λ m. Gives c1 m (λ v. folded Or (v.cells 0) n (seen v s from) (seen v s from))) (λ m. Gives c1 m (λ v. some_one n (seen v s from)))
    (λ m i. record { value = λ v h. i.value v h ∙ ap (λ t. folded Or t n (seen v s from) (seen v s from)) h.false_first ∙ folded_or n (seen v s from) (seen v s from) })
    c.fold.ensures.gives
