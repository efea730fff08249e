use Rattle.std.proofs.Common.{List, Option, IfSome, subst, sym}
use Rattle.eq_compose.specs.declared.types.Row.{Row}
use Rattle.eq_compose.specs.Rows.{AreRight}
use Rattle.eq_net.specs.Whole.{parts_of}
use Rattle.test_plans.proofs.comparing.compared.Goals as goal

pub conclude-requires-clause-right : goal.conclude-requires-clause-right
conclude-requires-clause-right c =
    let gold = parts_of c.args.gold.now in
    let gate = parts_of c.args.gate.now in
    let plan = c.in-Some.plan in
    let P : Option (List Row) → Type 0 = λ o. IfSome o (AreRight gold gate plan) in
    subst (AreRight gold gate plan) (sym c.as_slice.ensures) (subst P c.in-Some-2.is c.in_ok-rows.ensures.right)
