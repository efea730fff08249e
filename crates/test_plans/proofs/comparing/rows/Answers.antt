use Rattle.std.proofs.Common.{◌≡◌, Option, IfSome, subst}
use Rattle.eq_compose.specs.declared.types.Row.{Row}
use Rattle.eq_compose.specs.Rows.{IsRight}
use Rattle.eq_net.specs.Whole.{parts_of}
use Rattle.test_plans.proofs.Rows.{one_row_more}
use Rattle.test_plans.proofs.comparing.rows.Goals as goal

pub loop-i-preserved : goal.loop-i-preserved
loop-i-preserved c =
    let work = c.args.work.now in
    let gold = parts_of work.gold.now in
    let gate = parts_of work.gate.now in
    let plan = work.plan.now in
    let i = c.loop-i.i in
    let P : Option Row → Type 0 = λ o. IfSome o (λ r. r.part ≡ i) in
    let Q : Option Row → Type 0 = λ o. IfSome o (λ r. IsRight gold gate plan i r.verdict) in
    one_row_more gold gate plan i c.loop-i.rows c.push.new.self c.in-Some.row c.loop-i.invariant
    (subst P c.in-Some.is c.in_ok-row.ensures.number) (subst Q c.in-Some.is c.in_ok-row.ensures.right)
    c.in_ok-push-in-Some.ensures.ok
