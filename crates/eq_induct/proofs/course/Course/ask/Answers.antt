use Rattle.std.proofs.Common.{◌≡◌, ◌+◌, ◌-◌, List, length, arith, sym, subst}
use Rattle.eq_induct.specs.declared.types.Asked.{Asked}
use Rattle.eq_induct.specs.Answers.{learned_for}
use Rattle.eq_induct.specs.inner.Courses.{ComesTo}
use Rattle.eq_induct.proofs.CourseLemmas.{comes}
use Rattle.eq_induct.proofs.course.Course.ask.Goals as goal

pub returns-clause-asks : goal.returns-clause-asks
returns-clause-asks c =
    let part = c.args.part.now in
    let old = c.args.self.now in
    let answer = c.in_ok-answer.answer in
    let found = c.in_ok-answer.ensures in
    let within = found.within in
    let count = c.learned_for.ensures in
    let now = old.left - c.learned_for.result in
    let left : now + learned_for answer ≡ old.left = omega arith in
    let asked : Asked = record { query = c.args.query; k = c.args.k; answer = answer } in
    let end = c.end_of-end.result in λ depth conflicts so_far next.
    let P : List Asked → Type 0 = λ xs.
    ComesTo part depth conflicts (length old.asked + 1) (record { asked = xs; left = now }) end in
    subst P (sym c.in_ok-push.ensures.ok)
    (comes part depth conflicts old asked now so_far next found end c.end_of-end.ensures left)
