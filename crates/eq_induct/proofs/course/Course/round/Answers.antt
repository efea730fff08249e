use Rattle.std.proofs.Common.{◌≡◌, ℕ, ◌+◌, ◌*◌, length, IfOk, arith, subst}
use Rattle.eq_induct.specs.inner.Courses.{ComesTo}
use Rattle.eq_induct.proofs.CourseLemmas.{base_next, step_next}
use Rattle.eq_induct.proofs.course.Course.round.Goals as goal

pub returns-in-Some-clause-asks : goal.returns-in-Some-clause-asks
returns-in-Some-clause-asks c = λ depth conflicts so_far within count.
    let old = c.args.self.now in
    let next = base_next depth c.args.k old count within in
    subst (ComesTo c.args.part.now depth conflicts (length old.asked + 1) c.ask.new.self) c.in-Some.is
    (c.in_ok-end.ensures.asks depth conflicts so_far next)

pub returns-in-None-clause-asks : goal.returns-in-None-clause-asks
returns-in-None-clause-asks c = λ depth conflicts so_far within count.
    let part = c.args.part.now in
    let old = c.args.self.now in
    let after = c.ask.new.self in
    let base = subst (ComesTo part depth conflicts (length old.asked + 1) after) c.in-None.is
    (c.in_ok-end.ensures.asks depth conflicts so_far (base_next depth c.args.k old count within)) in
    let long = base.1 in
    let same : length after.asked + 1 ≡ 2 * c.args.k = omega arith in
    let P : ℕ → Type 0 = λ n. IfOk c.ask-in-None.result (ComesTo part depth conflicts n c.ask-in-None.new.self) in
    subst P same (c.ask-in-None.ensures.asks depth conflicts base.0 (step_next depth c.args.k after same within))
