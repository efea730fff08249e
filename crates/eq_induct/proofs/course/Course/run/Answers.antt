use Rattle.std.proofs.Common.{◌≡◌, ◌*◌, ◌≤◌, length, arith, subst}
use Rattle.eq_induct.specs.inner.Courses.{ComesTo}
use Rattle.eq_induct.proofs.CourseLemmas.{deep}
use Rattle.eq_induct.proofs.course.Course.run.Goals as goal

pub returns-in-Some : goal.returns-in-Some
returns-in-Some c =
    let left = c.args.self.now.left in
    let within : c.loop-k.k ≤ c.args.depth = omega arith in
    let inv = c.loop-k.invariant in
    subst (ComesTo c.args.part.now c.args.depth left (2 * c.loop-k.k) c.round.new.self) c.in-Some.is
    (c.in_ok-end.ensures.asks c.args.depth left inv.so_far within inv.count)

pub loop-k-preserved : goal.loop-k-preserved
loop-k-preserved c =
    let left = c.args.self.now.left in
    let within : c.loop-k.k ≤ c.args.depth = omega arith in
    let inv = c.loop-k.invariant in
    let less = inv.less in
    let lesser = c.in_ok-end.ensures.less in
    let next = subst (ComesTo c.args.part.now c.args.depth left (2 * c.loop-k.k) c.round.new.self) c.in_default.is
    (c.in_ok-end.ensures.asks c.args.depth left inv.so_far within inv.count) in
    let count = next.1 in
    record { so_far = next.0; count = omega arith; less = omega arith }

pub returns : goal.returns
returns c =
    let inv = c.loop-k.invariant in
    let count = inv.count in
    let some = c.requires.unrollable.from_one in
    let all : length c.loop-k.self.asked ≡ 2 * c.args.depth = omega arith in
    deep c.args.part.now c.args.depth c.args.self.now.left c.loop-k.self inv.so_far some all
