use Rattle.std.proofs.Common.{◌≡◌, ◌+◌, ◌*◌, ◌≤◌, length}
use Rattle.eq_induct.specs.inner.Courses.{IsOpen}
use Rattle.eq_induct.proofs.course.Course.run.Given as goal

abbrev pub invariant-loop-k : goal.invariant-loop-k
invariant-loop-k l = record {
  so_far : IsOpen l.part l.depth l.fn.self.left l.self;
  count : length l.self.asked + 2 ≡ 2 * l.k;
  less : l.self.left ≤ l.fn.self.left;
}
