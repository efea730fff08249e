use Rattle.std.proofs.Common.{◌-◌, ◌≤◌, length, sym, ◌∙◌, arith}
use Rattle.eq_cdcl.proofs.Sounds.{cut_all, cut_twice}
use Rattle.eq_cdcl.proofs.trail.Trail.cut.Goals as goal

pub loop-self-preserved : goal.loop-self-preserved
loop-self-preserved c =
    let n = length c.loop-self.self.lits in
    let more = c.loop-self-test.true in
    let len = c.len.ensures.value in
    let within : c.args.len ≤ n - 1 = omega arith in
    let a = c.loop-self.self in
    let is = c.pop.ensures in
    record {
      within = rw is (cut_twice a c.args.len (n - 1) within (omega arith)).1;
      front = rw is ((cut_twice a c.args.len (n - 1) within (omega arith)).0 ∙ c.loop-self.invariant.front);
    }

pub returns : goal.returns
returns c =
    let a = c.loop-self.self in
    let end = c.loop-self-test.false in
    let same = c.len.ensures.same in
    let len = c.len.ensures.value in
    sym (cut_all a c.args.len (omega arith) (omega arith)) ∙ c.loop-self.invariant.front
