use Rattle.std.proofs.Common.{arith}
use Rattle.std.proofs.lemmas.List.{length_push}
use Rattle.eq_cdcl.proofs.Opening.{values_more}
use Rattle.eq_cdcl.proofs.search.values.Goals as goal

pub loop-before-preserved : goal.loop-before-preserved
loop-before-preserved c =
    let bits = c.loop-before.bits in
    record {
      len = rw c.in_ok-push.ensures.ok (omega (arith, length_push bits c.holds.result, c.loop-before.invariant.len));
      values = rw c.in_ok-push.ensures.ok (values_more c.args.trail.now.lits bits c.loop-before.before c.holds.result c.requires.consistent c.loop-before.invariant.len c.holds.ensures c.loop-before.invariant.values);
    }
