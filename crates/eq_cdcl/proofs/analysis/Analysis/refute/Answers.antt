use Rattle.std.proofs.Common.{◌≡◌, ◌-◌, suc, sym, arith, []}
use Rattle.eq_cdcl.proofs.Resolving.{resolved_down}
use Rattle.eq_cdcl.proofs.analysis.Analysis.refute.Goals as goal

pub loop-place-preserved-then-not-is_marked : goal.loop-place-preserved-then-not-is_marked
loop-place-preserved-then-not-is_marked c =
    let n = c.loop-place.place in
    let more = c.loop-place-test.true in
    let e : n ≡ suc (n - 1) = omega arith in
    let within = c.loop-place.invariant.within in
    record {
      resolved = resolved_down c.args.known.now c.args.trail.now.lits n (n - 1) c.loop-place.self.marks [] c.loop-place.self.ants.items e c.loop-place.invariant.resolved (sym c.if-not-is_marked.ensures);
      kept = c.loop-place.invariant.kept;
      within = omega arith;
    }
