use Rattle.std.proofs.Common.{◌≡◌, ◌-◌, suc, ℕ, arith, subst, ◌∙◌}
use Rattle.eq_cdcl.specs.inner.Asserting.{Asserts}
use Rattle.eq_cdcl.proofs.Asserted.{asserts_cut, asserts_stay}
use Rattle.eq_cdcl.proofs.analysis.Analysis.collect.Goals as goal

pub loop-place-preserved-then-begins_level : goal.loop-place-preserved-then-begins_level
loop-place-preserved-then-begins_level c =
    let n = c.loop-place.place in
    let more = c.loop-place-test.true in
    let e : n ≡ suc (n - 1) = omega arith in
    let end = c.loop-place.auto.place in
    let a = c.args.trail.now in
    let old = c.loop-place.self in
    let new = c.settle.new.self in
    let P : ℕ → Type 0 = λ k. Asserts a.lits a.reasons c.args.uip k old.marks old.kept c.loop-place.cut in
    let step = c.in_ok-settle.ensures in
    record {
      resolved = step.resolved;
      asserts = asserts_cut a.lits a.reasons c.args.uip (n - 1) old.marks new.marks old.kept new.kept c.loop-place.cut (subst P e c.loop-place.invariant.asserts) step.settles (omega arith) (c.begins_level.ensures.0 c.if-begins_level.true);
      room = step.room ∙ c.loop-place.invariant.room;
    }

pub loop-place-preserved : goal.loop-place-preserved
loop-place-preserved c =
    let n = c.loop-place.place in
    let more = c.loop-place-test.true in
    let e : n ≡ suc (n - 1) = omega arith in
    let a = c.args.trail.now in
    let old = c.loop-place.self in
    let new = c.settle.new.self in
    let P : ℕ → Type 0 = λ k. Asserts a.lits a.reasons c.args.uip k old.marks old.kept c.loop-place.cut in
    let step = c.in_ok-settle.ensures in
    record {
      resolved = step.resolved;
      asserts = asserts_stay a.lits a.reasons c.args.uip (n - 1) old.marks new.marks old.kept new.kept c.loop-place.cut (subst P e c.loop-place.invariant.asserts) step.settles (λ both. let clash = c.if-begins_level.ensures.1 both in absurd (cc)) step.resolved.above;
      room = step.room ∙ c.loop-place.invariant.room;
    }
