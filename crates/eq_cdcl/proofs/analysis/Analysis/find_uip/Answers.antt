use Rattle.std.proofs.Common.{◌≡◌, ◌≤◌, ◌-◌, suc, inl, inr, sym, ap, arith, []}
use Rattle.std.proofs.lemmas.Bool.{cases_lt}
use Rattle.eq_cdcl.specs.inner.Resolved.{opens}
use Rattle.eq_cdcl.proofs.Counting.{opens_miss, opens_hit, opens_none, opens_le}
use Rattle.eq_cdcl.proofs.Resolving.{resolved_down}
use Rattle.eq_cdcl.proofs.analysis.Analysis.find_uip.Goals as goal

pub loop-place-preserved-then-not-is_marked : goal.loop-place-preserved-then-not-is_marked
loop-place-preserved-then-not-is_marked c =
    let n = c.loop-place.place in
    let more = c.loop-place-test.true in
    let e : n ≡ suc (n - 1) = omega arith in
    let marks = c.loop-place.self.marks in
    let none = sym c.if-not-is_marked.ensures in
    let here = ap (λ k. opens marks c.args.start k) e in
    let miss = opens_miss marks c.args.start (n - 1) none in
    let before = c.loop-place.invariant.counted in
    let within = c.loop-place.invariant.within in
    record {
      resolved = resolved_down c.args.known.now c.args.trail.now.lits n (n - 1) marks [] c.loop-place.self.ants.items e c.loop-place.invariant.resolved none;
      counted = omega (arith, here, miss, before);
      some = c.loop-place.invariant.some;
      kept = c.loop-place.invariant.kept;
      within = omega arith;
      room = c.loop-place.invariant.room;
    }

pub overflow_add-count : goal.overflow_add-count
overflow_add-count c =
    let n = c.loop-place.place in
    let more = c.loop-place-test.true in
    let e : n ≡ suc (n - 1) = omega arith in
    let here = ap (λ k. opens c.loop-place.self.marks c.args.start k) e in
    let from : c.args.start ≤ n - 1 = omega arith in
    let count = c.in_ok-more-in-Implied.ensures.counted from in
    let all = opens_le c.resolve.new.self.marks c.args.start (n - 1) in
    let before = c.loop-place.invariant.counted in
    let end = c.loop-place.auto.place in
    let fits = c.len-place.type_inv in
    omega (arith, here, count, all, before, end, fits)

pub unreachable-requires : goal.unreachable-requires
unreachable-requires c =
    let n = c.loop-place.place in
    let more = c.loop-place-test.true in
    let e : n ≡ suc (n - 1) = omega arith in
    let marks = c.loop-place.self.marks in
    let here = ap (λ k. opens marks c.args.start k) e in
    let before = c.loop-place.invariant.counted in
    let hit = opens_hit marks c.args.start (n - 1) (omega arith) (sym c.if-not-is_marked.ensures) in
    elim (cases_lt c.args.start (n - 1)) [
      | inl lt ↦ c.requires.start.last (n - 1) lt c.in-Decision.ensures.value
      | inr ge ↦ c.if-count-eq1.false (omega (arith, here, before, hit, opens_none marks c.args.start (n - 1) ge))
    ]

pub unreachable-requires-2 : goal.unreachable-requires-2
unreachable-requires-2 c =
    let none = opens_none c.loop-place.self.marks c.args.start c.loop-place.place c.loop-place-test.false in
    let count = c.loop-place.invariant.counted in
    let some = c.loop-place.invariant.some in
    omega (arith, none, count, some)
