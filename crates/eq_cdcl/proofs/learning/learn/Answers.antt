use Rattle.std.proofs.Common.{◌≡◌, ℕ, List, length, slice_get, Some, suc, arith, sym, ap, subst}
use Rattle.std.specs.Prelude.{Contains}
use Rattle.eq_proof.specs.Literal.{Literal}
use Rattle.eq_proof.specs.Inference.{Inference}
use Rattle.eq_proof.specs.Derivation.{IsDerivation}
use Rattle.eq_cdcl.specs.inner.Resolved.{IsResolved}
use Rattle.eq_cdcl.specs.inner.Asserting.{Keeps}
use Rattle.eq_cdcl.proofs.Resolving.{resolved_kept, resolved_end, resolved_below}
use Rattle.eq_cdcl.proofs.Asserted.{asserts_start, asserted_unit, asserted_second, asserted_fresh, asserted_sound}
use Rattle.eq_cdcl.proofs.learning.learn.Goals as goal

pub collect-requires-clause-resolved : goal.collect-requires-clause-resolved
collect-requires-clause-resolved c =
    let known = c.args.known.now in
    let lits = c.args.trail.now.lits in
    let uip = c.in_ok-uip.uip in
    let old = c.find_uip.new.self in
    let new = c.keep.new.self in
    let P : List Literal → Type 0 = λ kept. IsResolved known lits (suc uip) old.marks kept old.ants.items in
    let Q : List ℕ → Type 0 = λ ants. IsResolved known lits uip new.marks new.kept ants in
    let before = subst P (sym c.in_ok-uip.ensures.kept) c.in_ok-uip.ensures.resolved in
    let ants : old.ants.items ≡ new.ants.items = ap (λ v. v.items) (sym c.in_ok-keep.ensures.ants) in
    subst Q ants (resolved_kept known lits uip old.marks new.marks old.kept new.kept old.ants.items before c.in_ok-keep.ensures.kept c.in_ok-keep.ensures.marks)

pub collect-requires-clause-asserts : goal.collect-requires-clause-asserts
collect-requires-clause-asserts c =
    let lits = c.args.trail.now.lits in
    let uip = c.in_ok-uip.uip in
    let old = c.find_uip.new.self in
    let new = c.keep.new.self in
    let P : List Literal → Type 0 = λ kept. Keeps lits uip kept new.kept in
    asserts_start lits c.args.trail.now.reasons uip c.args.start old.marks new.marks new.kept c.in_ok-keep.ensures.marks (subst P c.in_ok-uip.ensures.kept c.in_ok-keep.ensures.kept) c.in_ok-uip.ensures.last c.in_ok-uip.ensures.from c.requires.start.decision

pub first_of-literal-requires : goal.first_of-literal-requires
first_of-literal-requires c =
    let b = c.in_ok-cut.ensures.asserts.2 in
    let kept = c.collect.new.self.kept in
    let len = ap (λ (xs : List Literal). length xs) b.kept_is in
    let at = ap (λ (xs : List Literal). length xs) c.as_slice.ensures in
    omega arith

pub returns-clause-teaches : goal.returns-clause-teaches
returns-clause-teaches c =
    let known = c.args.known.now in
    let trail = c.args.trail.now in
    let a = c.collect.new.self in
    let clause = c.in_ok-step.step.clause in
    let P : List ℕ → Type 0 = λ ants. let step : Inference = record { clause = clause; ants = ants } in IsDerivation known step in
    let few : (l : Literal) → Contains clause l → Contains a.kept l = λ l. (c.in_ok-step.ensures.members l).0 in
    let many : (l : Literal) → Contains a.kept l → Contains clause l = λ l. (c.in_ok-step.ensures.members l).1 in
    let asserts = c.in_ok-cut.ensures.asserts in
    let sound = asserted_sound known trail c.in_ok-uip.uip c.in_ok-cut.cut a.marks a.kept clause c.requires.sound asserts many in
    let Q : List Literal → Type 0 = λ ls. slice_get ls 0 ≡ Some c.first_of-literal.result in
    let unit = asserted_unit known trail c.in_ok-uip.uip c.in_ok-cut.cut a.marks a.kept clause c.first_of-literal.result c.requires.sound asserts few many (subst Q c.as_slice.ensures c.first_of-literal.ensures) in
    record {
      derived = subst P (sym c.in_ok-step.ensures.ants) (resolved_end known trail.lits a.marks a.kept a.ants.items clause c.requires.sound.apart c.in_ok-cut.ensures.resolved few many);
      fresh = asserted_fresh known trail c.in_ok-uip.uip c.in_ok-cut.cut a.marks a.kept clause c.first_of-literal.result c.requires.sound asserts unit;
      below = resolved_below known trail.lits trail.size a.marks a.kept a.ants.items clause c.in_ok-cut.ensures.resolved c.requires.sound.within few;
      cut = sound.0;
      decision = asserts.2.decision;
      sound = sound.1;
      unit = unit;
      second = asserted_second trail c.in_ok-uip.uip c.in_ok-cut.cut a.marks a.kept clause c.second_of-second.result c.requires.sound.apart asserts many c.second_of-second.ensures;
    }
