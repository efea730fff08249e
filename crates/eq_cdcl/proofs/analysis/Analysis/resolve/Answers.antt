use Rattle.std.proofs.Common.{ℕ, add-one, subst}
use Rattle.eq_proof.specs.Derivation.{HasNumber}
use Rattle.eq_cdcl.proofs.Marks.{reason_places, reason_number, reason_unit, resolved_count}
use Rattle.eq_cdcl.proofs.Resolving.{resolved_away}
use Rattle.eq_cdcl.proofs.analysis.Analysis.resolve.Goals as goal

pub numbered-requires-clause-from_one : goal.numbered-requires-clause-from_one
numbered-requires-clause-from_one c = rw c.from-clause.ensures ((reason_number c.args.known.now c.args.trail.now c.args.place c.args.number c.requires.sound c.requires.within c.requires.reason).0)

pub numbered-requires-clause-within : goal.numbered-requires-clause-within
numbered-requires-clause-within c = rw c.from-clause.ensures ((reason_number c.args.known.now c.args.trail.now c.args.place c.args.number c.requires.sound c.requires.within c.requires.reason).1)

pub mark_all-more-requires-clause-variables : goal.mark_all-more-requires-clause-variables
mark_all-more-requires-clause-variables c =
    let H : ℕ → Type 0 = λ n. HasNumber c.args.known.now n c.numbered.result.now in
    let has = subst H c.from-clause.ensures c.numbered.ensures in
    let u = reason_unit c.args.known.now c.args.trail.now c.args.place c.args.number c.numbered.result.now c.requires.sound c.requires.within c.requires.reason has in
    rw add-one (reason_places c.args.trail.now.lits c.numbered.result.now c.args.place u.0 u.1 u.2)

pub returns-clause-resolved : goal.returns-clause-resolved
returns-clause-resolved c =
    let H : ℕ → Type 0 = λ n. HasNumber c.args.known.now n c.numbered.result.now in
    let has = subst H c.from-clause.ensures c.numbered.ensures in
    let u = reason_unit c.args.known.now c.args.trail.now c.args.place c.args.number c.numbered.result.now c.requires.sound c.requires.within c.requires.reason has in
    let marks = rw add-one at c.mark_all-more.ensures.marks in
    rw (c.in_ok-push.ensures.items, c.from-clause.ensures, c.set.ensures) (resolved_away c.args.known.now c.args.trail.now.lits c.args.place c.args.self.now.marks c.mark_all-more.new.marks c.args.self.now.kept c.args.self.now.ants.items u.0 c.args.number c.numbered.result.now c.requires.sound.apart c.requires.resolved u.1 has u.2 marks)

pub returns-clause-counted : goal.returns-clause-counted
returns-clause-counted c = λ from.
    let count = rw add-one at c.mark_all-more.ensures.counted in
    let mark = c.mark_all-more.ensures.marks.kept c.args.place c.requires.marked in
    rw c.set.ensures (resolved_count c.args.self.now.marks c.mark_all-more.new.marks c.args.start c.args.place c.mark_all-more.result from mark count)
