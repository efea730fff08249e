use Rattle.std.proofs.Common.{true, arith, sym, inl}
use Rattle.std.proofs.lemmas.Option.{slice_get_within}
use Rattle.eq_cdcl.proofs.Counting.{opens_outside}
use Rattle.eq_cdcl.proofs.Marks.{place_below, marked_now, counted_now}
use Rattle.eq_cdcl.proofs.marking.mark.Goals as goal

pub returns-then-start-place-clause-counted : goal.returns-then-start-place-clause-counted
returns-then-start-place-clause-counted c =
    let place = c.place-place.result in
    let at = c.place-place.ensures in
    let below = place_below c.args.trail.now.lits c.args.end c.args.l.var place c.requires.apart c.requires.variable at in
    let within = slice_get_within c.args.trail.now.lits place at.0 at.1 in
    let room = c.requires.room in
    rw c.set.ensures (counted_now c.args.marks.now c.args.start c.args.end place (omega arith) below c.if-start-place.true (sym c.if-is_marked.ensures))

pub returns-then-start-place-clause-marks : goal.returns-then-start-place-clause-marks
returns-then-start-place-clause-marks c =
    let place = c.place-place.result in
    let at = c.place-place.ensures in
    let below = place_below c.args.trail.now.lits c.args.end c.args.l.var place c.requires.apart c.requires.variable at in
    let within = slice_get_within c.args.trail.now.lits place at.0 at.1 in
    let room = c.requires.room in
    rw c.set.ensures (marked_now c.args.trail.now.lits c.args.end place c.args.l c.args.marks.now c.requires.apart at below (omega arith))

pub returns-else-start-place-clause-marks : goal.returns-else-start-place-clause-marks
returns-else-start-place-clause-marks c =
    let place = c.place-place.result in
    let at = c.place-place.ensures in
    let below = place_below c.args.trail.now.lits c.args.end c.args.l.var place c.requires.apart c.requires.variable at in
    let within = slice_get_within c.args.trail.now.lits place at.0 at.1 in
    let room = c.requires.room in
    rw c.set.ensures (marked_now c.args.trail.now.lits c.args.end place c.args.l c.args.marks.now c.requires.apart at below (omega arith))

pub returns-else-start-place-clause-counted : goal.returns-else-start-place-clause-counted
returns-else-start-place-clause-counted c =
    let outside = opens_outside c.args.marks.now c.args.start c.args.end c.place-place.result true (inl c.if-start-place.false) in
    rw c.set.ensures (omega arith)
