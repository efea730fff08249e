use Rattle.std.proofs.Common.{take, sym, subst}
use Rattle.std.specs.Prelude.{Contains}
use Rattle.std.proofs.lemmas.List.Elements.{Contains-push}
use Rattle.eq_cdcl.specs.inner.Assignment.{Assignment}
use Rattle.eq_cdcl.specs.inner.Asserting.{HasNoDecision}
use Rattle.eq_cdcl.specs.inner.Sound.{IsSound}
use Rattle.eq_cdcl.specs.inner.Watched.{Watching}
use Rattle.eq_cdcl.proofs.Started.{start_assigned, unit_true}
use Rattle.eq_cdcl.proofs.starting.start_unit.Goals as goal

pub returns-in_ok-attach_root-in-True-clause-bad :
    goal.returns-in_ok-attach_root-in-True-clause-bad
returns-in_ok-attach_root-in-True-clause-bad c =
    let e = c.in_ok-attach_root-in-True.ensures in
    unit_true c.args.known.now c.args.trail.now c.args.place c.args.watches.now c.attach_root.new.self c.args.l c.requires.watching c.requires.unit c.requires.root c.in-True.ensures.value.0 c.in-True.ensures.proper e.pairs e.lists e.head

pub returns-in_ok-attach_root-in-Unassigned-clause-sound :
    goal.returns-in_ok-attach_root-in-Unassigned-clause-sound
returns-in_ok-attach_root-in-Unassigned-clause-sound c =
    let known = c.args.known.now in
    let w = c.args.watches.now in
    let P : Assignment → Type 0 = λ b. IsSound known b in
    subst P (sym c.in_ok-imply-in-Unassigned.ensures.ok) (start_assigned known (take c.args.place known) c.args.trail.now w.head c.args.place w.pairs.items w.lists.items c.args.l c.requires.sound c.requires.watching c.requires.unit c.requires.root c.in-Unassigned.ensures.value c.requires.within).0

pub returns-in_ok-attach_root-in-Unassigned-clause-root :
    goal.returns-in_ok-attach_root-in-Unassigned-clause-root
returns-in_ok-attach_root-in-Unassigned-clause-root c =
    let known = c.args.known.now in
    let w = c.args.watches.now in
    let P : Assignment → Type 0 = λ b. HasNoDecision b.reasons in
    subst P (sym c.in_ok-imply-in-Unassigned.ensures.ok) (start_assigned known (take c.args.place known) c.args.trail.now w.head c.args.place w.pairs.items w.lists.items c.args.l c.requires.sound c.requires.watching c.requires.unit c.requires.root c.in-Unassigned.ensures.value c.requires.within).1

pub returns-in_ok-attach_root-in-Unassigned-clause-bad :
    goal.returns-in_ok-attach_root-in-Unassigned-clause-bad
returns-in_ok-attach_root-in-Unassigned-clause-bad c =
    let known = c.args.known.now in
    let a = c.args.trail.now in
    let w = c.args.watches.now in
    let new = c.imply.new.self in
    let is = c.in_ok-imply-in-Unassigned.ensures.ok in
    let one = start_assigned known (take c.args.place known) a w.head c.args.place w.pairs.items w.lists.items c.args.l c.requires.sound c.requires.watching c.requires.unit c.requires.root c.in-Unassigned.ensures.value c.requires.within in
    let P : Assignment → Type 0 = λ b. Watching (take c.args.place known) b w in
    let Q : Assignment → Type 0 = λ b. HasNoDecision b.reasons in
    let R : Assignment → Type 0 = λ b. Contains b.lits c.args.l in
    let e = c.in_ok-attach_root-in-Unassigned.ensures in
    unit_true known new c.args.place w c.attach_root-in-Unassigned.new.self c.args.l (subst P (sym is) one.2) c.requires.unit (subst Q (sym is) one.1) (subst R (sym is) (Contains-push a.lits c.args.l)) c.in-Unassigned.ensures.proper e.pairs e.lists e.head
