use Rattle.std.proofs.Common.{◌≡◌, ◌<◌, ℕ, Some, slice_get, refl, arith, subst}
use Rattle.std.proofs.lemmas.List.Elements.{All-contains}
use Rattle.std.proofs.lemmas.Option.{slice_get_within}
use Rattle.std.proofs.lemmas.Result.{IfOk-weaker}
use Rattle.eq_proof.specs.Assigned.{AllBelow}
use Rattle.eq_proof.specs.Literal.{Literal}
use Rattle.eq_proof.proofs.Lists.{All-at}
use Rattle.eq_cdcl.specs.inner.Watched.{list_of}
use Rattle.eq_cdcl.specs.inner.Visiting.{Implies, Visits}
use Rattle.eq_cdcl.proofs.Moving.{moved_visits}
use Rattle.eq_cdcl.proofs.Visited.{entry_below, entry_clause, implied_visits, list_within, visiting_true}
use Rattle.eq_cdcl.proofs.visiting.visit_clause.Goals as goal

pub is_true-requires : goal.is_true-requires
is_true-requires c =
    let w = c.args.watches.now in
    entry_below c.args.known.now c.args.trail.now w.head w.pairs.items w.lists.items c.args.l c.args.other c.args.i c.args.clause c.requires.below c.requires.visiting.watched c.requires.entry

pub returns-then-is_true-clause-visits : goal.returns-then-is_true-clause-visits
returns-then-is_true-clause-visits c =
    let holds = c.is_true.ensures c.if-is_true.true in
    (visiting_true c.args.known.now c.args.trail.now c.args.watches.now c.args.l c.args.other c.args.i c.args.clause c.requires.visiting c.requires.entry holds.0 holds.1, refl)

pub at-requires : goal.at-requires
at-requires c =
    let w = c.args.watches.now in
    let at = entry_clause c.args.known.now c.args.trail.now w.head w.pairs.items w.lists.items c.args.l c.args.other c.args.i c.args.clause c.requires.visiting.watched c.requires.entry in
    let within = slice_get_within c.args.known.now c.args.clause at.0 at.1 in
    let same = c.from.ensures in
    omega arith

pub another-requires : goal.another-requires
another-requires c = All-at (AllBelow c.args.trail.now.size) c.args.known.now c.from.result c.at.result.now c.at.ensures.clause c.requires.below

pub shift-requires-clause-next : goal.shift-requires-clause-next
shift-requires-clause-next c =
    let a = c.args.trail.now in
    let w = c.args.watches.now in
    let all = All-at (AllBelow a.size) c.args.known.now c.from.result c.at.result.now c.at.ensures.clause c.requires.below in
    let below = All-contains (λ (m : Literal). m.var < a.size) c.at.result.now c.in-Some.next all c.in-Some.ensures.member in
    list_within c.args.known.now a w.head w.pairs.items w.lists.items c.in-Some.next c.requires.visiting.watched below

pub shift-requires-clause-i : goal.shift-requires-clause-i
shift-requires-clause-i c = slice_get_within (list_of c.args.watches.now.lists.items c.args.l) c.args.i c.requires.entry.watch c.requires.entry.at

pub shift-requires-clause-clause : goal.shift-requires-clause-clause
shift-requires-clause-clause c = slice_get_within c.args.watches.now.pairs.items c.args.clause c.requires.entry.pair c.requires.entry.paired

pub imply-requires : goal.imply-requires
imply-requires c =
    let w = c.args.watches.now in
    entry_below c.args.known.now c.args.trail.now w.head w.pairs.items w.lists.items c.args.l c.args.other c.args.i c.args.clause c.requires.below c.requires.visiting.watched c.requires.entry

pub returns-in_ok-shift-in-Some-clause-visits : goal.returns-in_ok-shift-in-Some-clause-visits
returns-in_ok-shift-in-Some-clause-visits c =
    let known = c.args.known.now in
    let P : ℕ → Type 0 = λ n. slice_get known n ≡ Some c.at.result.now in
    moved_visits known c.args.trail.now c.args.watches.now c.shift.new.self c.args.l c.args.other c.in-Some.next c.args.i c.args.clause c.at.result.now c.requires.visiting c.requires.entry (subst P c.from.ensures c.at.ensures.clause) c.in-Some.ensures c.in_ok-shift-in-Some.ensures.ok c.in_ok-shift-in-Some.ensures.head

pub returns-in-None-clause-visits : goal.returns-in-None-clause-visits
returns-in-None-clause-visits c =
    let known = c.args.known.now in
    let a = c.args.trail.now in
    let w = c.args.watches.now in
    let new = c.imply.new.trail in
    let P : ℕ → Type 0 = λ n. slice_get known n ≡ Some c.at.result.now in
    let below = entry_below known a w.head w.pairs.items w.lists.items c.args.l c.args.other c.args.i c.args.clause c.requires.below c.requires.visiting.watched c.requires.entry in
    IfOk-weaker c.imply.result (Implies a new c.args.other c.args.clause) (Visits known new w w c.args.l c.args.i) (λ v h. implied_visits known a new w c.args.l c.args.other c.args.i c.args.clause c.at.result.now v c.requires.visiting c.requires.entry (subst P c.from.ensures c.at.ensures.clause) c.in-None.ensures below h) c.imply.ensures.implies
