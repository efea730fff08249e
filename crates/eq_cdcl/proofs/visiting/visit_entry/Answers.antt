use Rattle.std.proofs.Common.{refl}
use Rattle.eq_cdcl.proofs.Visited.{blocker_below, seen_blocked, visiting_seen}
use Rattle.eq_cdcl.proofs.visiting.visit_entry.Goals as goal

pub is_true-requires : goal.is_true-requires
is_true-requires c =
    let w = c.args.watches.now in
    (blocker_below c.args.known.now c.args.trail.now w.head w.pairs.items w.lists.items c.args.l c.args.i c.entry-watch.result c.requires.below c.requires.visiting.watched c.entry-watch.ensures).0

pub pair-requires : goal.pair-requires
pair-requires c =
    let w = c.args.watches.now in
    (blocker_below c.args.known.now c.args.trail.now w.head w.pairs.items w.lists.items c.args.l c.args.i c.entry-watch.result c.requires.below c.requires.visiting.watched c.entry-watch.ensures).1

pub returns-then-is_true-clause-visits : goal.returns-then-is_true-clause-visits
returns-then-is_true-clause-visits c =
    let known = c.args.known.now in
    let a = c.args.trail.now in
    let w = c.args.watches.now in
    let v = c.requires.visiting in
    let watch = c.entry-watch.result in
    let holds = c.is_true.ensures c.if-is_true.true in
    (visiting_seen known a w.head w.pairs.items w.lists.items c.args.l c.args.i watch v c.entry-watch.ensures (seen_blocked known a w.head w.pairs.items w.lists.items c.args.l c.args.i watch v.watched c.entry-watch.ensures holds.0 holds.1), refl)
