use Rattle.std.proofs.Common.{length}
use Rattle.eq_part.proofs.Walked.{begun_walk, from_roots, to_all}
use Rattle.eq_part.proofs.reached.mark_all.Goals as goal

pub walk-requires-clause-begun : goal.walk-requires-clause-begun
walk-requires-clause-begun c =
    begun_walk c.args.edges.now (length c.args.roots.now) c.args.marks.now c.begin.new.marks c.args.queue.now.items c.begin.new.queue.items
    c.requires.marks c.requires.queue c.begin.auto.marks c.in_ok-begin.ensures.grew

pub returns-clause-reached : goal.returns-clause-reached
returns-clause-reached c = λ x is.
    from_roots c.args.edges.now (length c.args.roots.now) c.args.roots.now c.args.marks.now c.begin.new.marks c.requires.marks
    c.in_ok-begin.ensures.only x (c.in_ok-walk.ensures.reached x is)

pub returns-clause-marked : goal.returns-clause-marked
returns-clause-marked c = λ x r.
    to_all c.args.edges.now c.args.roots.now c.begin.new.marks c.walk.new.marks c.in_ok-begin.ensures.roots c.in_ok-walk.ensures.kept
    c.in_ok-walk.ensures.settled x r
