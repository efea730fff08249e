use Rattle.std.proofs.Common.{take, arith}
use Rattle.eq_proof.specs.Literal.{Literal}
use Rattle.eq_proof.proofs.Judging.{taken_more, read_member}
use Rattle.std.proofs.lemmas.List.Elements.{All-contains}
use Rattle.eq_cdcl.specs.inner.Slots.{HasVariable}
use Rattle.eq_cdcl.proofs.Counting.{opens_le}
use Rattle.eq_cdcl.proofs.Marks.{marks_more}
use Rattle.eq_cdcl.proofs.marking.mark_all.Goals as goal

pub mark-more-requires-clause-variable : goal.mark-more-requires-clause-variable
mark-more-requires-clause-variable c =
    let P : Literal → Type 0 = λ l. HasVariable (take c.args.end c.args.trail.now.lits) l.var in
    All-contains P c.args.clause.now c.l-item.result c.requires.variables (read_member c.args.clause.now c.loop-l.l-index c.l-item.result c.loop-l-test.true c.l-item.is)

pub overflow_add-more : goal.overflow_add-more
overflow_add-more c =
    let all = opens_le c.mark-more.new.marks c.args.start c.args.end in
    let now = c.mark-more.ensures.counted in
    let before = c.loop-l.invariant.counted in
    omega arith

pub loop-l-preserved : goal.loop-l-preserved
loop-l-preserved c =
    let more = taken_more c.args.clause.now c.loop-l.l-index c.l-item.result c.loop-l-test.true c.l-item.is in
    let now = c.mark-more.ensures.counted in
    let before = c.loop-l.invariant.counted in
    record {
      marks = rw more (marks_more c.args.trail.now.lits (take c.loop-l.l-index c.args.clause.now) c.args.end c.l-item.result c.args.marks.now c.loop-l.marks c.mark-more.new.marks c.loop-l.invariant.marks c.mark-more.ensures.marks);
      counted = omega arith;
    }
