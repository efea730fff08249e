use Rattle.std.proofs.Common.{ℕ, ◌+◌, Bool, List, Vec, Global, arith, inl, subst, sym}
use Rattle.eq_part.proofs.Walked.{Begun, begun_other, begun_root, grew_not}
use Rattle.eq_part.proofs.reached.begin.Goals as goal
use Rattle.eq_part.proofs.reached.begin.Goals.{then-roots-node+in_ok-mark, else-roots-node}

pub loop-node-init : goal.loop-node-init
loop-node-init c = record {
  grew = grew_not c.args.marks.now c.args.queue.now.items;
  roots_are = λ x lt is. absurd (omega arith);
  only = λ x is. inl is;
}

pub loop-node-preserved : goal.loop-node-preserved
loop-node-preserved c =
    let at = c.loop-node in
    let roots = c.args.roots.now in
    let marks = c.args.marks.now in
    let queue = c.args.queue.now.items in
    let P = λ (ms : List Bool) (q : Vec ℕ Global). Begun roots marks ms queue q.items (at.node + 1) in
    elim c.if-roots-node.branch [
      | then-roots-node+in_ok-mark w ↦ subst (λ (ms : List Bool). P ms c.if-roots-node.queue) (sym w.marks-is)
          (subst (λ (q : Vec ℕ Global). P w.mark.new.marks q) (sym w.queue-is)
          (begun_root roots marks at.marks w.mark.new.marks queue at.queue.items w.mark.new.queue.items at.node at.auto.marks at.invariant
          w.if-roots-node.true w.in_ok-mark.ensures.grew w.in_ok-mark.ensures.marked w.in_ok-mark.ensures.others))
      | else-roots-node w ↦ subst (λ (ms : List Bool). P ms c.if-roots-node.queue) (sym w.marks-is)
          (subst (λ (q : Vec ℕ Global). P at.marks q) (sym w.queue-is)
          (begun_other roots marks at.marks queue at.queue.items at.node at.invariant w.if-roots-node.false))
    ]
