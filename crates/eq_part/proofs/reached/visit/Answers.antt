use Rattle.std.proofs.Common.{◌≡◌, ℕ, suc, ◌-◌, length, arith, subst}
use Rattle.eq_part.proofs.Walked.{Visiting, before_lower, element, visiting_none, visiting_one}
use Rattle.eq_part.proofs.reached.visit.Goals as goal

pub loop-link-init : goal.loop-link-init
loop-link-init c =
    let links = c.args.links.now in
    let size = c.requires.links.nodes_are in
    let node = c.requires.node in
    visiting_none c.args.edges.now c.args.node c.index-link.result.now (length c.args.marks.now) links.last.items links.before.items
    c.args.marks.now c.args.queue.now.items c.requires.links node (element links.last.items c.args.node c.index-link.result.now (omega arith) c.index-link.ensures)

pub loop-link-smaller : goal.loop-link-smaller
loop-link-smaller c =
    let links = c.args.links.now in
    let e = c.loop-link.link - 1 in
    let within = c.loop-link.invariant.within in
    let some = c.loop-link-test.true in
    let size = c.requires.links.edges_are in
    let lower = before_lower c.args.edges.now c.args.node e (length c.args.marks.now) links.last.items links.before.items c.requires.links (omega arith) in
    let is = element links.before.items e c.index-link-in-loop-link.result.now (omega arith) c.index-link-in-loop-link.ensures in
    omega arith

pub loop-link-preserved : goal.loop-link-preserved
loop-link-preserved c =
    let links = c.args.links.now in
    let e = c.loop-link.link - 1 in
    let within = c.loop-link.invariant.within in
    let some = c.loop-link-test.true in
    let size = c.requires.links.edges_are in
    let is = element links.before.items e c.index-link-in-loop-link.result.now (omega arith) c.index-link-in-loop-link.ensures in
    let at : c.loop-link.link ≡ suc e = omega arith in
    let V : ℕ → Type 0 = λ k. Visiting c.args.edges.now c.args.node k c.args.marks.now c.loop-link.marks c.args.queue.now.items c.loop-link.queue.items in
    visiting_one c.args.edges.now c.args.node e c.index-link-in-loop-link.result.now (length c.args.marks.now) links.last.items links.before.items
    c.args.marks.now c.loop-link.marks c.mark.new.marks c.args.queue.now.items c.loop-link.queue.items c.mark.new.queue.items
    c.requires.links c.loop-link.auto.marks is (subst V at c.loop-link.invariant)
    c.in_ok-mark.ensures.grew c.in_ok-mark.ensures.marked c.in_ok-mark.ensures.others
