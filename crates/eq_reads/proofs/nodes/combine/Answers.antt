use Rattle.std.proofs.Common.{◌≡◌, ℕ, ◌+◌, ◌-◌, refl, arith, subst, inr}
use Rattle.eq_reads.specs.inner.Leading.{PairLeads}
use Rattle.eq_reads.proofs.Swept.{CombineLeads, Swept, combined_leads, pair_leads, sweep_none, sweep_up, swept_row}
use Rattle.eq_reads.proofs.nodes.combine.Goals as goal

pub loop-j-init : goal.loop-j-init
loop-j-init c =
    let s = c.args.nodes.now in
    let row = c.args.row.now.items in
    let left = c.args.left in
    let P = CombineLeads s row left c.args.right in
    let at : left ≡ left + 0 = omega arith in
    subst (λ (top : ℕ). Swept s row s row left top P) at (sweep_none s row left P c.requires.are)

pub both-requires-clause-are : goal.both-requires-clause-are
both-requires-clause-are c = c.loop-j.invariant.nodes.are

pub both-requires-clause-left : goal.both-requires-clause-left
both-requires-clause-left c =
    let test = c.loop-j-test.true in
    let size = c.requires.size in
    let is = c.node_at.ensures in
    let k = c.args.left + c.loop-j.j in
    let same = c.loop-j.invariant.rest k (inr (omega arith)) in
    let l = c.requires.there k (omega arith) in
    let later = c.loop-j.invariant.nodes.later in
    omega arith

pub both-requires-clause-right : goal.both-requires-clause-right
both-requires-clause-right c =
    let test = c.loop-j-test.true in
    let size = c.requires.size in
    let order = c.requires.order in
    let is = c.node_at-in-loop-j.ensures in
    let k = c.args.right + c.loop-j.j in
    let same = c.loop-j.invariant.rest k (inr (omega arith)) in
    let l = c.requires.there k (omega arith) in
    let later = c.loop-j.invariant.nodes.later in
    omega arith

pub loop-j-preserved : goal.loop-j-preserved
loop-j-preserved c =
    let s = c.args.nodes.now in
    let row = c.args.row.now.items in
    let t = c.loop-j.nodes in
    let before = c.loop-j.row.items in
    let now = c.both.new.nodes in
    let after = c.put.new.row.items in
    let left = c.args.left in
    let right = c.args.right in
    let j = c.loop-j.j in
    let node = c.in_ok-node.node in
    let test = c.loop-j-test.true in
    let order = c.requires.order in
    let size = c.requires.size in
    let P = CombineLeads s row left right in
    sweep_up s row t before now after (left + j) node P c.put.ensures.size c.put.ensures.there c.put.ensures.below
    c.put.ensures.above
    c.in_ok-node.ensures.grew c.in_ok-node.ensures.ok.there
    (combined_leads s row t before now left right j c.node_at.result c.node_at-in-loop-j.result node P c.requires.are
    c.requires.there order (omega arith) size
    c.loop-j.invariant c.node_at.ensures c.node_at-in-loop-j.ensures c.in_ok-node.ensures.ok)
    left (left + j) (left + (j + 1)) (omega arith) refl (omega arith) c.loop-j.invariant

pub returns : goal.returns
returns c =
    let s = c.args.nodes.now in
    let row = c.args.row.now.items in
    let left = c.args.left in
    let right = c.args.right in
    let order = c.requires.order in
    let size = c.requires.size in
    let test = c.loop-j-test.false in
    let end = c.loop-j.auto.j-end in
    let P = CombineLeads s row left right in
    let at : left + c.loop-j.j ≡ right = omega arith in
    swept_row s row c.loop-j.nodes c.loop-j.row.items c.cut.new.row.items left right (right - left) P
    (PairLeads s row left right)
    c.requires.there order (omega arith) refl c.cut.ensures.size c.cut.ensures.kept
    (λ j x lt. pair_leads s row left right j x order)
    (subst (λ (top : ℕ). Swept s row c.loop-j.nodes c.loop-j.row.items left top P) at c.loop-j.invariant)
