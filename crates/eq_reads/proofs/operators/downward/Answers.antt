use Rattle.std.proofs.Common.{◌+◌, ◌-◌, length, arith}
use Rattle.std.proofs.lemmas.Result.{on_ok_weaker}
use Rattle.eq_reads.specs.declared.operators.Shape.TheVariants as shape
use Rattle.eq_reads.specs.inner.Leading.{DownLeads}
use Rattle.eq_reads.specs.Words.{LeadsTo, number_at}
use Rattle.eq_reads.specs.inner.Shapes.{OperandsLead}
use Rattle.eq_reads.proofs.Rows.{row_kept, row_then}
use Rattle.eq_reads.proofs.Shaped.{downward_leads}
use Rattle.eq_reads.proofs.operators.downward.Goals as goal

pub descend-requires-clause-are : goal.descend-requires-clause-are
descend-requires-clause-are c = c.in_ok-amount.ensures.grew.are

pub descend-requires-clause-there : goal.descend-requires-clause-there
descend-requires-clause-there c =
    (row_kept c.args.nodes.now c.args.row.now.items c.gather.new.nodes c.cut.new.row.items c.args.left c.args.right
    c.requires.there c.requires.order c.requires.right
    c.in_ok-amount.ensures.grew c.cut.ensures.size c.cut.ensures.kept).there

pub returns : goal.returns
returns c =
    let s = c.args.nodes.now in
    let row = c.args.row.now.items in
    let left = c.args.left in
    let right = c.args.right in
    let t = c.gather.new.nodes in
    let mid = c.cut.new.row.items in
    let amount = c.in_ok-amount.amount in
    let grew = c.in_ok-amount.ensures.grew in
    let order = c.requires.order in
    let size = c.cut.ensures.size in
    let f = row_kept s row t mid left right c.requires.there order c.requires.right grew size c.cut.ensures.kept in
    on_ok_weaker c.descend.result
    (λ h. row_then s row t mid c.descend.new.nodes c.descend.new.row.items left (right - left) (length mid - left)
    (right - left)
    (λ j x. LeadsTo t (number_at mid (left + j)) x) (DownLeads t mid left amount) (OperandsLead shape.Downward s row
    left right) (omega arith) f
    (λ j x lt. downward_leads s row left right t mid amount c.requires.are c.requires.there order c.requires.right
    grew size c.cut.ensures.kept c.in_ok-amount.ensures.ok j x lt) h)
    c.descend.ensures
