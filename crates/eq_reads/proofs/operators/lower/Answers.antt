use Rattle.std.proofs.Common.{◌-◌, length, arith}
use Rattle.std.proofs.lemmas.Result.{on_ok_weaker}
use Rattle.eq_reads.specs.declared.operators.Shape.TheVariants as shape
use Rattle.eq_reads.specs.inner.Leading.{PairLeads, UpLeads}
use Rattle.eq_reads.specs.inner.Shapes.{OperandsLead}
use Rattle.eq_reads.proofs.Rows.{row_then}
use Rattle.eq_reads.proofs.Shaped.{lower_leads}
use Rattle.eq_reads.proofs.operators.lower.Goals as goal

pub climb-requires-clause-are : goal.climb-requires-clause-are
climb-requires-clause-are c = c.in_ok-combine.ensures.nodes.are

pub climb-requires-clause-there : goal.climb-requires-clause-there
climb-requires-clause-there c = c.in_ok-combine.ensures.there

pub climb-requires-clause-from : goal.climb-requires-clause-from
climb-requires-clause-from c =
    let order = c.requires.order in
    let size = c.in_ok-combine.ensures.size in
    omega arith

pub climb-requires-clause-start : goal.climb-requires-clause-start
climb-requires-clause-start c =
    let room = c.requires.are.room in
    let later = c.in_ok-combine.ensures.nodes.later in
    omega arith

pub returns : goal.returns
returns c =
    let s = c.args.nodes.now in
    let row = c.args.row.now.items in
    let left = c.args.left in
    let right = c.args.right in
    let t = c.combine.new.nodes in
    let mid = c.combine.new.row.items in
    let f = c.in_ok-combine.ensures in
    let order = c.requires.order in
    let size = f.size in
    on_ok_weaker c.climb.result
    (λ h. row_then s row t mid c.climb.new.nodes c.climb.new.row.items left (right - left) (length mid - left)
    (right - left)
    (PairLeads s row left right) (UpLeads t mid left s.none) (OperandsLead shape.Lower s row left right)
    (omega arith) f (λ j x lt. lower_leads s row left right t mid f j x lt) h)
    c.climb.ensures
