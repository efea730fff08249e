use Rattle.std.proofs.Common.{◌-◌, refl, sym, subst}
use Rattle.std.proofs.lemmas.Result.{on_ok_weaker}
use Rattle.eq_reads.specs.declared.operators.Shape.{Shape}
use Rattle.eq_reads.specs.declared.operators.Shape.TheVariants as shape
use Rattle.eq_reads.specs.inner.Leading.{PairLeads, RowGrew}
use Rattle.eq_reads.specs.inner.Shapes.{AllLead, IsPaired, OperandsLead, size_of}
use Rattle.eq_reads.proofs.Rows.{row_same}
use Rattle.eq_reads.proofs.Shaped.{same_leads, whole_leads}
use Rattle.eq_reads.proofs.operators.operate.Goals as goal

pub combine-requires-clause-size : goal.combine-requires-clause-size
combine-requires-clause-size c = c.requires.paired (subst IsPaired (sym c.in-Same.is) tt)

pub lower-requires-clause-size : goal.lower-requires-clause-size
lower-requires-clause-size c = c.requires.paired (subst IsPaired (sym c.in-Lower.is) tt)

pub returns-in-Same : goal.returns-in-Same
returns-in-Same c =
    let s = c.args.nodes.now in
    let row = c.args.row.now.items in
    let left = c.args.left in
    let right = c.args.right in
    let n = right - left in
    let P : Shape → Type 0 = λ o. RowGrew s row c.combine.new.nodes c.combine.new.row.items left (size_of o n)
    (OperandsLead o s row left right) in
    on_ok_weaker c.combine.result
    (λ h. subst P (sym c.in-Same.is)
    (row_same s row c.combine.new.nodes c.combine.new.row.items left n n (PairLeads s row left right)
    (OperandsLead shape.Same s row left right) refl (λ j x lt. same_leads s row left right j x) h))
    c.combine.ensures

pub returns-in-Lower : goal.returns-in-Lower
returns-in-Lower c =
    let s = c.args.nodes.now in
    let row = c.args.row.now.items in
    let left = c.args.left in
    let right = c.args.right in
    let n = right - left in
    let P : Shape → Type 0 = λ o. RowGrew s row c.lower.new.nodes c.lower.new.row.items left (size_of o n)
    (OperandsLead o s row left right) in
    on_ok_weaker c.lower.result
    (λ h. subst P (sym c.in-Lower.is)
    (h))
    c.lower.ensures

pub returns-in-Upward : goal.returns-in-Upward
returns-in-Upward c =
    let s = c.args.nodes.now in
    let row = c.args.row.now.items in
    let left = c.args.left in
    let right = c.args.right in
    let n = right - left in
    let P : Shape → Type 0 = λ o. RowGrew s row c.upward.new.nodes c.upward.new.row.items left (size_of o n)
    (OperandsLead o s row left right) in
    on_ok_weaker c.upward.result
    (λ h. subst P (sym c.in-Upward.is)
    (h))
    c.upward.ensures

pub returns-in-Downward : goal.returns-in-Downward
returns-in-Downward c =
    let s = c.args.nodes.now in
    let row = c.args.row.now.items in
    let left = c.args.left in
    let right = c.args.right in
    let n = right - left in
    let P : Shape → Type 0 = λ o. RowGrew s row c.downward.new.nodes c.downward.new.row.items left (size_of o n)
    (OperandsLead o s row left right) in
    on_ok_weaker c.downward.result
    (λ h. subst P (sym c.in-Downward.is)
    (h))
    c.downward.ensures

pub returns-in-Whole : goal.returns-in-Whole
returns-in-Whole c =
    let s = c.args.nodes.now in
    let row = c.args.row.now.items in
    let left = c.args.left in
    let right = c.args.right in
    let n = right - left in
    let P : Shape → Type 0 = λ o. RowGrew s row c.whole.new.nodes c.whole.new.row.items left (size_of o n)
    (OperandsLead o s row left right) in
    on_ok_weaker c.whole.result
    (λ h. subst P (sym c.in-Whole.is)
    (row_same s row c.whole.new.nodes c.whole.new.row.items left 1 1 (AllLead s row left)
    (OperandsLead shape.Whole s row left right) refl (λ j x lt. whole_leads s row left right j x c.requires.order
    c.requires.right lt) h))
    c.whole.ensures
