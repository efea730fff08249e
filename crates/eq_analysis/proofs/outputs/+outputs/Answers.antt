use Rattle.std.proofs.Common.{◌≡◌, ◌+◌, Option, Bor, Some, None, length, arith, ap, sym, subst}
use Rattle.std.specs.Prelude.{option_copied}
use Rattle.eq_names.specs.declared.name.Name.{Name as TheName}
use Rattle.eq_verilog.specs.Trees.{expr_tree}
use Rattle.eq_verilog.specs.TargetRefusals.{leaves}
use Rattle.eq_analysis.specs.declared.targets.Right.TheVariants.{Driven}
use Rattle.eq_analysis.specs.Tabling.{tree_at}
use Rattle.eq_analysis.specs.inner.Targeting.{AreThrough}
use Rattle.eq_analysis.proofs.TargetLemmas.{parts_next, parts_stop, parts_all}
use Rattle.eq_analysis.proofs.outputs.+outputs.Goals as goal

pub in_outputs-returns-in-Some : goal.in_outputs-returns-in-Some
in_outputs-returns-in-Some t c =
    let m = tree_at c.args.table.now in
    let x = c.part-item.result in
    let i = c.loop-part.part-index in
    let found = ap (λ (o : Option (Bor TheName)). option_copied o) c.in-Some.is in
    parts_stop m Driven expr_tree c.args.parts.now (i + 1) c.args.marks.now c.in_output.new.marks
    c.in-Some.name.now
    (parts_next m Driven expr_tree c.args.parts.now i x x c.args.marks.now c.loop-part.marks
    c.in_output.new.marks (Some c.in-Some.name.now) c.loop-part-test.true (sym c.part-item.is) c.loop-part.invariant
    (subst (λ o. AreThrough m Driven (leaves (expr_tree x)) c.loop-part.marks c.in_output.new.marks o) found
    c.in_ok-name.ensures))

pub in_outputs-loop-part-preserved : goal.in_outputs-loop-part-preserved
in_outputs-loop-part-preserved t c =
    let m = tree_at c.args.table.now in
    let x = c.part-item.result in
    let found = ap (λ (o : Option (Bor TheName)). option_copied o) c.in_default.is in
    parts_next m Driven expr_tree c.args.parts.now c.loop-part.part-index x x c.args.marks.now
    c.loop-part.marks c.in_output.new.marks None c.loop-part-test.true (sym c.part-item.is) c.loop-part.invariant
    (subst (λ o. AreThrough m Driven (leaves (expr_tree x)) c.loop-part.marks c.in_output.new.marks o) found
    c.in_ok-name.ensures)

pub in_outputs-returns : goal.in_outputs-returns
in_outputs-returns t c =
    let last = c.loop-part-test.false in
    let within = c.loop-part.auto.part-index-end in
    let end : c.loop-part.part-index ≡ length c.args.parts.now = omega arith in
    parts_all (tree_at c.args.table.now) Driven expr_tree c.args.parts.now c.loop-part.part-index
    c.args.marks.now c.loop-part.marks end c.loop-part.invariant
