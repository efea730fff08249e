use Rattle.std.proofs.Common.{List, length, arith, sym, ap, subst, ◌∙◌}
use Rattle.eq_names.specs.declared.BitName.{BitName}
use Rattle.eq_net.specs.Tree.{tree_of, trees_of}
use Rattle.eq_verilog.specs.Trees.{net, expr_tree}
use Rattle.eq_analysis.specs.Finding.{scope_of}
use Rattle.eq_flatten.specs.Meant.{AreMeant}
use Rattle.eq_flatten.proofs.Assigned.{assigned, on_ok}
use Rattle.eq_flatten.proofs.MeantParts.{meant_of}
use Rattle.eq_flatten.proofs.linking.add_result.Goals as goal

pub returns : goal.returns
returns c =
    let nets = c.args.nets.now in
    let i = scope_of nets c.args.inner.now c.args.first in
    let o = scope_of nets c.args.names.now c.args.from in
    let t = expr_tree c.args.expr.now in
    on_ok c.equate.result (λ made.
    assigned nets o i t (net c.args.port.now) c.as_slice.result.now c.max-size.result c.in_ok-count.count
    (trees_of c.args.words.now) (trees_of c.args.words.now) (trees_of c.equate.new.words) (tree_of c.in_ok-made.made)
    c.args.slots.now c.equate.new.slots
    (subst (λ (bs : List BitName). AreMeant nets o t bs) (sym c.as_slice.ensures)
    (meant_of nets o t c.new-bits.result c.add_output.new.bits c.new-bits.ensures c.in_ok-add_output.ensures))
    c.requires.target.apart (c.in_ok-made.ensures (trees_of c.args.words.now))
    (let a = c.max-size.ensures in let b = c.width.ensures in omega (arith, a, b))
    (c.in_ok-count.ensures ∙ c.len.ensures ∙ ap (λ (bs : List BitName). length bs) (sym c.as_slice.ensures)) made)
    c.equate.ensures
