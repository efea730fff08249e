use Rattle.std.proofs.Common.{List, length, arith, sym, ap, subst, ◌∙◌}
use Rattle.eq_names.specs.declared.BitName.{BitName}
use Rattle.eq_net.specs.Tree.{tree_of, trees_of}
use Rattle.eq_verilog.specs.Trees.{net, expr_tree}
use Rattle.eq_analysis.specs.Finding.{scope_of}
use Rattle.eq_flatten.specs.Meant.{AreMeant}
use Rattle.eq_flatten.proofs.Assigned.{assigned, on_ok}
use Rattle.eq_flatten.proofs.linking.add_input.Goals as goal

pub returns : goal.returns
returns c =
    let nets = c.args.nets.now in
    let i = scope_of nets c.args.inner.now c.args.first in
    let o = scope_of nets c.args.names.now c.args.from in
    let t = net c.args.port.now in
    on_ok c.equate.result (λ made.
    assigned nets i o t (expr_tree c.args.expr.now) c.as_slice.result.now c.max-size.result c.in_ok-count.count
    (trees_of c.args.words.now) (trees_of c.word.new.words) (trees_of c.equate.new.words) (tree_of c.in_ok-made.made)
    c.args.slots.now c.equate.new.slots
    (subst (λ (bs : List BitName). AreMeant nets i t bs) (sym c.as_slice.ensures) c.in_ok-bits.ensures)
    c.requires.port.apart c.in_ok-made.ensures
    (let a = c.max-size.ensures in let b = c.own.ensures in omega (arith, a, b))
    (c.in_ok-count.ensures ∙ c.len.ensures ∙ ap (λ (bs : List BitName). length bs) (sym c.as_slice.ensures)) made)
    c.equate.ensures
