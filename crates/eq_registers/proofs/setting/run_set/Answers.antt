use Rattle.std.proofs.Common.{List, length, arith, sym, ap, subst, ◌∙◌}
use Rattle.eq_names.specs.declared.BitName.{BitName}
use Rattle.eq_net.specs.Tree.{tree_of, trees_of}
use Rattle.eq_verilog.specs.Trees.{expr_tree, target_tree}
use Rattle.eq_analysis.specs.Finding.{scope_of}
use Rattle.eq_flatten.specs.Meant.{AreMeant}
use Rattle.eq_registers.proofs.Grown.{trees_length, trees_more}
use Rattle.eq_registers.proofs.Written.{meant_alone, meant_keyed, set_made}
use Rattle.eq_registers.proofs.setting.run_set.Goals as goal

pub put_all-requires-clause-keyed : goal.put_all-requires-clause-keyed
put_all-requires-clause-keyed c =
    let nets = c.args.nets.now in
    let s = scope_of nets c.args.names.now c.args.from in
    let t = target_tree c.args.target.now in
    meant_keyed nets c.args.starts.now c.requires.starts s t (expr_tree c.args.expr.now) c.args.keys.now.bits
    c.as_slice.result.now
    (subst (λ (bs : List BitName). AreMeant nets s t bs) (sym c.as_slice.ensures)
    (meant_alone nets s t c.new-bits.result c.add_target.new.bits c.new-bits.ensures c.in_ok-add_target.ensures))
    c.requires.few c.requires.all

pub returns : goal.returns
returns c =
    let nets = c.args.nets.now in
    let s = scope_of nets c.args.names.now c.args.from in
    let t = target_tree c.args.target.now in
    let bits = c.as_slice.result.now in
    set_made nets s t (expr_tree c.args.expr.now) c.args.keys.now.bits c.args.starts.now bits c.max-size.result
    c.in_ok-count.count c.in_ok-number.number (trees_of c.args.words.now) (trees_of c.word.new.words)
    (trees_of c.add_word.new.words) (tree_of c.in_ok-made.made) c.args.table.now c.put_all.new.table
    c.requires.starts
    (subst (λ (bs : List BitName). AreMeant nets s t bs) (sym c.as_slice.ensures)
    (meant_alone nets s t c.new-bits.result c.add_target.new.bits c.new-bits.ensures c.in_ok-add_target.ensures))
    c.in_ok-made.ensures
    (let a = c.max-size.ensures in let b = c.own.ensures in omega (arith, a, b))
    (c.in_ok-count.ensures ∙ c.len.ensures ∙ ap (λ (bs : List BitName). length bs) (sym c.as_slice.ensures))
    (ap trees_of c.in_ok-number.ensures.added ∙ trees_more c.word.new.words c.in_ok-made.made)
    (c.in_ok-number.ensures.number ∙ sym (trees_length c.word.new.words))
    c.put_all.ensures c.requires.size c.requires.words c.requires.there c.words_render.ensures.values
    c.words_render.ensures.reads
