use Rattle.std.proofs.Common.{sym, ap, ◌∙◌}
use Rattle.eq_net.specs.Tree.{tree_of, trees_of}
use Rattle.eq_verilog.specs.Trees.{expr_tree}
use Rattle.eq_analysis.specs.Finding.{scope_of}
use Rattle.eq_registers.proofs.Chosen.{condition_made}
use Rattle.eq_registers.proofs.Grown.{trees_length, trees_more}
use Rattle.eq_registers.proofs.choosing.add_condition.Goals as goal

pub returns : goal.returns
returns c =
    let nets = c.args.nets.now in
    let s = scope_of nets c.args.names.now c.args.from in
    condition_made nets s (expr_tree c.args.condition.now) c.args.width c.in_ok-number.number
    (trees_of c.args.words.now) (trees_of c.word.new.words) (trees_of c.add_word.new.words) (tree_of c.in_ok-made.made)
    c.in_ok-made.ensures c.requires.width
    (ap trees_of c.in_ok-number.ensures.added ∙ trees_more c.word.new.words c.in_ok-made.made)
    (c.in_ok-number.ensures.number ∙ sym (trees_length c.word.new.words)) c.requires.words
    c.words_render.ensures.values c.words_render.ensures.reads
