use Rattle.std.proofs.Common.{length, map, arith, sym, ap, subst, ◌∙◌}
use Rattle.std.proofs.lemmas.List.{length-map}
use Rattle.eq_net.specs.Tree.{Tree, extended, join_all as join_words, trees_of}
use Rattle.eq_verilog.specs.Trees.{expr_tree, join_all}
use Rattle.eq_analysis.specs.Finding.{scope_of}
use Rattle.eq_flatten.specs.Rendering.{Makes}
use Rattle.eq_flatten.proofs.Composing.{makes_concat, tree_of_concat}
use Rattle.eq_flatten.proofs.Gated.{bits_own}
use Rattle.eq_flatten.proofs.Selecting.{if_ok}
use Rattle.eq_flatten.proofs.gates.inputs_word.Goals as goal

pub returns : goal.returns
returns c =
    let nets = c.args.nets.now in
    let s = scope_of nets c.args.names.now c.args.from in
    let es = map expr_tree c.args.inputs.now in
    let n = length c.args.inputs.now in
    let ws = c.in_ok-made.made in
    let size = bits_own s es c.requires.bits in
    let all = length-map c.args.inputs.now expr_tree in
    if_ok c.extended.result (λ made e. subst
    (λ (k : Tree). Makes nets s (join_all es) n (trees_of c.args.words.now) (trees_of c.part_words.new.words) k)
    (sym (e ∙ ap (λ k. extended k c.in_ok-count.count) (tree_of_concat ws) ∙ ap (λ k. extended (join_words (trees_of ws)) k) c.in_ok-count.ensures))
    (makes_concat nets s es n (trees_of c.args.words.now) (trees_of c.part_words.new.words) (trees_of ws)
    (omega (arith, size, all)) c.in_ok-made.ensures))
    c.extended.ensures
