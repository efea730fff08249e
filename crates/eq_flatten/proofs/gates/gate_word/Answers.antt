use Rattle.std.proofs.Common.{ℕ, map, sym, subst, ◌∙◌}
use Rattle.std.proofs.lemmas.List.{length-map}
use Rattle.eq_net.specs.Tree.{Tree, tree_of, trees_of}
use Rattle.eq_verilog.specs.Trees.{expr_tree, join_all}
use Rattle.eq_verilog.specs.Equations.{gated}
use Rattle.eq_analysis.specs.Finding.{scope_of}
use Rattle.eq_flatten.specs.Gating.{HasInputs}
use Rattle.eq_flatten.specs.Rendering.{Makes}
use Rattle.eq_flatten.proofs.Gated.{makes_gate}
use Rattle.eq_flatten.proofs.Selecting.{if_ok}
use Rattle.eq_flatten.proofs.gates.gate_word.Goals as goal

pub returns-in-Some : goal.returns-in-Some
returns-in-Some c =
    let nets = c.args.nets.now in
    let s = scope_of nets c.args.names.now c.args.from in
    let es = map expr_tree c.args.inputs.now in
    let old = trees_of c.args.words.now in
    let new = trees_of c.inputs_word.new.words in
    let x = tree_of c.in_ok-joined.joined in
    let all = sym (length-map c.args.inputs.now expr_tree) in
    if_ok c.unary.result (λ made e. subst
    (λ (k : Tree). Makes nets s (gated c.args.kind (join_all es)) 1 old new k) (sym e)
    (makes_gate nets s es old new x c.requires.bits
    (subst (λ (n : ℕ). Makes nets s (join_all es) n old new x) all c.in_ok-joined.ensures)
    c.args.kind c.in-Some.op (sym c.operator.ensures ∙ c.in-Some.is)
    (subst (λ (n : ℕ). HasInputs c.args.kind n) all c.requires.inputs)))
    c.unary.ensures
