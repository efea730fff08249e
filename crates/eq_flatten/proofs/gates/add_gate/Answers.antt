use Rattle.std.proofs.Common.{ℕ, map, sym, ap, subst, ◌∙◌}
use Rattle.std.proofs.lemmas.List.{length-map}
use Rattle.eq_net.specs.Tree.{tree_of, trees_of}
use Rattle.eq_verilog.specs.Trees.{expr_tree, join_all}
use Rattle.eq_verilog.specs.Equations.{gated}
use Rattle.eq_analysis.specs.Finding.{scope_of}
use Rattle.eq_flatten.specs.Gating.{HasInputs}
use Rattle.eq_flatten.proofs.Assigned.{gate_added, on_ok}
use Rattle.eq_flatten.proofs.Composing.{trees_length, trees_more}
use Rattle.eq_flatten.proofs.Gated.{gated_own}
use Rattle.eq_flatten.proofs.gates.add_gate.Goals as goal

pub returns : goal.returns
returns c =
    let nets = c.args.nets.now in
    let s = scope_of nets c.args.names.now c.args.from in
    let es = map expr_tree c.args.inputs.now in
    let all = sym (length-map c.args.inputs.now expr_tree) in
    on_ok c.drive_outputs.result (λ drives.
    gate_added nets s (map expr_tree c.args.targets.now) (gated c.args.kind (join_all es)) (trees_of c.args.words.now)
    (trees_of c.gate_word.new.words) (trees_of c.add_word.new.words) (tree_of c.in_ok-made.made) c.in_ok-number.number
    c.args.slots.now c.drive_outputs.new.slots
    (gated_own s c.args.kind es c.requires.bits (subst (λ (n : ℕ). HasInputs c.args.kind n) all c.requires.inputs))
    c.in_ok-made.ensures
    (ap trees_of c.in_ok-number.ensures.added ∙ trees_more c.gate_word.new.words c.in_ok-made.made)
    (c.in_ok-number.ensures.number ∙ sym (trees_length c.gate_word.new.words)) drives) c.drive_outputs.ensures
