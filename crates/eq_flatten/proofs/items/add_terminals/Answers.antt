use Rattle.std.proofs.Common.{◌-◌, ℕ, List, length, map, arith, sym, ap, subst, ◌∙◌}
use Rattle.std.proofs.lemmas.List.{length-drop, length-map}
use Rattle.eq_net.specs.Tree.{trees_of}
use Rattle.eq_verilog.specs.Trees.{ExprTree, expr_tree, join_all}
use Rattle.eq_analysis.specs.Finding.{scope_of}
use Rattle.eq_analysis.specs.Measuring.{AllSmall, IsFit}
use Rattle.eq_flatten.specs.Equating.{AreTargets}
use Rattle.eq_flatten.specs.Gating.{AreBits}
use Rattle.eq_flatten.proofs.Assigned.{on_ok}
use Rattle.eq_flatten.proofs.Itemized.{bits_front, bits_rest, fit_front, fit_rest, gate_adds, inputs_left, inputs_split, outputs_split, small_rest}
use Rattle.eq_flatten.proofs.items.add_terminals.Goals as goal

pub add_gate-requires-clause-outputs : goal.add_gate-requires-clause-outputs
add_gate-requires-clause-outputs c =
    subst (λ (ts : List ExprTree). IsFit c.args.nets.now c.args.names.now c.args.from (join_all ts))
    (sym (outputs_split c.args.kind c.args.terms.now c.split_at.result.0.now c.outputs-count.result c.outputs-count.ensures
    c.split_at.ensures.front))
    (fit_front c.args.nets.now c.args.names.now c.args.from (map expr_tree c.args.terms.now) _ c.requires.terminals.fit)

pub add_gate-requires-clause-targets : goal.add_gate-requires-clause-targets
add_gate-requires-clause-targets c =
    subst (λ (ts : List ExprTree). AreTargets (scope_of c.args.nets.now c.args.names.now c.args.from) ts)
    (sym (outputs_split c.args.kind c.args.terms.now c.split_at.result.0.now c.outputs-count.result c.outputs-count.ensures
    c.split_at.ensures.front))
    c.requires.terminals.targets

pub add_gate-requires-clause-ones : goal.add_gate-requires-clause-ones
add_gate-requires-clause-ones c =
    let s = scope_of c.args.nets.now c.args.names.now c.args.from in
    subst (λ (ts : List ExprTree). AreBits s ts)
    (sym (outputs_split c.args.kind c.args.terms.now c.split_at.result.0.now c.outputs-count.result c.outputs-count.ensures
    c.split_at.ensures.front))
    (bits_front s (map expr_tree c.args.terms.now) _ c.requires.terminals.bits)

pub add_gate-requires-clause-fit : goal.add_gate-requires-clause-fit
add_gate-requires-clause-fit c =
    subst (λ (ts : List ExprTree). IsFit c.args.nets.now c.args.names.now c.args.from (join_all ts))
    (sym (inputs_split c.args.kind c.args.terms.now c.split_at.result.1.now c.outputs-count.result c.outputs-count.ensures
    c.split_at.ensures.back))
    (fit_rest c.args.nets.now c.args.names.now c.args.from (map expr_tree c.args.terms.now) _ c.requires.terminals.fit)

pub add_gate-requires-clause-small : goal.add_gate-requires-clause-small
add_gate-requires-clause-small c =
    let s = scope_of c.args.nets.now c.args.names.now c.args.from in
    subst (λ (ts : List ExprTree). AllSmall s ts)
    (sym (inputs_split c.args.kind c.args.terms.now c.split_at.result.1.now c.outputs-count.result c.outputs-count.ensures
    c.split_at.ensures.back))
    (small_rest s (map expr_tree c.args.terms.now) _ c.requires.terminals.small)

pub add_gate-requires-clause-bits : goal.add_gate-requires-clause-bits
add_gate-requires-clause-bits c =
    let s = scope_of c.args.nets.now c.args.names.now c.args.from in
    subst (λ (ts : List ExprTree). AreBits s ts)
    (sym (inputs_split c.args.kind c.args.terms.now c.split_at.result.1.now c.outputs-count.result c.outputs-count.ensures
    c.split_at.ensures.back))
    (bits_rest s (map expr_tree c.args.terms.now) _ c.requires.terminals.bits)

pub add_gate-requires-clause-inputs : goal.add_gate-requires-clause-inputs
add_gate-requires-clause-inputs c =
    let all = length-map c.args.terms.now expr_tree in
    let two = c.requires.terminals.two in
    inputs_left c.args.kind (length c.args.terms.now) (length c.split_at.result.1.now) (omega (arith, all, two))
    (ap length c.split_at.ensures.back ∙ length-drop c.outputs-count.result c.args.terms.now
    ∙ ap (λ (n : ℕ). length c.args.terms.now - n) c.outputs-count.ensures)

pub returns : goal.returns
returns c =
    let nets = c.args.nets.now in
    let s = scope_of nets c.args.names.now c.args.from in
    let terms = map expr_tree c.args.terms.now in
    let all = length-map c.args.terms.now expr_tree in
    let two = c.requires.terminals.two in
    on_ok c.add_gate.result (λ made.
    gate_adds nets s c.args.kind terms (map expr_tree c.split_at.result.0.now) (map expr_tree c.split_at.result.1.now)
    (trees_of c.args.words.now) (trees_of c.add_gate.new.words) c.args.slots.now c.add_gate.new.slots two
    (outputs_split c.args.kind c.args.terms.now c.split_at.result.0.now c.outputs-count.result c.outputs-count.ensures
    c.split_at.ensures.front)
    (inputs_split c.args.kind c.args.terms.now c.split_at.result.1.now c.outputs-count.result c.outputs-count.ensures
    c.split_at.ensures.back) c.requires.terminals.bits made) c.add_gate.ensures
