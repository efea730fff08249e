use Rattle.std.proofs.Common.{List, map, take, sym, subst}
use Rattle.eq_verilog.specs.Trees.{ExprTree, expr_tree}
use Rattle.eq_analysis.specs.Finding.{scope_of}
use Rattle.eq_flatten.specs.Equating.{DrivesAll}
use Rattle.eq_flatten.proofs.Assigned.{outputs_more}
use Rattle.eq_flatten.proofs.Composing.{taken_next}
use Rattle.eq_flatten.proofs.Gated.{bits_at, targets_at}
use Rattle.eq_flatten.proofs.MeantParts.{fit_each}
use Rattle.eq_flatten.proofs.gates.drive_outputs.Goals as goal

pub drive_output-requires-clause-fit : goal.drive_output-requires-clause-fit
drive_output-requires-clause-fit c =
    fit_each expr_tree c.args.nets.now c.args.names.now c.args.from c.args.targets.now c.loop-target.target-index
    c.target-item.result c.loop-target-test.true c.target-item.is c.requires.fit

pub drive_output-requires-clause-slim : goal.drive_output-requires-clause-slim
drive_output-requires-clause-slim c =
    (targets_at expr_tree (scope_of c.args.nets.now c.args.names.now c.args.from) c.args.targets.now
    c.loop-target.target-index c.target-item.result c.loop-target-test.true c.target-item.is c.requires.targets).0

pub loop-target-preserved : goal.loop-target-preserved
loop-target-preserved c =
    let nets = c.args.nets.now in
    let s = scope_of nets c.args.names.now c.args.from in
    let ts = c.args.targets.now in
    let k = c.loop-target.target-index in
    let t = c.target-item.result in
    let inside = c.loop-target-test.true in
    let is = c.target-item.is in
    subst (λ (es : List ExprTree). DrivesAll nets s c.args.word es c.args.slots.now c.drive_output.new.slots)
    (sym (taken_next ts k t inside is))
    (outputs_more nets s c.args.word (map expr_tree (take k ts)) (expr_tree t) c.args.slots.now c.loop-target.slots
    c.drive_output.new.slots c.loop-target.invariant (bits_at expr_tree s ts k t inside is c.requires.bits)
    c.in_ok-drive_output.ensures.size
    (c.in_ok-drive_output.ensures.filled (targets_at expr_tree s ts k t inside is c.requires.targets).1))
