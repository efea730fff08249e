use Rattle.std.proofs.Common.{sym, ◌∙◌}
use Rattle.eq_cone.specs.inner.Sides.{has_complement}
use Rattle.eq_cone.proofs.Added.{stop_made}
use Rattle.eq_cone.proofs.copying.stop.Goals as goal

pub returns-then-has_complement : goal.returns-then-has_complement
returns-then-has_complement c = stop_made c.args.inputs.now (has_complement c.args.sides.now c.args.m c.args.pair) c.args.pair
    c.input_of-input.result c.node.result c.args.builder.now c.node.new.self
    (sym c.has_complement.ensures ∙ c.if-has_complement.true) c.input_of-input.ensures c.node.ensures.ok c.node.ensures.known
    c.node.ensures.new c.node.ensures.grown
