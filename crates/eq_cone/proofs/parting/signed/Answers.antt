use Rattle.eq_cone.proofs.OneByOne.{negated_made}
use Rattle.eq_cone.proofs.parting.signed.Goals as goal

pub returns-then-inverted : goal.returns-then-inverted
returns-then-inverted c = negated_made c.args.inverted c.args.node c.node.result c.args.builder.now c.node.new.self
    c.if-inverted.true c.node.ensures.ok c.node.ensures.known c.node.ensures.new c.node.ensures.grown
