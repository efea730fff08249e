use Rattle.eq_cone.specs.inner.Copying.{new_of, place_of}
use Rattle.eq_cone.proofs.Added.{node_made, register_made}
use Rattle.eq_cone.proofs.copying.append.Goals as goal

pub returns-in-Reg : goal.returns-in-Reg
returns-in-Reg c = register_made (new_of (place_of c.args.places.now)) c.register.result c.args.builder.now
    c.register.new.self c.args.node c.in-Reg.next c.in-Reg.init c.in-Reg.is c.register.ensures.number
    c.register.ensures.ok

pub returns-in_default : goal.returns-in_default
returns-in_default c = node_made (new_of (place_of c.args.places.now)) c.node.result c.args.builder.now c.node.new.self
    c.args.node c.renamed.result c.renamed.ensures c.in_default.not-Reg c.node.ensures.ok c.node.ensures.known
    c.node.ensures.new c.node.ensures.grown
