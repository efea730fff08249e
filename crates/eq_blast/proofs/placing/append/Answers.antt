use Rattle.eq_blast.specs.inner.Sorting.{new_of}
use Rattle.eq_blast.proofs.Appended.{node_added, register_added}
use Rattle.eq_blast.proofs.placing.append.Goals as goal

pub returns-in-Reg : goal.returns-in-Reg
returns-in-Reg c = register_added (new_of c.args.places.now) c.register.result c.args.builder.now c.register.new.self
    c.args.node c.in-Reg.next c.in-Reg.init c.in-Reg.is c.register.ensures.number c.register.ensures.ok

pub returns-in_default : goal.returns-in_default
returns-in_default c = node_added (new_of c.args.places.now) c.node.result c.args.builder.now c.node.new.self
    c.args.node c.renamed.result c.renamed.ensures c.node.ensures.ok c.node.ensures.new c.node.ensures.grown
