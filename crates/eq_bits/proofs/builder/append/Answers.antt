use Rattle.std.proofs.Common.{List, subst, sym}
use Rattle.eq_bits.specs.declared.node.Node.{Node}
use Rattle.eq_bits.specs.inner.Building.{IsBuilt}
use Rattle.eq_bits.proofs.Tables.{with_alone}
use Rattle.eq_bits.proofs.builder.append.Goals as goal

pub returns-clause-built : goal.returns-clause-built
returns-clause-built c =
    let P : List Node → Type 0 = λ nodes. IsBuilt nodes c.args.numbers.now in
    subst P (sym c.in_ok-push.ensures.items)
    (with_alone c.args.nodes.now.items c.args.numbers.now c.args.node c.requires.built c.requires.room
    c.requires.alone c.requires.operands)
