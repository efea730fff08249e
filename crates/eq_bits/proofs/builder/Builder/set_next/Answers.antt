use Rattle.std.proofs.Common.{List, true, rules, ◌≡◌}
use Rattle.eq_bits.specs.declared.node.Node.{Node}
use Rattle.eq_bits.specs.Node.{is_register, node_at}
use Rattle.eq_bits.proofs.Tables.{with_register}
use Rattle.eq_bits.proofs.builder.Builder.set_next.Goals as goal

pub invariant_of-self : goal.invariant_of-self
invariant_of-self c =
    let P : List Node → Type 0 = λ nodes. is_register (node_at nodes c.args.reg) ≡ true in
    with_register c.self.inside.nodes.items c.self.inside.numbers c.args.reg c.args.next c.in-Reg.init c.self.invariant
    (search rules) (search rules)
