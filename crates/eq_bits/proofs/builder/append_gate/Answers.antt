use Rattle.std.proofs.Common.{◌≡◌, List, length, cond, Some, ap, arith, subst, sym, ◌∙◌}
use Rattle.std.proofs.lemmas.Grind.{common_steps}
use Rattle.std.specs.HashMap.{get}
use Rattle.eq_bits.specs.declared.node.Node.{Node}
use Rattle.eq_bits.specs.inner.Building.{IsBuilt, equal}
use Rattle.eq_bits.proofs.Tables.{with_gate, same_table}
use Rattle.eq_bits.proofs.builder.append_gate.Goals as goal

pub returns-in-Ok-clause-built : goal.returns-in-Ok-clause-built
returns-in-Ok-clause-built c =
    let nodes = c.args.nodes.now.items in
    let old = c.args.numbers.now in
    let node = c.args.node in
    let number : c.len-number.result ≡ length nodes = omega arith in
    let P : List Node → Type 0 = λ nodes. IsBuilt nodes c.insert.new.self in
    subst P (sym c.in_ok-push.ensures.items)
    (with_gate nodes old c.insert.new.self node c.requires.built c.requires.room c.requires.gate c.requires.operands
    c.requires.smaller_first c.requires.new
    (λ x. c.in-Ok.ensures.updates.0 x ∙ ap (λ n. cond (equal node x) (Some n) (get equal old x)) number))

pub returns-in-Err-clause-built : goal.returns-in-Err-clause-built
returns-in-Err-clause-built c =
    let built = c.requires.built in
    let same : c.pop.new.self.items ≡ c.args.nodes.now.items = grind (arith, common_steps) in
    let P : List Node → Type 0 = λ nodes. IsBuilt nodes c.insert.new.self in
    subst P (sym same) (record {
      few = built.few;
      operands = built.operands;
      smaller_first = built.smaller_first;
      table = same_table c.args.nodes.now.items c.args.numbers.now c.insert.new.self c.in-Err.ensures.err built.table;
    })
