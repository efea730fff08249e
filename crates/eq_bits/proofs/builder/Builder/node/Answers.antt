use Rattle.std.proofs.Common.{◌≡◌, List, slice_get, Some, ap, subst, sym, ◌∙◌}
use Rattle.std.specs.HashMap.{get}
use Rattle.eq_bits.specs.declared.node.Node.{Node}
use Rattle.eq_bits.specs.Shared.{IsKnown, normal_form}
use Rattle.eq_bits.specs.inner.Building.{equal}
use Rattle.eq_bits.proofs.Growing.{pushed_ok}
use Rattle.eq_bits.proofs.Tables.{found_is_known, found_is_there}
use Rattle.eq_bits.proofs.builder.Builder.node.Goals as goal

-- a number that the table has is that of a known node
known : (c : goal.In-Some) → IsKnown c.args.self.now c.args.node
known c =
    let found : get equal c.self.inside.numbers (normal_form c.args.node) ≡ Some c.in-Some.number =
    ap (get equal c.self.inside.numbers) (sym c.normal_form-node.ensures) ∙ sym c.get.ensures.value
    ∙ sym c.copied.ensures ∙ c.in-Some.is
    in
    let P : List Node → Type 0 = λ nodes. IsKnown nodes c.args.node in
    subst P c.self.view_is (found_is_known c.self.inside.nodes.items c.self.inside.numbers c.args.node
    c.in-Some.number c.self.invariant found)

pub returns-in-Some-clause-ok : goal.returns-in-Some-clause-ok
returns-in-Some-clause-ok c =
    let found : get equal c.self.inside.numbers c.normal_form-node.result ≡ Some c.in-Some.number =
    sym c.get.ensures.value ∙ sym c.copied.ensures ∙ c.in-Some.is
    in
    ap (λ (nodes : List Node). slice_get nodes c.in-Some.number) (sym c.self.view_is)
    ∙ found_is_there c.self.inside.nodes.items c.self.inside.numbers c.normal_form-node.result c.in-Some.number
    c.self.invariant found
    ∙ ap Some c.normal_form-node.ensures

pub returns-in-Some-clause-new : goal.returns-in-Some-clause-new
returns-in-Some-clause-new c = λ unknown. absurd (unknown (known c))

pub returns-in-Some-clause-added : goal.returns-in-Some-clause-added
returns-in-Some-clause-added c = λ unknown. absurd (unknown (known c))

pub returns-in-None-clause-ok : goal.returns-in-None-clause-ok
returns-in-None-clause-ok c =
    pushed_ok c.append_gate.result c.self.inside.nodes.items c.append_gate.new.nodes.items c.normal_form-node.result
    (normal_form c.args.node)
    c.append_gate.ensures.number c.append_gate.ensures.ok c.normal_form-node.ensures
