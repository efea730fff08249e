use Rattle.std.proofs.Common.{◌≡◌, ◌+◌, ℕ, List, Option, set, ap, subst, sym, ◌∙◌}
use Rattle.eq_bits.specs.declared.node.Node.{Node}
use Rattle.eq_bits.specs.Node.{node_at}
use Rattle.eq_bits.specs.Shared.{with_next}
use Rattle.eq_blast.specs.inner.Sorting.{AreLinked, IsPlacing, new_of}
use Rattle.eq_blast.proofs.Linked.{linked_plain, linked_register, placing_still}
use Rattle.eq_blast.proofs.placing.Placing.link.Goals as goal

-- what set_next leaves, where the numbers that it is given are those of places
left : (places ps qs : List (Option ℕ)) (nodes new : List Node) (m next r k : ℕ) → ps ≡ places → qs ≡ places →
    r ≡ new_of ps m → k ≡ new_of qs next → new ≡ set nodes r (with_next (node_at nodes r) k) →
    new ≡ set nodes (new_of places m) (with_next (node_at nodes (new_of places m)) (new_of places next))
left places ps qs nodes new m next r k p q e f is =
    let e' : r ≡ new_of places m = e ∙ ap (λ (xs : List (Option ℕ)). new_of xs m) p in
    let f' : k ≡ new_of places next = f ∙ ap (λ (xs : List (Option ℕ)). new_of xs next) q in
    is ∙ ap (λ (x : ℕ). set nodes x (with_next (node_at nodes x) k)) e'
    ∙ ap (λ (x : ℕ). set nodes (new_of places m) (with_next (node_at nodes (new_of places m)) x)) f'

pub returns-in-Reg-clause-placing : goal.returns-in-Reg-clause-placing
returns-in-Reg-clause-placing c =
    let places = c.args.self.now.places.items in
    let nodes = c.args.self.now.builder in
    let e = left places c.deref.result.now c.deref-in-Reg.result.now nodes c.set_next.new.self c.args.m c.in-Reg.next
    c.new_of-register.result c.new_of-next.result c.deref.ensures.value c.deref-in-Reg.ensures.value
    c.new_of-register.ensures c.new_of-next.ensures c.set_next.ensures in
    let P : List Node → Type 0 = λ ns. IsPlacing c.args.plan.now places ns 0 in
    subst P (sym e) (placing_still c.args.plan.now places nodes c.args.m c.in-Reg.next c.in-Reg.init c.requires.placing
    c.requires.within c.requires.node c.in-Reg.is)

pub returns-in-Reg-clause-linked : goal.returns-in-Reg-clause-linked
returns-in-Reg-clause-linked c =
    let places = c.args.self.now.places.items in
    let nodes = c.args.self.now.builder in
    let e = left places c.deref.result.now c.deref-in-Reg.result.now nodes c.set_next.new.self c.args.m c.in-Reg.next
    c.new_of-register.result c.new_of-next.result c.deref.ensures.value c.deref-in-Reg.ensures.value
    c.new_of-register.ensures c.new_of-next.ensures c.set_next.ensures in
    let P : List Node → Type 0 = λ ns. AreLinked c.args.plan.now places ns (c.args.m + 1) in
    subst P (sym e) (linked_register c.args.plan.now places nodes c.args.m c.in-Reg.next c.in-Reg.init
    c.requires.placing c.requires.within c.requires.node c.in-Reg.is c.requires.linked)

pub returns-in_default : goal.returns-in_default
returns-in_default c = record {
  placing = c.requires.placing;
  linked = linked_plain c.args.plan.now c.args.self.now.places.items c.args.self.now.builder c.args.m c.requires.placing
      c.requires.node (λ next init is. c.in_default.not-Reg next init is) c.requires.linked;
}
