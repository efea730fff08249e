use Rattle.std.proofs.Common.{◌≡◌, ℕ, ◌<◌, ◌+◌, [], Bool, true, List, None, Contains, set, length, arith, sym, ap, subst, ◌∙◌}
use Rattle.std.proofs.Math.ListN.{length-set}
use Rattle.eq_model.specs.System.{reads_ever}
use Rattle.eq_bits.specs.declared.node.Node.{Node}
use Rattle.eq_bits.specs.declared.node.Node.TheVariants.{Reg}
use Rattle.eq_bits.specs.Shared.{with_next}
use Rattle.eq_bits.specs.Node.{driver_of, node_at, is_register}
use Rattle.eq_cone.specs.inner.Copying.{HaveNexts, IsCopied, IsMade, new_of, number_or_zero, place_of}
use Rattle.eq_cone.specs.inner.Sides.{cut_of, has_complement, nodes_of}
use Rattle.eq_cone.proofs.Advanced.{first, inside, place_in, read_there}
use Rattle.eq_cone.proofs.Linked.{copied_still, is_one, linked_plain, linked_register}
use Rattle.eq_cone.proofs.copying.Copied.link.Goals as goal

pub cut-requires-clause-there : goal.cut-requires-clause-there
cut-requires-clause-there c =
    let P : ℕ → Type 0 = λ m. m < length (nodes_of c.args.sides.now) in
    subst P (sym c.at-m.ensures) (inside c.args.sides.now c.requires.task.0 c.args.cone.now c.args.inputs.now
    c.requires.task.1 c.args.place c.requires.place)

pub node-requires-clause-there : goal.node-requires-clause-there
node-requires-clause-there c =
    let P : ℕ → Type 0 = λ m. m < length (nodes_of c.args.sides.now) in
    subst P (sym c.at-m.ensures) (inside c.args.sides.now c.requires.task.0 c.args.cone.now c.args.inputs.now
    c.requires.task.1 c.args.place c.requires.place)

pub set_next-requires-clause-reg : goal.set_next-requires-clause-reg
set_next-requires-clause-reg c =
    let P : ℕ → Type 0 = λ m. IsMade (place_of c.args.self.now.places) m in
    let made = subst P (sym c.at-m.ensures) (c.requires.linking.made.front.made c.args.place c.requires.place) in
    let Q : ℕ → Type 0 = λ k. is_register (node_at c.args.self.now.builder k) ≡ true in
    subst Q (sym c.new_of-register.ensures)
    (is_one (nodes_of c.args.sides.now) (cut_of c.args.sides.now) (has_complement c.args.sides.now) c.args.inputs.now
    (place_of c.args.self.now.places) c.args.self.now.builder c.requires.linking.made.copied c.at-m.result
    c.in-Reg.next c.in-Reg.init (sym c.node.ensures ∙ c.in-Reg.is) (sym c.cut.ensures.value ∙ c.in-None.is) made)

pub set_next-requires-clause-next : goal.set_next-requires-clause-next
set_next-requires-clause-next c =
    let s = c.args.sides.now in
    let cone = c.args.cone.now in
    let P : ℕ → Type 0 = λ m. cut_of s m ≡ None in
    let Q : ℕ → Type 0 = λ m. node_at (nodes_of s) m ≡ Reg c.in-Reg.next c.in-Reg.init in
    let R : Node → Type 0 = λ x. Contains (reads_ever (driver_of x)) c.in-Reg.next in
    let reg = subst Q c.at-m.ensures (sym c.node.ensures ∙ c.in-Reg.is) in
    let read = read_there s c.requires.task.0 cone c.args.inputs.now c.requires.task.1 c.args.place c.in-Reg.next
    c.requires.place (subst P c.at-m.ensures (sym c.cut.ensures.value ∙ c.in-None.is))
    (subst R (sym reg) (first c.in-Reg.next [])) in
    let at = place_in cone c.in-Reg.next read in
    let S : ℕ → Type 0 = λ m. IsMade (place_of c.args.self.now.places) m in
    let made = subst S at.2 (c.requires.linking.made.front.made at.0 at.1) in
    let e = ap number_or_zero made.1 in
    let f = c.requires.linking.made.copied.there c.in-Reg.next made.0 made.1 in
    let g = c.new_of-next.ensures in
    omega arith

pub returns-in-Reg : goal.returns-in-Reg
returns-in-Reg c =
    let s = c.args.sides.now in
    let inputs = c.args.inputs.now in
    let place = place_of c.args.self.now.places in
    let old = c.args.self.now.builder in
    let linking = c.requires.linking in
    let P : ℕ → Type 0 = λ m. IsMade place m in
    let made = subst P (sym c.at-m.ensures) (linking.made.front.made c.args.place c.requires.place) in
    let reg = sym c.node.ensures ∙ c.in-Reg.is in
    let none = sym c.cut.ensures.value ∙ c.in-None.is in
    let new : c.set_next.new.self ≡ set old (new_of place c.at-m.result)
    (with_next (node_at old (new_of place c.at-m.result)) (new_of place c.in-Reg.next)) =
    c.set_next.ensures
    ∙ ap (λ (k : ℕ). set old k (with_next (node_at old k) c.new_of-next.result)) c.new_of-register.ensures
    ∙ ap (λ (k : ℕ). set old (new_of place c.at-m.result) (with_next (node_at old (new_of place c.at-m.result)) k))
    c.new_of-next.ensures in
    let Q : List Node → Type 0 = λ ns. IsCopied (nodes_of s) (cut_of s) (has_complement s) inputs place ns in
    let R : List Node → Type 0 = λ ns. HaveNexts (nodes_of s) (cut_of s) place ns c.args.cone.now (c.args.place + 1) in
    record {
      made = record {
        copied = subst Q (sym new) (copied_still (nodes_of s) (cut_of s) (has_complement s) inputs place old
            linking.made.copied c.at-m.result c.in-Reg.next c.in-Reg.init reg none made);
        front = linking.made.front;
        room = (
            let e = ap (λ (ns : List Node). length ns) new in
            let f = length-set old (new_of place c.at-m.result)
            (with_next (node_at old (new_of place c.at-m.result)) (new_of place c.in-Reg.next)) in
            let g = linking.made.room in omega arith);
      };
      linked = subst R (sym new) (linked_register (nodes_of s) (cut_of s) (has_complement s) inputs place old
          linking.made.copied c.at-m.result c.in-Reg.next c.in-Reg.init reg none made c.args.cone.now c.args.place
          c.requires.place c.at-m.ensures c.requires.task.1.ascending linking.made.front linking.linked);
    }

pub returns-in_default-node : goal.returns-in_default-node
returns-in_default-node c =
    let P : ℕ → Type 0 = λ m. IsMade (place_of c.args.self.now.places) m in
    let made = subst P (sym c.at-m.ensures) (c.requires.linking.made.front.made c.args.place c.requires.place) in
    let Q : Node → Type 0 = λ x. (next : ℕ) (init : Bool) → x ≡ Reg next init → ⊥ in
    record {
      made = c.requires.linking.made;
      linked = linked_plain (nodes_of c.args.sides.now) (cut_of c.args.sides.now) (place_of c.args.self.now.places)
          c.args.self.now.builder c.args.cone.now c.args.place c.requires.linking.linked
          (has_complement c.args.sides.now) c.args.inputs.now c.at-m.result c.requires.linking.made.copied c.at-m.ensures
          made (subst Q c.node.ensures c.in_default-node.not-Reg);
    }
