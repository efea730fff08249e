use Rattle.std.proofs.Common.{◌≡◌, false, length, slice_get, Some, IfSome, Option, sym, ap, subst, ◌∙◌}
use Rattle.eq_names.specs.declared.BitName.{BitName}
use Rattle.eq_net.specs.Meaning.{if_there}
use Rattle.eq_net.specs.Net.{HasBit, number_of}
use Rattle.eq_net.proofs.Cellular.{grown_twice}
use Rattle.eq_net.proofs.CellRows.{spells_next, written_next}
use Rattle.eq_net.proofs.CellWords.{get_is}
use Rattle.eq_net.proofs.Follows.{if_some}
use Rattle.eq_net.proofs.cells.words.push_named.Goals as goal

pub place-bit-requires-clause-named : goal.place-bit-requires-clause-named
place-bit-requires-clause-named c =
    let j = c.loop-j.j in
    let names = c.args.names.now in
    let at : slice_get names j ≡ Some c.name_at-name.result = get_is names j c.name_at-name.result c.loop-j-test.true c.name_at-name.ensures in
    let Q : Option BitName → Type 0 = λ o. IfSome o (HasBit c.args.nets.now) in
    subst Q at (if_some (HasBit c.args.nets.now) names c.requires.named j)

pub loop-j-preserved : goal.loop-j-preserved
loop-j-preserved c =
    let inv = c.loop-j.invariant in
    let e = c.in_ok-made.ensures in
    let p = c.in_ok-push.ensures in
    let s0 = c.args.stack.now.items in
    let s1 = c.loop-j.stack.items in
    let s2 = c.push.new.stack.items in
    let c1 = c.loop-j.cells.items in
    let c2 = c.add.new.cells.items in
    let j = c.loop-j.j in
    let names = c.args.names.now in
    let f : _ → _ → _ = λ v i. if_there false (λ (n : BitName). v.bits (number_of c.args.nets.now n)) (slice_get names i) in
    let at : slice_get names j ≡ Some c.name_at-name.result = get_is names j c.name_at-name.result c.loop-j-test.true c.name_at-name.ensures in
    record {
      grown = grown_twice c.args.cells.now.items c1 c2 inv.grown e.grown;
      written = written_next s0 s1 s2 (length s0) j inv.written p.size p.below;
      spells = spells_next c1 c2 s1 s2 (length s0) j c.in_ok-made.made f e.grown inv.written.size p.below p.there inv.spells
          (record { value = λ v h. e.gives.value v h ∙ ap v.bits c.place-bit.ensures ∙ sym (ap (λ (o : Option BitName). if_there false (λ (n : BitName). v.bits (number_of c.args.nets.now n)) o) at) });
    }
