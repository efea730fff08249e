use Rattle.std.proofs.Common.{ℕ, ◌<◌, length, arith, sym, subst}
use Rattle.std.proofs.lemmas.List.Elements.{Contains-get_or}
use Rattle.eq_cone.specs.inner.Cones.{Reached, pairs_of}
use Rattle.eq_cone.specs.inner.Sides.{cut_of, nodes_of}
use Rattle.eq_cone.proofs.Collected.{inputs_on}
use Rattle.eq_cone.proofs.inputs.collect.Goals as goal

pub note-requires-clause-there : goal.note-requires-clause-there
note-requires-clause-there c =
    let t = c.loop-place-test.true in
    let e = c.len-place-end.ensures.value in
    let P : ℕ → Type 0 = λ m. m < length (nodes_of c.args.sides.now) in
    subst P (sym c.at.ensures) (c.requires.within _ (Contains-get_or c.args.cone.now c.loop-place.place 0
    (omega arith)))

pub loop-place-preserved : goal.loop-place-preserved
loop-place-preserved c =
    let t = c.loop-place-test.true in
    let e = c.len-place-end.ensures.value in
    let P : ℕ → Type 0 = λ m. Reached c.loop-place.inputs c.note.new.inputs (pairs_of (cut_of c.args.sides.now m)) in
    inputs_on (cut_of c.args.sides.now) c.args.cone.now c.loop-place.inputs c.note.new.inputs c.loop-place.place
    (omega arith) c.loop-place.invariant (subst P c.at.ensures c.in_ok-note.ensures)
