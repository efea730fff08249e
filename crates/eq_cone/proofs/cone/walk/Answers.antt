use Rattle.std.proofs.Common.{◌≡◌, ℕ, length, arith, subst}
use Rattle.eq_cone.specs.inner.Cones.{IsWalk}
use Rattle.eq_cone.specs.inner.Sides.{cut_of, nodes_of}
use Rattle.eq_cone.proofs.Rows.{joined_nodes}
use Rattle.eq_cone.proofs.Walked.{all_walked, walk_ends, walk_on}
use Rattle.eq_cone.proofs.cone.walk.Goals as goal

pub returns-then-place-len : goal.returns-then-place-len
returns-then-place-len c =
    let e = c.if-place-len.true in
    let f = c.len.ensures.value in
    walk_ends (nodes_of c.args.sides.now) (cut_of c.args.sides.now) c.args.cone.now c.loop-place.cone
    c.loop-place.place c.loop-place.invariant (omega arith)

pub expand-requires-clause-place : goal.expand-requires-clause-place
expand-requires-clause-place c =
    let e = c.if-place-len.false in
    let f = c.len.ensures.value in
    let g = c.loop-place.invariant.count in
    omega arith

pub loop-place-preserved : goal.loop-place-preserved
loop-place-preserved c =
    let e = c.if-place-len.false in
    let f = c.len.ensures.value in
    let g = c.loop-place.invariant.count in
    walk_on (nodes_of c.args.sides.now) (cut_of c.args.sides.now)
    (joined_nodes c.args.sides.now.gold.now c.args.sides.now.gate.now c.requires.sides.gold_nodes
    c.requires.sides.gate_nodes) c.args.cone.now c.loop-place.cone c.expand.new.cone c.loop-place.place
    c.loop-place.invariant (omega arith) c.in_ok-expand.ensures

pub returns : goal.returns
returns c =
    let e = c.loop-place-test.false in
    let f = c.loop-place.auto.place-end in
    let g = c.len-place-end.ensures in
    let here : c.loop-place.place ≡ length (nodes_of c.args.sides.now) = omega arith in
    let P : ℕ → Type 0 = λ k. IsWalk (nodes_of c.args.sides.now) (cut_of c.args.sides.now) c.args.cone.now
    c.loop-place.cone k in
    all_walked (nodes_of c.args.sides.now) (cut_of c.args.sides.now) c.args.cone.now c.loop-place.cone
    (subst P here c.loop-place.invariant) c.len-all.ensures.distinct
