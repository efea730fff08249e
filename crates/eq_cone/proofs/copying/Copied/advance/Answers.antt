use Rattle.std.proofs.Common.{ℕ, ◌<◌, length, arith, sym, ap, subst}
use Rattle.std.proofs.lemmas.Result.{on_ok_weaker}
use Rattle.eq_bits.specs.Node.{node_at}
use Rattle.eq_cone.specs.inner.Copying.{new_of, number_or_zero, place_of}
use Rattle.eq_cone.specs.inner.Sides.{cut_of, has_complement, nodes_of}
use Rattle.eq_cone.proofs.Advanced.{absent, inside, operands, renamed_node}
use Rattle.eq_cone.proofs.Made.{copied_on, front_on}
use Rattle.eq_cone.proofs.copying.Copied.advance.Goals as goal

pub make-requires-clause-node : goal.make-requires-clause-node
make-requires-clause-node c =
    let P : ℕ → Type 0 = λ m. m < length (nodes_of c.args.sides.now) in
    subst P (sym c.at-m.ensures) (inside c.args.sides.now c.requires.task.0 c.args.cone.now c.args.inputs.now
    c.requires.task.1 c.args.place c.requires.place)

pub make-requires-clause-operands : goal.make-requires-clause-operands
make-requires-clause-operands c plain kind =
    renamed_node (new_of (place_of c.args.self.now.places)) (length c.args.self.now.builder)
    (node_at (nodes_of c.args.sides.now) c.at-m.result) kind
    (λ r reads. (
    let made = operands c.args.sides.now c.requires.task.0 c.args.cone.now c.args.inputs.now c.requires.task.1
    (place_of c.args.self.now.places) c.args.place c.at-m.result c.requires.place (sym c.at-m.ensures)
    c.requires.underway.front plain r reads in
    let e = ap number_or_zero made.1 in
    let f = c.requires.underway.copied.there r made.0 made.1 in omega arith))

pub returns : goal.returns
returns c =
    on_ok_weaker c.put.result (λ put. (
    let gone = absent c.args.sides.now c.requires.task.0 c.args.cone.now c.args.inputs.now c.requires.task.1
    (place_of c.args.self.now.places) c.args.place c.at-m.result c.requires.place (sym c.at-m.ensures)
    c.requires.underway.front in
    let ops = operands c.args.sides.now c.requires.task.0 c.args.cone.now c.args.inputs.now c.requires.task.1
    (place_of c.args.self.now.places) c.args.place c.at-m.result c.requires.place (sym c.at-m.ensures)
    c.requires.underway.front in
    record {
      copied = copied_on (nodes_of c.args.sides.now) (cut_of c.args.sides.now) (has_complement c.args.sides.now)
          c.args.inputs.now (place_of c.args.self.now.places) (place_of c.put.new.places) c.args.self.now.builder
          c.make.new.builder c.at-m.result c.in_ok-number.number c.requires.underway.copied gone
          c.in_ok-number.ensures ops put;
      front = front_on (nodes_of c.args.sides.now) (cut_of c.args.sides.now) (has_complement c.args.sides.now)
          c.args.inputs.now (place_of c.args.self.now.places) (place_of c.put.new.places) c.args.self.now.builder
          c.make.new.builder c.at-m.result c.in_ok-number.number c.requires.underway.copied gone
          c.in_ok-number.ensures ops put c.args.cone.now c.args.place (sym c.at-m.ensures) c.requires.underway.front;
      room = (let e = c.requires.underway.room in let f = c.in_ok-number.ensures.grown.one_more in omega arith);
    })) c.put.ensures
