use Rattle.std.proofs.Common.{◌<◌, true, false, length, arith}
use Rattle.eq_wit.proofs.InputLemmas.{mark_at, no_such_input, right_input, second_input}
use Rattle.eq_wit.proofs.inputs.input.Goals as goal

pub returns-in_default : goal.returns-in_default
returns-in_default c =
    no_such_input c.args.d.now c.args.seen.now c.args.left c.args.words.now c.args.word.now c.wrong_input.result c.requires.stands
    c.requires.words (λ i less. c.in_default.ensures i (omega (arith, less))) c.wrong_input.ensures

pub returns-then-as_slice-i : goal.returns-then-as_slice-i
returns-then-as_slice-i c =
    let less : c.in-Some.i < length c.args.d.now.inputs = omega (arith, c.in-Some.ensures.1) in
    let within : c.in-Some.i < length c.args.seen.now = omega (arith, less, c.requires.stands.2.long) in
    second_input c.args.d.now c.args.seen.now c.args.left c.in-Some.i c.args.words.now c.args.word.now c.requires.stands
    c.requires.words c.in-Some.ensures.0 less
    (mark_at c.args.seen.now c.as_slice.result.now c.in-Some.i true c.as_slice.ensures within c.if-as_slice-i.true)

pub returns : goal.returns
returns c =
    let less : c.in-Some.i < length c.args.d.now.inputs = omega (arith, c.in-Some.ensures.1) in
    let within : c.in-Some.i < length c.args.seen.now = omega (arith, less, c.requires.stands.2.long) in
    right_input c.args.d.now c.args.seen.now c.args.left c.in-Some.i c.args.words.now c.args.word.now c.requires.stands
    c.requires.words c.in-Some.ensures.0 less
    (mark_at c.args.seen.now c.as_slice.result.now c.in-Some.i false c.as_slice.ensures within c.if-as_slice-i.false)
