use Rattle.std.proofs.Common.{arith}
use Rattle.eq_vlex.proofs.Steps.{next_within, piece_at, reached_more}
use Rattle.eq_vlex.proofs.lex.read_pieces.Goals as goal

pub put_token-requires : goal.put_token-requires
put_token-requires c =
    let inside = next_within c.args.text.now c.loop-at.at c.in-Ok.piece c.loop-at-test.true c.in-Ok.ensures.ok in
    omega (arith, inside, c.requires)

pub overflow_add-at : goal.overflow_add-at
overflow_add-at c =
    let inside = next_within c.args.text.now c.loop-at.at c.in-Ok.piece c.loop-at-test.true c.in-Ok.ensures.ok in
    omega (arith, inside, c.requires)

pub loop-at-smaller : goal.loop-at-smaller
loop-at-smaller c =
    let inside = next_within c.args.text.now c.loop-at.at c.in-Ok.piece c.loop-at-test.true c.in-Ok.ensures.ok in
    omega (arith, inside, c.loop-at-test.true)

pub loop-at-preserved : goal.loop-at-preserved
loop-at-preserved c =
    let inside = next_within c.args.text.now c.loop-at.at c.in-Ok.piece c.loop-at-test.true c.in-Ok.ensures.ok in
    let piece = piece_at c.args.text.now c.loop-at.at c.in-Ok.piece c.in-Ok.ensures.ok in
    record {
      reached = reached_more c.args.text.now c.loop-at.at c.loop-at.tokens c.put_token.new.tokens c.in-Ok.piece c.loop-at.invariant.reached piece c.in_ok-put_token.ensures;
      within = inside.1;
    }
