use Rattle.std.proofs.Common.{◌+◌, List, sym, subst, ap, ◌∙◌, drop, length, arith}
use Rattle.std.proofs.lemmas.List.{length_push}
use Rattle.eq_names.specs.declared.piece.Piece.{Piece}
use Rattle.eq_names.specs.Reading.{IsFront}
use Rattle.eq_names.specs.Patterns.{piece_at}
use Rattle.eq_names.proofs.Answered.{front_more}
use Rattle.eq_names.proofs.pattern.read_pieces.Goals as goal

pub loop-at-preserved : goal.loop-at-preserved
loop-at-preserved c =
    let text = c.args.text.now in
    let at = c.loop-at.at in
    let p = c.in-Ok.found.0 in
    let len = c.in-Ok.found.1 in
    let more = front_more c.loop-at.pieces p len at text c.loop-at-test.true c.loop-at.invariant.front c.in-Ok.ensures.ok in
    record {
      front = subst (λ (ps : List Piece). IsFront piece_at ps text (drop (at + len) text))
          (sym c.in_ok-push.ensures.ok) more;
      within = grind (arith, c.in-Ok.ensures.within);
      count = let one = ap (λ (ps : List Piece). length ps) c.in_ok-push.ensures.ok ∙ length_push c.loop-at.pieces p in
          let before = c.loop-at.invariant.count in
          let some = c.in-Ok.ensures.within in
          omega (arith, one, before, some);
    }
