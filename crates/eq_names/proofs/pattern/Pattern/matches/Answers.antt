use Rattle.std.proofs.Common.{List, ℕ, sym, subst}
use Rattle.eq_names.specs.declared.piece.Piece.{Piece}
use Rattle.eq_names.specs.Reading.{ArePiecesOf}
use Rattle.eq_names.specs.Patterns.{piece_at}
use Rattle.eq_names.proofs.Answered.{divided, matched}
use Rattle.eq_names.proofs.pattern.Pattern.matches.Goals as goal

pub returns : goal.returns
returns c =
    let are = subst (λ (t : List ℕ). ArePiecesOf piece_at t c.self.inside.pieces) c.self.view_is c.self.invariant.1 in
    let are' = subst (λ (ps : List Piece). ArePiecesOf piece_at c.args.self.now ps) (sym c.as_slice.ensures) are in (
      λ t. matched c.args.self.now c.args.name.now c.as_slice.result.now are' (c.is_divided.ensures.0 t),
      λ m. c.is_divided.ensures.1 (divided c.args.self.now c.args.name.now c.as_slice.result.now are' m),
    )
