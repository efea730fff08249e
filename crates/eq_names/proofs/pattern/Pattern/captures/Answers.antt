use Rattle.std.specs.Prelude.{All}
use Rattle.std.proofs.Common.{◌≡◌, length, List, ℕ, sym, subst}
use Rattle.eq_names.specs.declared.piece.Piece.{Piece}
use Rattle.eq_names.specs.Divisions.{IsDivided}
use Rattle.eq_names.specs.Reading.{ArePiecesOf}
use Rattle.eq_names.specs.Patterns.{piece_at, Matches, HasWilds}
use Rattle.eq_names.specs.Templates.{IsSpanOf}
use Rattle.eq_names.specs.Divisions.{AreSpans}
use Rattle.eq_names.proofs.CaptureLemmas.{captures_within, captures_count, found_as}
use Rattle.eq_names.proofs.Answered.{divided, never_found}
use Rattle.eq_names.proofs.pattern.Pattern.captures.Goals as goal

pub returns-clause-none : goal.returns-clause-none
returns-clause-none c =
    let are = subst (λ (t : List ℕ). ArePiecesOf piece_at t c.self.inside.pieces) c.self.view_is c.self.invariant.1 in
    let are' = subst (λ (ps : List Piece). ArePiecesOf piece_at c.args.self.now ps) (sym c.as_slice.ensures) are in
    never_found c.spans.result (¬ IsDivided c.as_slice.result.now c.args.name.now)
    (¬ Matches c.args.self.now c.args.name.now)
    (λ never m. never (divided c.args.self.now c.args.name.now c.as_slice.result.now are' m)) c.spans.ensures.none

pub returns-clause-within : goal.returns-clause-within
returns-clause-within c =
    let are = subst (λ (t : List ℕ). ArePiecesOf piece_at t c.self.inside.pieces) c.self.view_is c.self.invariant.1 in
    let are' = subst (λ (ps : List Piece). ArePiecesOf piece_at c.args.self.now ps) (sym c.as_slice.ensures) are in
    let name = c.args.name.now in
    found_as c.spans.result (AreSpans c.as_slice.result.now name 0) (λ s. All (IsSpanOf name) s)
    (λ s h. captures_within c.args.self.now name s (record { pieces = c.as_slice.result.now; are_pieces = are'; are_spans = h })) c.spans.ensures.some

pub returns-clause-count : goal.returns-clause-count
returns-clause-count c =
    let are = subst (λ (t : List ℕ). ArePiecesOf piece_at t c.self.inside.pieces) c.self.view_is c.self.invariant.1 in
    let are' = subst (λ (ps : List Piece). ArePiecesOf piece_at c.args.self.now ps) (sym c.as_slice.ensures) are in
    let name = c.args.name.now in
    found_as c.spans.result (AreSpans c.as_slice.result.now name 0) (λ s. (wilds : ℕ) →
    HasWilds c.args.self.now wilds → length s ≡ wilds)
    (λ s h. captures_count c.args.self.now name s (record { pieces = c.as_slice.result.now; are_pieces = are'; are_spans = h })) c.spans.ensures.some
