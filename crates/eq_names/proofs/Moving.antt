-- What stands at the front of a text has a byte at least, so each text is read to its end or to a fault.
use Rattle.std.proofs.Common.{◌≡◌, ◌≢◌, ℕ, ◌+◌, ◌-◌, ◌<◌, ◌||◌, ◌&&◌, ◌∷◌, ◌∙◌, ap, length, drop, Bool, true, false, ◌⊎◌, cond, List, [], Option, Some, None, Result, Ok, Err, sym, subst, refl, arith, inl, inr}
use Rattle.std.specs.Prelude.{◌==◌, nat_le, slice_index}
use Rattle.eq_names.specs.declared.piece.Piece.TheVariants.{AnyRun, AnyByte, Byte}
use Rattle.eq_names.specs.declared.part.Part.TheVariants as byte
use Rattle.eq_names.specs.declared.fault.PatErr.{PatErr}
use Rattle.eq_names.specs.declared.fault.TplErr.{TplErr}
use Rattle.eq_names.specs.declared.fault.PatErr.TheVariants as perr
use Rattle.eq_names.specs.declared.fault.TplErr.TheVariants as terr
use Rattle.eq_names.specs.declared.span.Span.{Span}
use Rattle.eq_names.specs.declared.part.Part.{Part}
use Rattle.eq_names.specs.Brackets.{is_negated, inside, closing}
use Rattle.eq_names.specs.Patterns.{set_to, piece_at, IsPattern, HasPatternFault}
use Rattle.eq_names.specs.Templates.{part_at, IsTemplate, HasTemplateFault, IsFilled, parts_text}
use Rattle.eq_names.proofs.Wholes.{pieces_or_fault, one_list}

record Moves {P F : Type 0} (r : Result (P × ℕ) F) : Type 0 where
  pub moved : (p : P) (len : ℕ) → r ≡ Ok (p, len) → 0 < len

either : {P F : Type 0} (b : Bool) (x y : Result (P × ℕ) F) → Moves x → Moves y → Moves (cond b x y)
either true x y a b = a
either false x y a b = b

ok_moves : {P F : Type 0} (p : P) (len : ℕ) → 0 < len → Moves {P = P} {F = F} (Ok (p, len))
ok_moves {P} {F} p len some = record {
  moved = λ q n e.
      let pair : ◌≡◌ {A = P × ℕ} (p, len) (q, n) = cc in
      subst (λ (k : ℕ). 0 < k) (ap (λ (x : P × ℕ). x.1) pair) some;
}

err_moves : {P F : Type 0} (f : F) → Moves {P = P} {F = F} (Err f)
err_moves f = record { moved = λ q n e. absurd (cc) }

brackets : (close : ℕ) (negated : Bool) → 0 < close + cond negated 3 2
brackets close true = omega arith
brackets close false = omega arith

set_moves : (negated : Bool) (text : List ℕ) (close : Option ℕ) → Moves (set_to negated text close)
set_moves negated text None = err_moves perr.OpenBracket
set_moves negated text (Some close) = either _ _ _ (ok_moves _ _ (brackets close negated)) (err_moves perr.EmptyRange)

one : 0 < 1
one = omega arith

two : 0 < 2
two = omega arith

piece_moves : (text : List ℕ) → Moves (piece_at text)
piece_moves text =
    let behind : List ℕ = drop 1 text in
    let b : ℕ = slice_index text 0 in
    either (b == 42) _ _ (ok_moves AnyRun 1 one) (either (b == 63) _ _ (ok_moves AnyByte 1 one)
    (either (b == 91) _ _ (set_moves (is_negated behind) (inside behind) (closing (inside behind))) (ok_moves
    (Byte b) 1 one)))

part_moves : (wilds : ℕ) (text : List ℕ) → Moves (part_at wilds text)
part_moves wilds text =
    let b : ℕ = slice_index text 1 in
    either (slice_index text 0 == 37) _ _
    (either (b == 37 || b == 126) _ _ (ok_moves (byte.Byte b) 2 two)
    (either (nat_le 49 b && nat_le b 57) _ _
    (either (nat_le (b - 48) wilds) _ _ (ok_moves (byte.Wild (b - 48)) 2 two) (err_moves (terr.NoCapture (b - 48))))
    (err_moves terr.BadPercent)))
    (ok_moves (byte.Byte (slice_index text 0)) 1 one)

empty_or_some : (text : List ℕ) → (text ≡ []) ⊎ (text ≢ [])
empty_or_some [] = inl refl
empty_or_some (b ∷ bs) = inr (λ e. absurd (cc))

-- each text is a pattern or has a fault
pub pattern_or_fault : (text : List ℕ) → IsPattern text ⊎ ((fault : PatErr) × HasPatternFault text fault)
pattern_or_fault text = elim (empty_or_some text) [
  | inl empty ↦ inr (perr.Empty, inl (empty, refl))
  | inr some ↦ elim (pieces_or_fault piece_at (λ t p len e. (piece_moves t).moved p len e) text some) [
    | inl whole ↦ inl whole
    | inr bad ↦ inr (bad.0, inr bad.1)
  ]
]

-- each text is a template or has a fault
pub template_or_fault : (text : List ℕ) (wilds : ℕ) → IsTemplate text wilds ⊎
    ((fault : TplErr) × HasTemplateFault text wilds fault)
template_or_fault text wilds = elim (empty_or_some text) [
  | inl empty ↦ inr (terr.Empty, inl (empty, refl))
  | inr some ↦ elim (pieces_or_fault (part_at wilds) (λ t p len e. (part_moves wilds t).moved p len e) text some) [
    | inl whole ↦ inl whole
    | inr bad ↦ inr (bad.0, inr bad.1)
  ]
]

-- a template is filled in one way
pub one_filling : (template name : List ℕ) (spans : List Span) (s t : List ℕ) → IsFilled template name spans s →
    IsFilled template name spans t → s ≡ t
one_filling template name spans s t a b =
    a.text_is ∙ ap (λ (ps : List Part). parts_text name spans ps) (one_list (part_at
    (length spans)) template a.parts b.parts a.are_parts b.are_parts) ∙ sym b.text_is
