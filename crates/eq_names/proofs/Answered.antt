-- What the answers of patterns say the other way round.
use Rattle.std.proofs.Common.{◌≡◌, ◌≢◌, ℕ, ◌+◌, ◌-◌, ◌<◌, cond, eqb, List, [], ◌∷◌, ◌++◌, length, take, drop, get_or, Option, Some, None, Result, Ok, Err, refl, sym, ap, subst, ◌∙◌, arith, inl, inr}
use Rattle.std.specs.Prelude.{IfOk, IfErr, IfNone}
use Rattle.std.proofs.lemmas.List.{take_rest, drop-drop, length-drop}
use Rattle.eq_names.specs.declared.fault.PatErr.{PatErr}
use Rattle.eq_names.specs.declared.piece.Piece.{Piece}
use Rattle.eq_names.specs.declared.piece.Piece.TheVariants.{Byte, AnyByte, AnyRun}
use Rattle.eq_names.specs.Divisions.{IsDivided}
use Rattle.eq_names.specs.Reading.{IsFront, ArePiecesOf}
use Rattle.eq_names.specs.Patterns.{set_at, piece_at, IsPattern, HasPatternFault, Explains, IsOrNoMemory, Matches}
use Rattle.eq_names.proofs.Wholes.{front_push, one_list, one_fault, never_both, empty_has_no_fault}

-- ---- reading

at_bracket : (text : List ℕ) → get_or text 0 0 ≡ 91 → piece_at text ≡ set_at (drop 1 text)
at_bracket text is =
    let P : ℕ → Type 0 = λ b. ◌≡◌ {A = Result (Piece × ℕ) PatErr}
    (cond (eqb b 42) (Ok (AnyRun, 1)) (cond (eqb b 63) (Ok (
      AnyByte,
      1,
    )) (cond (eqb b 91) (set_at (drop 1 text)) (Ok (Byte b, 1))))) (set_at (drop 1 text)) in
    subst P (sym is) refl

pub set_here : (text : List ℕ) (r : Result (Piece × ℕ) PatErr) → get_or text 0 0 ≡ 91 →
    IfOk r (λ found. set_at (take (length text - 1) (drop 1 text)) ≡ Ok found) →
    IfOk r (λ found. piece_at text ≡ Ok found)
set_here text (Ok found) is ok = at_bracket text is ∙ ap set_at (sym (take_rest text 1)) ∙ ok
set_here text (Err e) is ok = tt

pub front_more : (ps : List Piece) (p : Piece) (len at : ℕ) (text : List ℕ) → at < length text →
    IsFront piece_at ps text (drop at text) → piece_at (take (length text - at) (drop at text)) ≡ Ok (p, len) →
    IsFront piece_at (ps ++ p ∷ []) text (drop (at + len) text)
front_more ps p len at text inside front found =
    subst (λ (l : List ℕ). IsFront piece_at (ps ++ p ∷ []) text l) (drop-drop len at text)
    (front_push piece_at ps p len text (drop at text) front (more_left text at inside) (ap piece_at (sym
    (take_rest text at)) ∙ found))
  where
    more_left : (text : List ℕ) (at : ℕ) → at < length text → drop at text ≢ []
    more_left text at inside none =
        let is = ap (λ (l : List ℕ). length l) none in
        absurd (omega (arith, is, inside, length-drop at text))

-- ---- a text is a pattern or has one fault

pub no_fault : (text : List ℕ) (f : PatErr) → IsPattern text → HasPatternFault text f → ⊥
no_fault text f h (inl empty) = h.1.some empty.0
no_fault text f h (inr bad) = never_both piece_at text h.0 f h.1 bad

pub same_fault : (text : List ℕ) (f g : PatErr) → HasPatternFault text f → HasPatternFault text g → f ≡ g
same_fault text f g (inl a) (inl b) = a.1 ∙ sym b.1
same_fault text f g (inl a) (inr b) = absurd (empty_has_no_fault piece_at text g a.0 b)
same_fault text f g (inr a) (inl b) = absurd (empty_has_no_fault piece_at text f b.0 a)
same_fault text f g (inr a) (inr b) = one_fault piece_at text f g a b

pub only_ok : (text : List ℕ) (r : Result (List ℕ) PatErr) → IfOk r (λ p. (p ≡ text) × IsPattern text) →
    IfErr r (Explains text) → IsPattern text → IsOrNoMemory r (Ok text)
only_ok text (Ok p) ok err h = inl (ap (λ (t : List ℕ). Ok t) ok.0)
only_ok text (Err e) ok (inl memory) h = inr (ap (λ (f : PatErr). Err f) memory)
only_ok text (Err e) ok (inr fault) h = absurd (no_fault text e h fault)

pub only_fault : (text : List ℕ) (r : Result (List ℕ) PatErr) → IfOk r (λ p. (p ≡ text) × IsPattern text) →
    IfErr r (Explains text) → (f : PatErr) → HasPatternFault text f → IsOrNoMemory r (Err f)
only_fault text (Ok p) ok err f bad = absurd (no_fault text f ok.1 bad)
only_fault text (Err e) ok (inl memory) f bad = inr (ap (λ (f : PatErr). Err f) memory)
only_fault text (Err e) ok (inr fault) f bad = inl (ap (λ (f : PatErr). Err f) (same_fault text e f fault bad))

-- ---- matches

pub divided : (text name : List ℕ) (pieces : List Piece) → ArePiecesOf piece_at text pieces → Matches text name →
    IsDivided pieces name
divided text name pieces are m = subst (λ (ps : List Piece). IsDivided ps name)
    (one_list piece_at text m.pieces pieces m.are_pieces are) m.divided

pub matched : (text name : List ℕ) (pieces : List Piece) → ArePiecesOf piece_at text pieces → IsDivided pieces name →
    Matches text name
matched text name pieces are d = record { pieces = pieces; are_pieces = are; divided = d }

pub never_found : {S E : Type 0} (r : Result (Option S) E) (A B : Type 0) → (A → B) →
    IfOk r (λ found. IfNone found A) → IfOk r (λ found. IfNone found B)
never_found (Ok None) A B f h = f h
never_found (Ok (Some s)) A B f h = tt
never_found (Err e) A B f h = tt
