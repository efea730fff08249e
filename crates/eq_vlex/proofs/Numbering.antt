-- What is wrong with the parts of a number is wrong with the number.
use Rattle.std.proofs.Common.{◌≡◌, ℕ, ◌+◌, ◌-◌, Bool, true, false, List, length, get_or, take, drop, Result, sym, ap, subst, ◌∙◌, eq-eqb}
use Rattle.std.specs.Prelude.{IfErr}
use Rattle.std.specs.List.{take_while}
use Rattle.std.proofs.lemmas.Bool.{ne_eqb}
use Rattle.std.proofs.lemmas.List.{take_rest}
use Rattle.eq_vlex.specs.declared.bytes.Class.TheVariants as class
use Rattle.eq_vlex.specs.declared.fault.LexKind.{LexKind}
use Rattle.eq_vlex.specs.declared.piece.Piece.{Piece}
use Rattle.eq_vlex.specs.Bytes.{is_in}
use Rattle.eq_vlex.specs.Numbers.{size_part, is_quoted, quoted_part, plain_part, tail_part, IsBadNumberOf, IsBadNumber}

bad_from_parts : (text front tail : List ℕ) (quoted : Bool) (r : Result Piece LexKind) → front ≡ size_part text → is_quoted text ≡ quoted → tail ≡ tail_part quoted text
    → IfErr r (IsBadNumberOf quoted front tail) → IfErr r (IsBadNumber text)
bad_from_parts text front tail quoted r front-is quoted-is tail-is bad =
    let with_front : List ℕ → Type 0 = λ s. IfErr r (IsBadNumberOf quoted s tail) in
    let with_tail : List ℕ → Type 0 = λ s. IfErr r (IsBadNumberOf quoted (size_part text) s) in
    let with_test : Bool → Type 0 = λ b. IfErr r (IsBadNumberOf b (size_part text) (tail_part b text)) in
    subst with_test (sym quoted-is) (subst with_tail tail-is (subst with_front front-is bad))

pub quoted_fault : (text front tail : List ℕ) (r : Result Piece LexKind) → front ≡ size_part text → get_or text (length front) 0 ≡ 39
    → tail ≡ take_while (is_in class.Value) (take (length text - (length front + 1)) (drop (length front + 1) text))
    → IfErr r (IsBadNumberOf true front tail) → IfErr r (IsBadNumber text)
quoted_fault text front tail r front-is quote tail-is =
    let quoted : is_quoted text ≡ true = eq-eqb (get_or text (length (size_part text)) 0) 39 (ap (λ (s : List ℕ). get_or text (length s) 0) (sym front-is) ∙ quote) in
    let behind : tail ≡ quoted_part text = tail-is ∙ ap (take_while (is_in class.Value)) (take_rest text (length front + 1)) ∙ ap (λ (s : List ℕ). take_while (is_in class.Value) (drop (length s + 1) text)) front-is in
    bad_from_parts text front tail true r front-is quoted behind

pub plain_fault : (text front tail : List ℕ) (r : Result Piece LexKind) → front ≡ size_part text → (get_or text (length front) 0 ≡ 39 → ⊥)
    → tail ≡ take_while (is_in class.Word) (take (length text - length front) (drop (length front) text))
    → IfErr r (IsBadNumberOf false front tail) → IfErr r (IsBadNumber text)
plain_fault text front tail r front-is other tail-is =
    let plain : is_quoted text ≡ false = ne_eqb (get_or text (length (size_part text)) 0) 39 (λ e. other (ap (λ (s : List ℕ). get_or text (length s) 0) front-is ∙ e)) in
    let behind : tail ≡ plain_part text = tail-is ∙ ap (take_while (is_in class.Word)) (take_rest text (length front)) ∙ ap (λ (s : List ℕ). take_while (is_in class.Word) (drop (length s) text)) front-is in
    bad_from_parts text front tail false r front-is plain behind
