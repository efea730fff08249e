-- Marks as they are read again.
use Rattle.std.proofs.Common.{◌≡◌, ℕ, Bool, true, false, cond, eqb, ◌&&◌, ◌||◌, List, [], ◌∷◌, ◌++◌, length, get_or, take, drop, Option, Some, None, refl, sym, ap, subst, ◌∙◌, arith, inl, inr}
use Rattle.std.specs.List.{list_any}
use Rattle.std.specs.Str.{bytes_eq}
use Rattle.std.proofs.lemmas.Bool.{cases_Bool, or_parts, false_from_ne_true, true≢false}
use Rattle.std.proofs.lemmas.List.{take_at}
use Rattle.std.proofs.lemmas.Slice.Eq.{bytes_eq-Decides}
use Rattle.eq_vlex.specs.declared.bytes.Start.{Start}
use Rattle.eq_vlex.specs.declared.bytes.Start.TheVariants as start
use Rattle.eq_vlex.specs.declared.mark.Mark.{Mark}
use Rattle.eq_vlex.specs.declared.mark.Mark.TheVariants as mark
use Rattle.eq_vlex.specs.declared.token.TokenKind.{TokenKind}
use Rattle.eq_vlex.specs.declared.token.TokenKind.TheVariants as kind
use Rattle.eq_vlex.specs.Bytes.{begins}
use Rattle.eq_vlex.specs.Marks.{marks, first_row, mark_at}
use Rattle.eq_vlex.specs.Pieces.{IsLexeme}
use Rattle.eq_vparse.specs.Layout.{mark_bytes, lengthening}
use Rattle.eq_vparse.proofs.TextPieces.{Reads, put_token}

-- ---- rows of a table

-- a row may begin a text of these bytes and then b
may_begin : List ℕ → List ℕ → ℕ → Bool
may_begin [] bytes b = true
may_begin (x ∷ row) [] b = eqb b x
may_begin (x ∷ row) (y ∷ bytes) b = eqb x y && may_begin row bytes b

-- the first row that may
first_that_may : {A : Type 0} → List (List ℕ × A) → List ℕ → ℕ → Option (List ℕ × A)
unfolding may_begin
first_that_may [] bytes b = None
first_that_may (row ∷ rows) bytes b = cond (may_begin row.0 bytes b) (Some row) (first_that_may rows bytes b)

does_begin : (row bytes rest : List ℕ) → row ≡ take (length row) (bytes ++ rest) → may_begin row bytes (get_or rest 0 0) ≡ true
unfolding may_begin
does_begin [] bytes rest e = refl
does_begin (x ∷ row) [] [] e = let none = ap length e in absurd (omega (arith, none))
does_begin (x ∷ row) [] (b ∷ rest) e = let same : b ≡ x = sym (ap (λ (t : List ℕ). get_or t 0 0) e) in rw same (eqb-refl x)
  where
    eqb-refl : (n : ℕ) → eqb n n ≡ true
    eqb-refl n = grind arith
does_begin (x ∷ row) (y ∷ bytes) rest e =
    let same : x ≡ y = ap (λ (t : List ℕ). get_or t 0 0) e in
    let more = does_begin row bytes rest (ap (λ (t : List ℕ). drop 1 t) e) in
    rw (same, more) (both y)
  where
    both : (n : ℕ) → (eqb n n && true) ≡ true
    both n = grind arith

passed_over : (row bytes rest : List ℕ) → may_begin row bytes (get_or rest 0 0) ≡ false → bytes_eq row (take (length row) (bytes ++ rest)) ≡ false
passed_over row bytes rest never = false_from_ne_true (bytes_eq row (take (length row) (bytes ++ rest))) (λ same. true≢false (sym (does_begin row bytes rest ((bytes_eq-Decides row (take (length row) (bytes ++ rest))).0 same)) ∙ never))

found_row : {A : Type 0} (row : List ℕ × A) (rest : List ℕ) → bytes_eq row.0 (take (length row.0) (row.0 ++ rest)) ≡ true
found_row row rest = (bytes_eq-Decides row.0 (take (length row.0) (row.0 ++ rest))).1 (sym (take_at row.0 rest (length row.0) refl))

-- a table gives the row that is the first that may, where the text begins with it
row_found : {A : Type 0} (rows : List (List ℕ × A)) (bytes rest : List ℕ) (a : A) → first_that_may rows bytes (get_or rest 0 0) ≡ Some (bytes, a) → first_row rows (bytes ++ rest) ≡ Some (a, length bytes)
unfolding first_that_may
row_found [] bytes rest a e = absurd cc
row_found {A = A} (row ∷ rows) bytes rest a e =
    elim (cases_Bool (may_begin row.0 bytes (get_or rest 0 0))) [
      | inl may ↦
          let is : ◌≡◌ {A = Option (List ℕ × A)} (Some row) (Some (bytes, a)) = sym (ap (λ (t : Bool). cond t (Some row) (first_that_may rows bytes (get_or rest 0 0))) may) ∙ e in
          here (inside is)
      | inr never ↦
          let later : first_that_may rows bytes (get_or rest 0 0) ≡ Some (bytes, a) = sym (ap (λ (t : Bool). cond t (Some row) (first_that_may rows bytes (get_or rest 0 0))) never) ∙ e in
          rw (passed_over row.0 bytes rest never) (row_found rows bytes rest a later)
    ]
  where
    inside : ◌≡◌ {A = Option (List ℕ × A)} (Some row) (Some (bytes, a)) → row ≡ (bytes, a)
    inside is = ap (λ (o : Option (List ℕ × A)). elim o as (λ x. List ℕ × A) [ None ↦ row | Some p ↦ p ]) is

    here : row ≡ (bytes, a) → first_row (row ∷ rows) (bytes ++ rest) ≡ Some (a, length bytes)
    here is = subst (λ (r : List ℕ × A). first_row (r ∷ rows) (bytes ++ rest) ≡ Some (a, length bytes)) (sym is) (rw (found_row {A = A} (bytes, a) rest) refl)

-- ---- the table of marks

mark_first : (m : Mark) (b : ℕ) → list_any (λ x. eqb b x) (lengthening m) ≡ false → first_that_may marks (mark_bytes m) b ≡ Some (mark_bytes m, m)
unfolding first_that_may may_begin
mark_first mark.Assign b e = rw ((or_parts (eqb b 61) false e).0) refl
mark_first mark.Exclamation b e = rw ((or_parts (eqb b 61) false e).0) refl
mark_first mark.And b e = rw ((or_parts (eqb b 38) false e).0) refl
mark_first mark.Or b e = rw ((or_parts (eqb b 124) false e).0) refl
mark_first mark.Xor b e = rw ((or_parts (eqb b 126) false e).0) refl
mark_first mark.Equal b e = rw ((or_parts (eqb b 61) false e).0) refl
mark_first mark.NotEqual b e = rw ((or_parts (eqb b 61) false e).0) refl
mark_first mark.Less b e = let one = or_parts (eqb b 61) (eqb b 60 || false) e in rw (one.0, (or_parts (eqb b 60) false one.1).0) refl
mark_first mark.Greater b e = let one = or_parts (eqb b 61) (eqb b 62 || false) e in rw (one.0, (or_parts (eqb b 62) false one.1).0) refl
mark_first mark.Tilde b e =
    let one = or_parts (eqb b 38) (eqb b 124 || (eqb b 94 || false)) e in
    let two = or_parts (eqb b 124) (eqb b 94 || false) one.1 in
    rw (one.0, two.0, (or_parts (eqb b 94) false two.1).0) refl
mark_first _ b e = refl

mark_front : (m : Mark) (rest : List ℕ) → list_any (λ x. eqb (get_or rest 0 0) x) (lengthening m) ≡ false → begins (mark_bytes m ++ rest) ≡ start.Other
unfolding begins
mark_front mark.LeftParen rest e = rw ((or_parts (eqb (get_or rest 0 0) 42) false e).0) refl
mark_front _ rest e = refl

pub put_mark : (m : Mark) (rest : List ℕ) (kinds : List TokenKind) → list_any (λ x. eqb (get_or rest 0 0) x) (lengthening m) ≡ false → Reads rest kinds → Reads (mark_bytes m ++ rest) (kind.Mark m ∷ kinds)
unfolding mark_at
put_mark m rest kinds stops h =
    let text : List ℕ = mark_bytes m ++ rest in
    let lexeme : IsLexeme start.Other text (length (mark_bytes m)) (kind.Mark m) = (m, row_found marks (mark_bytes m) rest m (mark_first m (get_or rest 0 0) stops), refl) in
    put_token (mark_bytes m) rest (kind.Mark m) kinds (subst (λ (s : Start). IsLexeme s text (length (mark_bytes m)) (kind.Mark m)) (sym (mark_front m rest stops)) lexeme) h
