-- The tables of the code are those of the definitions.
use Rattle.std.proofs.Common.{◌≡◌, ℕ, ◌<◌, ◌≤◌, true, false, cond, ltb, List, [], ◌∷◌, length, map, take, Option, Some, None, refl, sym, ap, arith}
use Rattle.std.specs.Prelude.{IfSome, unwrap_or, option_map}
use Rattle.std.specs.List.{list_all}
use Rattle.std.specs.Str.{bytes_eq}
use Rattle.std.proofs.lemmas.Bool.{and_parts, ltb-true}
use Rattle.std.proofs.lemmas.List.{length-take}
use Rattle.std.proofs.lemmas.Slice.Eq.{bytes_eq-Decides}
use Rattle.eq_vlex.specs.declared.key.TheConstants.{KEYWORDS}
use Rattle.eq_vlex.specs.declared.mark.Mark.{Mark}
use Rattle.eq_vlex.specs.declared.mark.TheConstants.{MARKS}
use Rattle.eq_vlex.specs.Words.{keywords}
use Rattle.eq_vlex.specs.Marks.{marks, first_row}

pub keywords_are : map (λ row. (row.0.now, row.1)) KEYWORDS ≡ keywords
keywords_are = refl

pub marks_are : map (λ row. (row.0.now, row.1)) MARKS ≡ marks
marks_are = refl

-- a row that is found has a byte, and its bytes are in the text
pub row_within : {A : Type 0} (rows : List (List ℕ × A)) (text : List ℕ) (a : A) (len : ℕ) → list_all (λ row. ltb 0 (length row.0)) rows ≡ true → first_row rows text ≡ Some (a, len) → (0 < len) × (len ≤ length text)
row_within [] text a len some e = absurd cc
row_within {A = A} (row ∷ rows) text a len some e =
    let parts = and_parts (ltb 0 (length row.0)) (list_all (λ row. ltb 0 (length row.0)) rows) some in
    (elim (bytes_eq row.0 (take (length row.0) text)) as (λ b. bytes_eq row.0 (take (length row.0) text) ≡ b → cond b (Some (row.1, length row.0)) (first_row rows text) ≡ Some (a, len) → (0 < len) × (len ≤ length text)) [
      | true ↦ λ same found.
          let bytes : row.0 ≡ take (length row.0) text = (bytes_eq-Decides row.0 (take (length row.0) text)).0 same in
          let len-is : length row.0 ≡ len = ap (λ (o : Option (A × ℕ)). unwrap_or (option_map (λ p. p.1) o) 0) found in
          let some_byte = ltb-true 0 (length row.0) parts.0 in
          (omega arith, omega (arith, ap length bytes, length-take (length row.0) text))
      | false ↦ λ other found. row_within rows text a len parts.1 found
    ]) refl e

pub mark_within : (text : List ℕ) (found : Option (Mark × ℕ)) → found ≡ first_row marks text → IfSome found (λ p. (0 < p.1) × (p.1 ≤ length text))
mark_within text None e = tt
mark_within text (Some (m, len)) e = row_within marks text m len refl (sym e)
