-- The first mark of the table that a text begins with is the longest.
use Rattle.std.proofs.Common.{◌≡◌, ℕ, ◌≤◌, Bool, true, false, cond, leb, ◌&&◌, List, [], ◌∷◌, length, take, Option, Some, refl, ap, subst, arith}
use Rattle.std.specs.Prelude.{unwrap_or, option_map}
use Rattle.std.specs.List.{list_all, AllByRecursion}
use Rattle.std.specs.Str.{bytes_eq}
use Rattle.std.proofs.lemmas.Bool.{and_parts, leb-true, both_ways}
use Rattle.eq_vlex.specs.declared.mark.Mark.{Mark}
use Rattle.eq_vlex.specs.Marks.{marks, first_row, mark_at, Begins, IsLongest}

-- no row is longer than one before it
abbrev descends : {A : Type 0} → List (List ℕ × A) → Bool
descends [] = true
descends (row ∷ rows) = list_all (λ later. leb (length later.0) (length row.0)) rows && descends rows

none_longer : {A : Type 0} (rows : List (List ℕ × A)) (text : List ℕ) (len : ℕ) → list_all (λ later. leb (length later.0) len) rows ≡ true → AllByRecursion (λ row. Begins text row.0 → length row.0 ≤ len) rows
none_longer [] text len all = tt
none_longer (row ∷ rows) text len all =
    let parts = and_parts (leb (length row.0) len) (list_all (λ later. leb (length later.0) len) rows) all in
    (λ begins. leb-true (length row.0) len parts.0, none_longer rows text len parts.1)

first_is_longest : {A : Type 0} (rows : List (List ℕ × A)) (text : List ℕ) (a : A) (len : ℕ) → descends rows ≡ true → first_row rows text ≡ Some (a, len) → AllByRecursion (λ row. Begins text row.0 → length row.0 ≤ len) rows
first_is_longest [] text a len sorted e = tt
first_is_longest {A = A} (row ∷ rows) text a len sorted e =
    let parts = and_parts (list_all (λ later. leb (length later.0) (length row.0)) rows) (descends rows) sorted in
    (elim (bytes_eq row.0 (take (length row.0) text)) as (λ b. bytes_eq row.0 (take (length row.0) text) ≡ b → cond b (Some (row.1, length row.0)) (first_row rows text) ≡ Some (a, len) → AllByRecursion (λ later. Begins text later.0 → length later.0 ≤ len) (row ∷ rows)) [
      | true ↦ λ same found.
          let len-is : length row.0 ≡ len = ap (λ (o : Option (A × ℕ)). unwrap_or (option_map (λ p. p.1) o) 0) found in
          subst (λ (n : ℕ). AllByRecursion (λ later. Begins text later.0 → length later.0 ≤ n) (row ∷ rows)) len-is (λ begins. omega arith, none_longer rows text (length row.0) parts.0)
      | false ↦ λ other found. (λ begins. absurd (both_ways (bytes_eq row.0 (take (length row.0) text)) other begins), first_is_longest rows text a len parts.1 found)
    ]) refl e

pub mark_is_longest : (text : List ℕ) (m : Mark) (len : ℕ) → mark_at text ≡ Some (m, len) → IsLongest text len
unfolding mark_at
mark_is_longest text m len e = first_is_longest marks text m len refl e
