-- The rows of cells of all words, made one word after another.
use Rattle.std.proofs.Common.{◌≡◌, ℕ, zero, suc, ◌+◌, ◌<◌, List, [], ◌∷◌, ◌++◌, Bool, false, map, slice_index_or, length, length-append, inl, inr, refl, add-one, arith, sym, ap, subst, ◌∙◌}
use Rattle.std.proofs.Math.ListN.{get_or-append}
use Rattle.std.proofs.Math.Seq.{get_or-append_seam}
use Rattle.std.proofs.lemmas.Bool.{cases_lt}
use Rattle.eq_net.specs.declared.cells.gates.Cell.{Cell}
use Rattle.eq_net.specs.Cycles.{word_values}
use Rattle.eq_net.specs.Meaning.{bit_of, table, width}
use Rattle.eq_net.specs.Net.{IsWord, Parts, number_of, word_at}
use Rattle.eq_net.specs.inner.Cells.{Valuation, Computes, Grown, Spells}
use Rattle.eq_net.specs.inner.Circuits.{AreRight, HasRows, bits_in, row}
use Rattle.eq_net.specs.inner.Marks.{AreWhole}
use Rattle.eq_net.proofs.Follows.{word_same}
use Rattle.eq_net.proofs.Marked.{table_of, table_stable}

-- what is right of a row of cells of word k
abbrev pub IsRightRow : Parts → List (List Bool) → List Bool → ℕ → List Cell → List (List ℕ) → List ℕ → Type 0
IsRightRow n words whole k cells rows numbers = (v : Valuation) → Computes cells v → AreWhole n v.bits words whole → AreRight n v k rows →
    (j : ℕ) → j < width (word_at n.words k) → v.cells (slice_index_or numbers j 0) ≡ word_values n v.bits k j

-- a word's cells have its bits, where those of the words before it are right
pub word_right : (n : Parts) (k : ℕ) (cells : List Cell) (rows : List (List ℕ)) (numbers : List ℕ) → k < length n.words → IsWord n.nets n.words k (word_at n.words k) →
    Spells cells numbers 0 (width (word_at n.words k)) (bits_in n.nets rows (word_at n.words k)) →
    (v : Valuation) → Computes cells v → AreRight n v k rows → (j : ℕ) → j < width (word_at n.words k) → v.cells (slice_index_or numbers j 0) ≡ word_values n v.bits k j
word_right n k cells rows numbers lt is spells v h right j below =
    let f = bit_of v.bits (number_of n.nets) in
    let on : 0 + j ≡ j = omega arith in
    ap (λ i. v.cells (slice_index_or numbers i 0)) (sym on) ∙ (spells j below).value v h
    ∙ word_same v.bits (number_of n.nets) n.nets n.words k (λ w i. v.cells (row rows w i)) (table false f n.words k)
    (λ b there. right b.word b.bit there.0 there.1 ∙ table_of f n.words (length n.words) k b.word b.bit there.0 lt) (word_at n.words k) is j
    ∙ sym (table_stable f n.words (length n.words) k j lt)

-- one word more
pub one_more_row : (n : Parts) (words : List (List Bool)) (whole : List Bool) (k : ℕ) (c1 c2 : List Cell) (rows rows' : List (List ℕ)) (numbers : List ℕ) →
    HasRows n words whole k c1 rows → Grown c1 c2 → rows' ≡ rows ++ numbers ∷ [] → length numbers ≡ width (word_at n.words k) → IsRightRow n words whole k c2 rows numbers →
    HasRows n words whole (k + 1) c2 rows'
one_more_row n words whole k c1 c2 rows rows' numbers has grown is size each =
    let P : ℕ → Type 0 = λ m. HasRows n words whole m c2 rows' in
    let last : slice_index_or rows' k [] ≡ numbers = ap (λ i. slice_index_or rows' i []) (sym has.count) ∙ ap (λ (ks : List (List ℕ)). slice_index_or ks (length rows) []) is ∙ get_or-append_seam rows numbers [] [] in
    let before : (w : ℕ) → w < k → slice_index_or rows' w [] ≡ slice_index_or rows w [] = λ w less.
    ap (λ (ks : List (List ℕ)). slice_index_or ks w []) is ∙ get_or-append rows (numbers ∷ []) [] w (let e = has.count in omega arith) in
    subst P (sym (add-one k)) (record {
      count = (let e = has.count in let f = ap length is in let s = length-append rows (numbers ∷ []) in omega arith);
      sizes = λ w lt. elim (cases_lt w k) [
        | inl less ↦ ap length (before w less) ∙ has.sizes w less
        | inr far ↦ (
            let same : k ≡ w = omega arith in
            let Q : ℕ → Type 0 = λ m. length (slice_index_or rows' m []) ≡ width (word_at n.words m) in
            subst Q same (ap length last ∙ size))
      ];
      each = λ v h right w j lt lj. (
          let old = has.each v (grown.before v h) right in
          elim (cases_lt w k) [
            | inl less ↦ ap (λ (ks : List ℕ). v.cells (slice_index_or ks j 0)) (before w less) ∙ old w j less lj
            | inr far ↦ (
                let same : k ≡ w = omega arith in
                let Q : ℕ → Type 0 = λ m. j < width (word_at n.words m) → v.cells (row rows' m j) ≡ word_values n v.bits m j in
                subst Q same (λ here. ap (λ (ks : List ℕ). v.cells (slice_index_or ks j 0)) last ∙ each v h right old j here) lj)
          ]);
    })

-- no row yet
pub no_rows : (n : Parts) (words : List (List Bool)) (whole : List Bool) (cells : List Cell) (rows : List (List ℕ)) → length rows ≡ 0 → HasRows n words whole 0 cells rows
no_rows n words whole cells rows none = record { count = none; sizes = λ w lt. absurd (omega arith); each = λ v h right w j lt lj. absurd (omega arith) }

-- ---- rows of values

pub map_at : (f : ℕ → Bool) (xs : List ℕ) (j : ℕ) → j < length xs → slice_index_or (map f xs) j false ≡ f (slice_index_or xs j 0)
map_at f [] j lt = absurd (omega arith)
map_at f (x ∷ xs) zero lt = refl
map_at f (x ∷ xs) (suc j) lt = map_at f xs j (omega arith)

pub map_row : (f : ℕ → Bool) (rows : List (List ℕ)) (w : ℕ) → slice_index_or (map (map f) rows) w [] ≡ map f (slice_index_or rows w [])
map_row f [] w = refl
map_row f (r ∷ rs) zero = refl
map_row f (r ∷ rs) (suc w) = map_row f rs w

pub length_map : {A B : Type 0} (f : A → B) (xs : List A) → length (map f xs) ≡ length xs
length_map f [] = refl
length_map f (x ∷ xs) = (let e = length_map f xs in omega arith)
