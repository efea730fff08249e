-- What the bits of all words are while they are evaluated one after another.
use Rattle.std.proofs.Common.{◌≡◌, ℕ, zero, suc, ◌+◌, ◌<◌, ◌==◌, List, [], ◌∷◌, ◌++◌, Bool, false, cond, None, slice_get, slice_index_or, length, length-append, refl, arith, ap, sym, subst, ◌∙◌, inl, inr, add-one, eq-eqb}
use Rattle.std.proofs.Math.ListN.{get_or-append}
use Rattle.std.proofs.Math.Seq.{get_or-append_seam}
use Rattle.std.proofs.lemmas.Bool.{cases_lt, false_from_ne_true, eqb-true}
use Rattle.eq_model.specs.Frames.{frames, values}
use Rattle.eq_model.specs.System.{Values}
use Rattle.eq_names.specs.declared.BitName.{BitName}
use Rattle.eq_net.specs.Tree.{Tree}
use Rattle.eq_net.specs.Meaning.{bit_of, table, width}
use Rattle.eq_net.specs.Net.{word_at}
use Rattle.eq_net.specs.inner.Sized.{HasWords}

-- beyond the end of a list all is 0
pub none_at : (xs : List Bool) (j : ℕ) → None ≡ slice_get xs j → false ≡ values xs j
none_at [] j e = refl
none_at (x ∷ xs) zero e = absurd (cc)
none_at (x ∷ xs) (suc j) e = none_at xs j e

pub other_word : (k w : ℕ) (x y : Bool) → w < k → cond {A = Bool} (w == k) x y ≡ y
other_word k w x y lt = ap (λ b. cond {A = Bool} b x y) (false_from_ne_true (w == k) (λ t. (let e = eqb-true w k t in absurd (omega arith))))

pub this_word : (k : ℕ) (x y : Bool) → cond {A = Bool} (k == k) x y ≡ x
this_word k x y = ap (λ b. cond {A = Bool} b x y) (eq-eqb k k refl)

-- one more word
pub one_more_word : (v : Values) (number : BitName → ℕ) (words : List Tree) (n : ℕ) (all all' : List (List Bool)) (bits : List Bool) (t : Tree) →
    HasWords v number words n all → word_at words n ≡ t → all' ≡ all ++ bits ∷ [] → length bits ≡ width t →
    ((j : ℕ) → j < width t → values bits j ≡ bit_of v number (table false (bit_of v number) words n) t j) → HasWords v number words (n + 1) all'
one_more_word v number words n all all' bits t has at grown size each =
    let P : ℕ → Type 0 = λ m. HasWords v number words m all' in
    subst P (sym (add-one n)) (record {
      count = (let c = has.count in let e = ap length grown in let s = length-append all (bits ∷ []) in omega arith);
      sizes = λ w lt. elim (cases_lt w n) [
        | inl less ↦ ap length (before w less) ∙ has.sizes w less
        | inr more ↦ (
            let same : n ≡ w = omega arith in
            let Q : ℕ → Type 0 = λ m. length (slice_index_or all' m []) ≡ width (word_at words m) in
            subst Q same (ap length last ∙ size ∙ ap width (sym at)))
      ];
      each = λ w j lt lj. elim (cases_lt w n) [
        | inl less ↦ ap (λ (xs : List Bool). values xs j) (before w less) ∙ has.each w j less lj ∙ sym (other_word n w (bit_of v number (table false (bit_of v number) words n) (word_at words n) j) (table false (bit_of v number) words n w j) less)
        | inr more ↦ (
            let same : n ≡ w = omega arith in
            let Q : ℕ → Type 0 = λ m. j < width (word_at words m) → frames all' m j ≡ table false (bit_of v number) words (suc n) m j in
            let here : j < width (word_at words n) → frames all' n j ≡ table false (bit_of v number) words (suc n) n j = λ h. (
            ap (λ (xs : List Bool). values xs j) last ∙ each j (let w = ap width at in omega arith) ∙ ap (λ x. bit_of v number (table false (bit_of v number) words n) x j) (sym at)
            ∙ sym (this_word n (bit_of v number (table false (bit_of v number) words n) (word_at words n) j) (table false (bit_of v number) words n n j))) in
            subst Q same here lj)
      ];
    })
  where
    before : (w : ℕ) → w < n → slice_index_or all' w [] ≡ slice_index_or all w []
    before w less = ap (λ (ks : List (List Bool)). slice_index_or ks w []) grown ∙ get_or-append all (bits ∷ []) [] w (let c = has.count in omega arith)

    last : slice_index_or all' n [] ≡ bits
    last = ap (λ k. slice_index_or all' k []) (sym has.count) ∙ ap (λ (ks : List (List Bool)). slice_index_or ks (length all) []) grown ∙ get_or-append_seam all bits [] []
