-- Words that grow: what was said of the words so far stays so.
use Rattle.std.proofs.Common.{◌≡◌, ℕ, zero, suc, ◌+◌, ◌<◌, ◌≤◌, ◌==◌, cond, List, [], ◌∷◌, ◌++◌, length, length-append, slice_index_or, sum_by, refl, arith, sym, ap, ap₂, subst, ◌∙◌, inl, inr, eq-eqb}
use Rattle.std.proofs.Math.ListN.{get_or-append}
use Rattle.std.proofs.Math.Path.{fun_ext}
use Rattle.std.proofs.Math.Seq.{get_or-append_seam}
use Rattle.std.proofs.lemmas.Bool.{cases_lt, false_from_ne_true, eqb-true}
use Rattle.std.proofs.lemmas.List.Sums.{sum_by-append}
use Rattle.eq_net.specs.declared.types.NetInfo.{NetInfo}
use Rattle.eq_net.specs.declared.types.Word.{Word}
use Rattle.eq_net.specs.Tree.{Tree, const, read, pick, negated, opposite, binary, reduced, choice, empty, joined, extended, tree_of, trees_of}
use Rattle.eq_net.specs.Meaning.{width, bit_of, reads_of, copy_in, cost_of, table}
use Rattle.eq_net.specs.Net.{AreWords, IsWord, number_of, word_at}
use Rattle.eq_verilog.specs.Trees.{ExprTree}
use Rattle.eq_verilog.specs.Scopes.{Scope}
use Rattle.eq_flatten.specs.Rendering.{KeepsFront, Reflects, Renders}

pub trees_more : (ws : List Word) (w : Word) → trees_of (ws ++ w ∷ []) ≡ trees_of ws ++ tree_of w ∷ []
trees_more [] w = refl
trees_more (x ∷ ws) w = ap (λ ts. tree_of x ∷ ts) (trees_more ws w)

pub trees_length : (ws : List Word) → length (trees_of ws) ≡ length ws
trees_length [] = refl
trees_length (w ∷ ws) = (let e = trees_length ws in omega arith)

pub keeps_all : (words : List Tree) → KeepsFront words words
keeps_all words = record { more = omega arith; kept = λ k lt. refl }

pub keeps_twice : (a b c : List Tree) → KeepsFront a b → KeepsFront b c → KeepsFront a c
keeps_twice a b c ab bc = record {
  more = (let m = ab.more in let n = bc.more in omega arith);
  kept = λ k lt. (let m = ab.more in bc.kept k (omega arith) ∙ ab.kept k lt);
}

pub keeps_more : (words : List Tree) (t : Tree) → KeepsFront words (words ++ t ∷ [])
keeps_more words t = record {
  more = (let e = length-append words (t ∷ []) in omega arith);
  kept = λ k lt. get_or-append words (t ∷ []) empty k lt;
}

pub added_word : (words : List Tree) (t : Tree) → word_at (words ++ t ∷ []) (length words) ≡ t
added_word words t = get_or-append_seam words t [] empty

pub added_cost : (words : List Tree) (t : Tree) → sum_by cost_of (words ++ t ∷ []) ≡ sum_by cost_of words + cost_of t
added_cost words t =
    (let e = sum_by-append cost_of words (t ∷ []) in
    let o : sum_by cost_of (t ∷ []) ≡ 0 + cost_of t = refl in
    omega (arith, e, o))

-- a word over some words is one over more
module _ (nets : List NetInfo) (old new : List Tree) (k m : ℕ) (le : k ≤ m)
    (same : (i : ℕ) → i < k → word_at new i ≡ word_at old i) where
  pub word_later : (t : Tree) → IsWord nets old k t → IsWord nets new m t
  word_later (const bits) is = tt
  word_later (read names) is = is
  word_later (pick bits) is = λ i d lt. (
      let there = is i d lt in (
        let before = there.0 in omega arith,
        subst (λ (t : Tree). (slice_index_or bits i d).bit < width t) (sym (same (slice_index_or bits i d).word
            there.0)) there.1,
      ))
  word_later (negated a) is = word_later a is
  word_later (opposite a) is = word_later a is
  word_later (binary o a b) is = (word_later a is.0, word_later b is.1, is.2)
  word_later (reduced o a) is = word_later a is
  word_later (choice c a b) is = (word_later c is.0, word_later a is.1, word_later b is.2, is.3)
  word_later empty is = tt
  word_later (joined a b) is = (word_later a is.0, word_later b is.1)
  word_later (extended a n) is = (word_later a is.0, is.1)

-- one more word keeps all words
pub words_more : (nets : List NetInfo) (words : List Tree) (t : Tree) → AreWords nets words →
    IsWord nets words (length words) t → AreWords nets (words ++ t ∷ [])
words_more nets words t are is k lt =
    let new = words ++ t ∷ [] in
    let more = keeps_more words t in
    elim (cases_lt k (length words)) [
      | inl less ↦ subst (λ x. IsWord nets new k x) (sym (more.kept k less))
          (word_later nets words new k k (omega arith) (λ i li. more.kept i (omega arith)) (word_at words k) (are k less))
      | inr above ↦ (
          let e = length-append words (t ∷ []) in
          let last : length words ≡ k = omega arith in
          subst (λ i. IsWord nets new i (word_at new i)) last
          (subst (λ x. IsWord nets new (length words) x) (sym (added_word words t))
          (word_later nets words new (length words) (length words) (omega arith) (λ i li. more.kept i li) t is)))
    ]

reflects_before : {A : Type 0} (f : (ℕ → ℕ → A) → Tree → ℕ → A) (old new : List Tree) (rows : ℕ → ℕ → A) →
    KeepsFront old new → Reflects f new rows → Reflects f old rows
reflects_before f old new rows h r k lt = (let m = h.more in r k (omega arith) ∙ ap (f rows) (h.kept k lt))

-- a word that is an expression over some words is it over more
pub renders_later : (nets : List NetInfo) (old new : List Tree) (s : Scope) (e : ExprTree) (w : ℕ) (t : Tree) →
    KeepsFront old new → Renders nets old s e w t → Renders nets new s e w t
renders_later nets old new s e w t h r = record {
  is_word = word_later nets old new (length old) (length new) h.more h.kept t r.is_word;
  size = r.size;
  values = λ v earlier q. r.values v earlier (reflects_before (bit_of v (number_of nets)) old new earlier h q);
  reads_same = λ earlier q. r.reads_same earlier (reflects_before (reads_of (number_of nets)) old new earlier h q);
  copies = λ earlier q. r.copies earlier (reflects_before (copy_in (number_of nets)) old new earlier h q);
}

-- ---- tables

other_row : {A : Type 0} (k w : ℕ) (x y : A) → w < k → cond (w == k) x y ≡ y
other_row k w x y lt =
    ap (λ b. cond b x y) (false_from_ne_true (w == k) (λ t. (let e = eqb-true w k t in absurd (omega arith))))

this_row : {A : Type 0} (k : ℕ) (x y : A) → cond (k == k) x y ≡ x
this_row k x y = ap (λ b. cond b x y) (eq-eqb k k refl)

module _ {A : Type 0} (z : A) (f : (ℕ → ℕ → A) → Tree → ℕ → A) where
  -- more rows leave a row as it is
  above : (words : List Tree) (m n k j : ℕ) → k < n → n ≤ m → table z f words m k j ≡ table z f words n k j
  above words zero n k j lt le = absurd (omega arith)
  above words (suc m) n k j lt le = elim (cases_lt m n) [
    | inl less ↦ (let e : n ≡ suc m = omega arith in ap (λ i. table z f words i k j) (sym e))
    | inr more ↦
        other_row m k (f (table z f words m) (word_at words m) j) (table z f words m k j) (omega (arith, lt, more))
        ∙ above words m n k j lt (omega (arith, more))
  ]

  -- the rows of the first words depend on these alone
  front : (old new : List Tree) (n : ℕ) → ((i : ℕ) → i < n → word_at new i ≡ word_at old i) →
      table z f new n ≡ table z f old n
  front old new zero same = fun_ext (λ w. fun_ext (λ j. refl))
  front old new (suc n) same =
      let rest = front old new n (λ i lt. same i (omega arith)) in
      fun_ext (λ w. fun_ext (λ j.
      ap₂ (λ (rows : ℕ → ℕ → A) (t : Tree). cond (w == n) (f rows t j) (rows w j)) rest (same n (omega arith))))

  -- a row stays as it is when there are more words
  pub row_later : (old new : List Tree) (k j : ℕ) → KeepsFront old new → k < length old →
      table z f new (length new) k j ≡ table z f old (length old) k j
  row_later old new k j h lt =
      above new (length new) (length old) k j lt h.more
      ∙ ap (λ (rows : ℕ → ℕ → A). rows k j) (front old new (length old) h.kept)

  -- the row of a word that was added is made from those before it
  pub row_added : (words : List Tree) (t : Tree) (j : ℕ) →
      table z f (words ++ t ∷ []) (length (words ++ t ∷ [])) (length words) j ≡ f (table z f words (length words)) t j
  row_added words t j =
      let new = words ++ t ∷ [] in
      let n = length words in
      let more : length new ≡ suc n = (let e = length-append words (t ∷ []) in omega arith) in
      ap (λ i. table z f new i n j) more
      ∙ this_row n (f (table z f new n) (word_at new n) j) (table z f new n n j)
      ∙ ap₂ (λ (rows : ℕ → ℕ → A) (x : Tree). f rows x j) (front words new n (keeps_more words t).kept)
      (added_word words t)
