-- The marks of all words, while they are carried one word after another.
use Rattle.std.proofs.Common.{◌≡◌, ℕ, zero, suc, ◌+◌, ◌-◌, ◌<◌, ◌==◌, List, [], ◌∷◌, ◌++◌, cond, nat_lt, Option, Some, None, IfSome, All, slice_get, slice_index_or, length, length-append, refl, arith, ap, sym, subst, ◌∙◌, inl, inr, add-one, eq-eqb}
use Rattle.std.proofs.Math.Path.{fun_ext}
use Rattle.std.proofs.Math.ListN.{get_or-append}
use Rattle.std.proofs.Math.Seq.{get_or-append_seam}
use Rattle.std.proofs.lemmas.Bool.{cases_lt, false_from_ne_true, eqb-true}
use Rattle.std.proofs.lemmas.List.Elements.{All-head, All-tail}
use Rattle.eq_names.specs.declared.BitName.{BitName}
use Rattle.eq_net.specs.declared.types.NetInfo.{NetInfo}
use Rattle.eq_net.specs.declared.types.WordBit.{WordBit}
use Rattle.eq_net.specs.Tree.{Tree, const, read, pick, negated, opposite, binary, reduced, choice, empty, joined, extended}
use Rattle.eq_net.specs.Meaning.{if_there, table, width}
use Rattle.eq_net.specs.Net.{HasWordBit, IsWord, word_at}
use Rattle.eq_marks.specs.declared.marks.Way.{Way}
use Rattle.eq_marks.specs.inner.Carrying.{HasRows, carried, mark_of, rows_mark}
use Rattle.eq_marks.specs.inner.Marks.{Marks, extended_marks, mixed, mixed_all, one_mark, operated}

pub if_some : {X : Type 0} (P : X → Type 0) (xs : List X) → All P xs → (j : ℕ) → IfSome (slice_get xs j) P
if_some P [] h j = tt
if_some P (x ∷ xs) h zero = All-head P x xs h
if_some P (x ∷ xs) h (suc j) = if_some P xs (All-tail P x xs h) j

-- a word has the same marks where the bits that it picks have the same
module _ (way : Way) (named : BitName → Option ℕ) (nets : List NetInfo) (words : List Tree) (k : ℕ) (e d : ℕ → ℕ →
    Option ℕ)
    (earlier : (b : WordBit) → HasWordBit words k b → e b.word b.bit ≡ d b.word b.bit) where
  picked_same : (o : Option WordBit) → IfSome o (HasWordBit words k) →
      if_there None (λ (b : WordBit). e b.word b.bit) o ≡ if_there None (λ (b : WordBit). d b.word b.bit) o
  picked_same None there = refl
  picked_same (Some b) there = earlier b there

  pub carried_same : (t : Tree) → IsWord nets words k t → carried way named e t ≡ carried way named d t
  carried_same (const bits) is = refl
  carried_same (read names) is = refl
  carried_same (pick bits) is = fun_ext (λ j. picked_same (slice_get bits j) (if_some (HasWordBit words k) bits is j))
  carried_same (negated a) is = ap {B = Marks} (λ (f : Marks) j. mixed way (f j) None) (carried_same a is)
  carried_same (opposite a) is = ap {B = Marks} (λ (f : Marks) j. mixed_all way (suc j) f) (carried_same a is)
  carried_same (binary o a b) is =
      ap {B = Marks} (λ (f : Marks) j. operated way o (width a) (width b) f (carried way named e b) j) (carried_same a
      is.0)
      ∙ ap {B = Marks} (λ (g : Marks) j. operated way o (width a) (width b) (carried way named d a) g j) (carried_same
      b is.1)
  carried_same (reduced o a) is = ap {B = Marks} (λ (f : Marks) j. one_mark (mixed_all way (width a) f) j)
      (carried_same a is)
  carried_same (choice c a b) is =
      ap {B = Marks} (λ (f : Marks) j. mixed way (mixed way (f j) (carried way named e b j)) (mixed_all way (width c)
      (carried way named e c))) (carried_same a is.1)
      ∙ ap {B = Marks} (λ (f : Marks) j. mixed way (mixed way (carried way named d a j) (f j)) (mixed_all way (width c)
      (carried way named e c))) (carried_same b is.2)
      ∙ ap {B = Marks} (λ (f : Marks) j. mixed way (mixed way (carried way named d a j) (carried way named d b j))
      (mixed_all way (width c) f)) (carried_same c is.0)
  carried_same empty is = refl
  carried_same (joined a b) is =
      ap {B = Marks} (λ (f : Marks) j. cond {A = Option ℕ} (nat_lt j (width b)) (carried way named e b j) (f (j - width
      b))) (carried_same a is.0)
      ∙ ap {B = Marks} (λ (f : Marks) j. cond {A = Option ℕ} (nat_lt j (width b)) (f j) (carried way named d a (j -
      width b))) (carried_same b is.1)
  carried_same (extended a n) is = ap {B = Marks} (λ (f : Marks) j. extended_marks (width a) f j) (carried_same a is.0)

other_word : (k w : ℕ) (x y : Option ℕ) → w < k → cond {A = Option ℕ} (w == k) x y ≡ y
other_word k w x y lt = ap (λ b. cond {A = Option ℕ} b x y) (false_from_ne_true (w == k) (λ t. (let e = eqb-true w k t
    in absurd (omega arith))))

this_word : (k : ℕ) (x y : Option ℕ) → cond {A = Option ℕ} (k == k) x y ≡ x
this_word k x y = ap (λ b. cond {A = Option ℕ} b x y) (eq-eqb k k refl)

-- one more word
pub one_more_row : (way : Way) (named : BitName → Option ℕ) (words : List Tree) (n : ℕ) (all all' : List (List (Option
    ℕ))) (row : List (Option ℕ)) (t : Tree) →
    HasRows way named words n all → word_at words n ≡ t → all' ≡ all ++ row ∷ [] →
    ((j : ℕ) → j < width t → mark_of row j ≡ carried way named (table None (carried way named) words n) t j) → HasRows
    way named words (n + 1) all'
one_more_row way named words n all all' row t has at grown each =
    let P : ℕ → Type 0 = λ m. HasRows way named words m all' in
    subst P (sym (add-one n)) (record {
      count = (let c = has.count in let e = ap length grown in let s = length-append all (row ∷ []) in omega arith);
      each = λ w j lt lj. elim (cases_lt w n) [
        | inl less ↦ ap (λ (xs : List (Option ℕ)). mark_of xs j) (before w less) ∙ has.each w j less lj
            ∙ sym (other_word n w (carried way named (table None (carried way named) words n) (word_at words n) j)
            (table None (carried way named) words n w j) less)
        | inr more ↦ (
            let same : n ≡ w = omega arith in
            let Q : ℕ → Type 0 = λ m. j < width (word_at words m) → rows_mark all' m j ≡ table None (carried way named)
            words (suc n) m j in
            let here : j < width (word_at words n) → rows_mark all' n j ≡ table None (carried way named) words (suc n)
            n j = λ h. (
            ap (λ (xs : List (Option ℕ)). mark_of xs j) last ∙ each j (let w = ap width at in omega arith)
            ∙ ap (λ x. carried way named (table None (carried way named) words n) x j) (sym at)
            ∙ sym (this_word n (carried way named (table None (carried way named) words n) (word_at words n) j) (table
            None (carried way named) words n n j))) in
            subst Q same here lj)
      ];
    })
  where
    before : (w : ℕ) → w < n → slice_index_or all' w [] ≡ slice_index_or all w []
    before w less = ap (λ (ks : List (List (Option ℕ))). slice_index_or ks w []) grown ∙ get_or-append all (row ∷ [])
        [] w (let c = has.count in omega arith)

    last : slice_index_or all' n [] ≡ row
    last = ap (λ k. slice_index_or all' k []) (sym has.count) ∙ ap (λ (ks : List (List (Option ℕ))). slice_index_or ks
        (length all) []) grown ∙ get_or-append_seam all row [] []
