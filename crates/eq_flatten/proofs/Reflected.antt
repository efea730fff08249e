-- The tables of a netlist reflect its words: so what is said of a word for each table that does is said of the netlist.
use Rattle.std.proofs.Common.{◌≡◌, ℕ, zero, suc, ◌-◌, ◌<◌, ◌==◌, Bool, false, not, nat_lt, cond, List, [], ◌∷◌, length, slice_get, Option, Some, None, IfSome, All, refl, arith, sym, ap, ap₂, subst, ◌∙◌, inl, inr, eq-eqb}
use Rattle.std.proofs.Math.Path.{fun_ext}
use Rattle.std.proofs.lemmas.Bool.{cases_lt, false_from_ne_true, eqb-true}
use Rattle.std.proofs.lemmas.List.Elements.{All-head, All-tail}
use Rattle.eq_model.specs.System.{Values}
use Rattle.eq_names.specs.declared.BitName.{BitName}
use Rattle.eq_net.specs.declared.types.NetInfo.{NetInfo}
use Rattle.eq_net.specs.declared.types.WordBit.{WordBit}
use Rattle.eq_net.specs.Operators as on
use Rattle.eq_net.specs.Tree.{Tree, const, read, pick, negated, opposite, binary, reduced, choice, empty, joined, extended}
use Rattle.eq_net.specs.Meaning.{if_there, width, bit_of, reads_of, copy_in, table, values_of, all_reads_of, all_copies_of}
use Rattle.eq_net.specs.Net.{AreWords, HasWordBit, IsWord, number_of, word_at}
use Rattle.eq_verilog.specs.Trees.{ExprTree}
use Rattle.eq_verilog.specs.Scopes.{Scope}
use Rattle.eq_verilog.specs.Expressions.{value, reads, wire}
use Rattle.eq_flatten.specs.Rendering.{Reflects, Renders}

some_there : {X : Type 0} (P : X → Type 0) (xs : List X) → All P xs → (j : ℕ) → IfSome (slice_get xs j) P
some_there P [] h j = tt
some_there P (x ∷ xs) h zero = All-head P x xs h
some_there P (x ∷ xs) h (suc j) = some_there P xs (All-tail P x xs h) j

module _ (nets : List NetInfo) (words : List Tree) (k : ℕ) where
  -- what is picked is the same where the tables agree on the words before
  picked_same : {A : Type 0} (z : A) (e d : ℕ → ℕ → A) → ((w : ℕ) → w < k → e w ≡ d w) → (o : Option WordBit) →
      IfSome o (HasWordBit words k) →
      if_there z (λ (b : WordBit). e b.word b.bit) o ≡ if_there z (λ (b : WordBit). d b.word b.bit) o
  picked_same z e d h None there = refl
  picked_same z e d h (Some b) there = ap (λ (f : ℕ → _). f b.bit) (h b.word there.0)

  pub bits_same : (v : Values) (number : BitName → ℕ) (e d : ℕ → ℕ → Bool) → ((w : ℕ) → w < k → e w ≡ d w) →
      (t : Tree) → IsWord nets words k t → bit_of v number e t ≡ bit_of v number d t
  bits_same v number e d h (const bits) is = fun_ext (λ j. refl)
  bits_same v number e d h (read names) is = fun_ext (λ j. refl)
  bits_same v number e d h (pick bits) is =
      fun_ext (λ j. picked_same false e d h (slice_get bits j) (some_there (HasWordBit words k) bits is j))
  bits_same v number e d h (negated a) is = fun_ext (λ j. ap (λ (f : ℕ → Bool). not (f j)) (bits_same v number e d h a
      is))
  bits_same v number e d h (opposite a) is =
      fun_ext (λ j. ap (λ (f : ℕ → Bool). on.negative (width a) f j) (bits_same v number e d h a is))
  bits_same v number e d h (binary o a b) is = fun_ext (λ j.
      ap₂ (λ (f g : ℕ → Bool). on.apply o (width a) (width b) f g j) (bits_same v number e d h a is.0) (bits_same v
      number e d h b is.1))
  bits_same v number e d h (reduced o a) is =
      fun_ext (λ j. ap (λ (f : ℕ → Bool). on.one_bit (on.reduce o (width a) f) j) (bits_same v number e d h a is))
  bits_same v number e d h (choice c a b) is = fun_ext (λ j.
      ap (λ (f : ℕ → Bool). on.choose (width c) f (bit_of v number e a) (bit_of v number e b) j) (bits_same v number e
      d h c is.0)
      ∙ ap₂ (λ (f g : ℕ → Bool). on.choose (width c) (bit_of v number d c) f g j) (bits_same v number e d h a is.1)
      (bits_same v number e d h b is.2))
  bits_same v number e d h empty is = fun_ext (λ j. refl)
  bits_same v number e d h (joined a b) is = fun_ext (λ j.
      ap₂ (λ (f g : ℕ → Bool). cond (nat_lt j (width b)) (f j) (g (j - width b))) (bits_same v number e d h b is.1)
      (bits_same v number e d h a is.0))
  bits_same v number e d h (extended a n) is =
      fun_ext (λ j. ap (λ (f : ℕ → Bool). on.extended (width a) f j) (bits_same v number e d h a is.0))

  pub reads_alike : (number : BitName → ℕ) (e d : ℕ → ℕ → List ℕ) → ((w : ℕ) → w < k → e w ≡ d w) →
      (t : Tree) → IsWord nets words k t → reads_of number e t ≡ reads_of number d t
  reads_alike number e d h (const bits) is = fun_ext (λ j. refl)
  reads_alike number e d h (read names) is = fun_ext (λ j. refl)
  reads_alike number e d h (pick bits) is =
      fun_ext (λ j. picked_same [] e d h (slice_get bits j) (some_there (HasWordBit words k) bits is j))
  reads_alike number e d h (negated a) is = fun_ext (λ j. ap (λ (f : on.Reads). f j) (reads_alike number e d h a is))
  reads_alike number e d h (opposite a) is = fun_ext (λ j. ap (λ (f : on.Reads). on.negative_reads f j) (reads_alike
      number e d h a is))
  reads_alike number e d h (binary o a b) is = fun_ext (λ j.
      ap₂ (λ (f g : on.Reads). on.apply_reads o (width a) (width b) f g j) (reads_alike number e d h a is.0)
      (reads_alike number e d h b is.1))
  reads_alike number e d h (reduced o a) is =
      fun_ext (λ j. ap (λ (f : on.Reads). on.one_read (on.all_reads (width a) f) j) (reads_alike number e d h a is))
  reads_alike number e d h (choice c a b) is = fun_ext (λ j.
      ap (λ (f : on.Reads). on.choose_reads (width c) f (reads_of number e a) (reads_of number e b) j) (reads_alike
      number e d h c is.0)
      ∙ ap₂ (λ (f g : on.Reads). on.choose_reads (width c) (reads_of number d c) f g j) (reads_alike number e d h a
      is.1) (reads_alike number e d h b is.2))
  reads_alike number e d h empty is = fun_ext (λ j. refl)
  reads_alike number e d h (joined a b) is = fun_ext (λ j.
      ap₂ (λ (f g : on.Reads). cond (nat_lt j (width b)) (f j) (g (j - width b))) (reads_alike number e d h b is.1)
      (reads_alike number e d h a is.0))
  reads_alike number e d h (extended a n) is =
      fun_ext (λ j. ap (λ (f : on.Reads). on.extended_reads (width a) f j) (reads_alike number e d h a is.0))

  pub copies_same : (number : BitName → ℕ) (e d : ℕ → ℕ → Option ℕ) → ((w : ℕ) → w < k → e w ≡ d w) →
      (t : Tree) → IsWord nets words k t → copy_in number e t ≡ copy_in number d t
  copies_same number e d h (const bits) is = fun_ext (λ j. refl)
  copies_same number e d h (read names) is = fun_ext (λ j. refl)
  copies_same number e d h (pick bits) is =
      fun_ext (λ j. picked_same None e d h (slice_get bits j) (some_there (HasWordBit words k) bits is j))
  copies_same number e d h (negated a) is = fun_ext (λ j. refl)
  copies_same number e d h (opposite a) is = fun_ext (λ j. refl)
  copies_same number e d h (binary o a b) is = fun_ext (λ j. refl)
  copies_same number e d h (reduced o a) is = fun_ext (λ j. refl)
  copies_same number e d h (choice c a b) is = fun_ext (λ j. refl)
  copies_same number e d h empty is = fun_ext (λ j. refl)
  copies_same number e d h (joined a b) is = fun_ext (λ j.
      ap₂ (λ (f g : ℕ → Option ℕ). cond (nat_lt j (width b)) (f j) (g (j - width b))) (copies_same number e d h b
      is.1) (copies_same number e d h a is.0))
  copies_same number e d h (extended a n) is =
      fun_ext (λ j. ap (λ (f : ℕ → Option ℕ). cond (nat_lt j (width a)) (f j) None) (copies_same number e d h a is.0))

-- ---- tables

other_word : {A : Type 0} (k w : ℕ) (x y : A) → w < k → cond (w == k) x y ≡ y
other_word k w x y lt = ap (λ b. cond b x y) (false_from_ne_true (w == k) (λ t. (let e = eqb-true w k t in absurd
    (omega arith))))

this_word : {A : Type 0} (k : ℕ) (x y : A) → cond (k == k) x y ≡ x
this_word k x y = ap (λ b. cond b x y) (eq-eqb k k refl)

module _ {A : Type 0} (z : A) (f : (ℕ → ℕ → A) → Tree → ℕ → A) (words : List Tree) where
  -- a word's row is made from the rows before it, however many words there are
  row_of : (n w : ℕ) → w < n → table z f words n w ≡ f (table z f words w) (word_at words w)
  row_of zero w lt = absurd (omega arith)
  row_of (suc n) w lt = elim (cases_lt w n) [
    | inl less ↦ fun_ext (λ j. other_word n w (f (table z f words n) (word_at words n) j) (table z f words n w j)
        less) ∙ row_of n w less
    | inr more ↦ (
        let same : n ≡ w = omega arith in
        subst (λ m. table z f words (suc n) m ≡ f (table z f words m) (word_at words m)) same
        (fun_ext (λ j. this_word n (f (table z f words n) (word_at words n) j) (table z f words n n j))))
  ]

  pub reflected : (nets : List NetInfo) →
      ((k : ℕ) (e d : ℕ → ℕ → A) → ((w : ℕ) → w < k → e w ≡ d w) → (t : Tree) → IsWord nets words k t → f e t ≡ f d t) →
      AreWords nets words → Reflects f words (table z f words (length words))
  reflected nets follows are k lt =
      row_of (length words) k lt
      ∙ follows k (table z f words k) (table z f words (length words))
      (λ w less. row_of k w less ∙ sym (row_of (length words) w (omega arith))) (word_at words k) (are k lt)

pub values_reflect : (nets : List NetInfo) (words : List Tree) (v : Values) → AreWords nets words →
    Reflects (bit_of v (number_of nets)) words (values_of v (number_of nets) words)
values_reflect nets words v are = reflected false (bit_of v (number_of nets)) words nets (λ k. bits_same nets words k
    v (number_of nets)) are

pub reads_reflect : (nets : List NetInfo) (words : List Tree) → AreWords nets words →
    Reflects (reads_of (number_of nets)) words (all_reads_of (number_of nets) words)
reads_reflect nets words are = reflected [] (reads_of (number_of nets)) words nets (λ k. reads_alike nets words k
    (number_of nets)) are

pub copies_reflect : (nets : List NetInfo) (words : List Tree) → AreWords nets words →
    Reflects (copy_in (number_of nets)) words (all_copies_of (number_of nets) words)
copies_reflect nets words are = reflected None (copy_in (number_of nets)) words nets (λ k. copies_same nets words k
    (number_of nets)) are

-- ---- a word that is an expression

pub values_of_word : (nets : List NetInfo) (words : List Tree) (s : Scope) (e : ExprTree) (w k : ℕ) →
    AreWords nets words →
    k < length words → Renders nets words s e w (word_at words k) → (v : Values) (j : ℕ) →
    values_of v (number_of nets) words k j ≡ value s v e w j
values_of_word nets words s e w k are lt h v j =
    let all = values_reflect nets words v are in
    ap (λ (f : ℕ → Bool). f j) (all k lt ∙ h.values v (values_of v (number_of nets) words) all)

pub reads_of_word : (nets : List NetInfo) (words : List Tree) (s : Scope) (e : ExprTree) (w k : ℕ) →
    AreWords nets words →
    k < length words → Renders nets words s e w (word_at words k) → (j : ℕ) →
    all_reads_of (number_of nets) words k j ≡ reads s e w j
reads_of_word nets words s e w k are lt h j =
    let all = reads_reflect nets words are in
    ap (λ (f : ℕ → List ℕ). f j) (all k lt ∙ h.reads_same (all_reads_of (number_of nets) words) all)

pub copies_of_word : (nets : List NetInfo) (words : List Tree) (s : Scope) (e : ExprTree) (w k : ℕ) →
    AreWords nets words →
    k < length words → Renders nets words s e w (word_at words k) → (j : ℕ) →
    all_copies_of (number_of nets) words k j ≡ wire s e j
copies_of_word nets words s e w k are lt h j =
    let all = copies_reflect nets words are in
    ap (λ (f : ℕ → Option ℕ). f j) (all k lt ∙ h.copies (all_copies_of (number_of nets) words) all)
