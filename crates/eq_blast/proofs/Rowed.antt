-- The nodes of all words' bits while they are made one word after another.
use Rattle.std.proofs.Common.{◌≡◌, ℕ, suc, ◌+◌, ◌-◌, ◌<◌, ◌≤◌, ◌==◌, List, [], ◌∷◌, ◌++◌, Bool, true, false, ◌&&◌, cond, nat_lt, take, slice_get, slice_index_or, length, length-append, sum_by, Option, Some, None, IfSome, inl, inr, refl, add-one, eq-eqb, arith, sym, ap, subst, ◌∙◌}
use Rattle.std.proofs.Math.ListN.{get_or-append}
use Rattle.std.proofs.Math.Seq.{get_or-append_seam}
use Rattle.std.proofs.lemmas.Bool.{cases_lt, false_from_ne_true, eqb-true, ltb-true, ltb-false}
use Rattle.std.proofs.lemmas.List.Sums.{sum_by-drop_more, sum_by-take-drop, sum_by_more_le}
use Rattle.eq_model.specs.System.{Values}
use Rattle.eq_names.specs.declared.BitName.{BitName}
use Rattle.eq_bits.specs.declared.node.Node.{Node}
use Rattle.eq_net.specs.declared.types.NetInfo.{NetInfo}
use Rattle.eq_net.specs.declared.types.WordBit.{WordBit}
use Rattle.eq_net.specs.Numbers.{all_ones}
use Rattle.eq_net.specs.Meaning.{bit_of, cost_of, if_there, width}
use Rattle.eq_net.specs.Net.{HasWordBit, IsWord, number_of, word_at}
use Rattle.eq_net.specs.Tree.{Tree, const, read, pick, negated, opposite, binary, reduced, choice, empty, joined, extended}
use Rattle.eq_blast.specs.inner.Growing.{Gives, Grown}
use Rattle.eq_blast.specs.inner.Needs.{has_of}
use Rattle.eq_blast.specs.inner.Rows.{HasRows, asked_in, values_in}
use Rattle.eq_blast.specs.inner.Stack.{Spells}
use Rattle.eq_blast.specs.inner.Wiring.{node_of}
use Rattle.eq_blast.specs.inner.Words.{RowsThere, asks_in, bits_in, row}
use Rattle.eq_blast.proofs.Growth.{both_of, closed_before, computed_before, gives_still, left_of, right_of}
use Rattle.eq_blast.proofs.Performed.{all_same}
use Rattle.eq_blast.proofs.Tested.{one_weaker}
use Rattle.eq_blast.proofs.Worded.{if_all, needs_within}

either_weaker : (t x y x' y' : Bool) → (t ≡ true → x ≡ true → x' ≡ true) → (t ≡ false → y ≡ true → y' ≡ true) → cond {A = Bool} t x y ≡ true → cond {A = Bool} t x' y' ≡ true
either_weaker true x y x' y' f g h = f refl h
either_weaker false x y x' y' f g h = g refl h

module _ (d : ℕ → Bool) (number : BitName → ℕ) (nets : List NetInfo) (words : List Tree) (k : ℕ) (e e' : ℕ → ℕ → Bool)
    (earlier : (b : WordBit) → HasWordBit words k b → e b.word b.bit ≡ true → e' b.word b.bit ≡ true) where
  picked_within : (o : Option WordBit) → IfSome o (HasWordBit words k) → if_there true (λ (b : WordBit). e b.word b.bit) o ≡ true → if_there true (λ (b : WordBit). e' b.word b.bit) o ≡ true
  picked_within None there h = refl
  picked_within (Some b) there h = earlier b there h

  -- where the set has the picked bits of earlier words, it has what the word asks for
  pub asked_within : (t : Tree) → IsWord nets words k t → (j : ℕ) → j < width t → has_of d number e t j ≡ true → has_of d number e' t j ≡ true
  asked_within (const bits) is j lt h = refl
  asked_within (read names) is j lt h = h
  asked_within (pick bits) is j lt h = picked_within (slice_get bits j) (if_all (HasWordBit words k) (HasWordBit words k) (λ b i. i) bits is j) h
  asked_within (negated a) is j lt h = asked_within a is j lt h
  asked_within (opposite a) is j lt h = all_same (suc j) (has_of d number e a) (has_of d number e' a) (λ i li. asked_within a is i (omega arith)) h
  asked_within (binary o a b) is j lt h =
      needs_within (width a) (width b) (has_of d number e a) (has_of d number e b) (has_of d number e' a) (has_of d number e' b) (asked_within a is.0) (asked_within b is.1) o j is.2 lt h
  asked_within (reduced o a) is j lt h =
      one_weaker (all_ones (width a) (has_of d number e a)) (all_ones (width a) (has_of d number e' a)) (j == 0) (all_same (width a) (has_of d number e a) (has_of d number e' a) (asked_within a is)) h
  asked_within (choice c a b) is j lt h =
      let rest = right_of (all_ones (width c) (has_of d number e c)) (has_of d number e a j && has_of d number e b j) h in
      both_of (all_ones (width c) (has_of d number e' c)) (has_of d number e' a j && has_of d number e' b j)
      (all_same (width c) (has_of d number e c) (has_of d number e' c) (asked_within c is.0) (left_of (all_ones (width c) (has_of d number e c)) (has_of d number e a j && has_of d number e b j) h))
      (both_of (has_of d number e' a j) (has_of d number e' b j) (asked_within a is.1 j lt (left_of (has_of d number e a j) (has_of d number e b j) rest))
      (asked_within b is.2 j (let s = is.3 in omega arith) (right_of (has_of d number e a j) (has_of d number e b j) rest)))
  asked_within empty is j lt h = refl
  asked_within (joined a b) is j lt h =
      either_weaker (nat_lt j (width b)) (has_of d number e b j) (has_of d number e a (j - width b)) (has_of d number e' b j) (has_of d number e' a (j - width b))
      (λ t. asked_within b is.1 j (ltb-true j (width b) t)) (λ t. asked_within a is.0 (j - width b) (let le = ltb-false j (width b) t in omega arith)) h
  asked_within (extended a n) is j lt h =
      either_weaker (nat_lt j (width a)) (has_of d number e a j) true (has_of d number e' a j) true (λ t. asked_within a is.0 j (ltb-true j (width a) t)) (λ t u. refl) h

other_word : (k w : ℕ) (x y : Bool) → w < k → cond {A = Bool} (w == k) x y ≡ y
other_word k w x y lt = ap (λ b. cond {A = Bool} b x y) (false_from_ne_true (w == k) (λ t. (let e = eqb-true w k t in absurd (omega arith))))

this_word : (k : ℕ) (x y : Bool) → cond {A = Bool} (k == k) x y ≡ x
this_word k x y = ap (λ b. cond {A = Bool} b x y) (eq-eqb k k refl)

-- all nodes of the rows are there
pub rows_there : (nets : List NetInfo) (words : List Tree) (n : ℕ) (b : List Node) (rows : List (List ℕ)) → HasRows nets words n b rows → RowsThere b rows
rows_there nets words n b rows has w lt j lj =
    let c = has.count in
    let s = has.sizes w (omega arith) in
    (has.each w j (omega arith) (omega arith)).there

module _ (law : (v : Values) (number : BitName → ℕ) (nets : List NetInfo) (words : List Tree) (k : ℕ) (e d : ℕ → ℕ → Bool) →
    ((b : WordBit) → HasWordBit words k b → e b.word b.bit ≡ d b.word b.bit) → (t : Tree) → IsWord nets words k t → (j : ℕ) → bit_of v number e t j ≡ bit_of v number d t j)
    (nets : List NetInfo) (words : List Tree) (n c : ℕ) (b1 b2 : List Node) (rows rows' : List (List ℕ)) (nodes : List ℕ) (t : Tree) where
  -- one word more
  pub one_more_row : HasRows nets words n b1 rows → word_at words n ≡ t → IsWord nets words n t → rows' ≡ rows ++ nodes ∷ [] → length nodes ≡ width t → Grown c b1 b2 →
      Spells b2 nodes 0 (width t) (bits_in nets rows t) (asks_in nets rows t) → HasRows nets words (n + 1) b2 rows'
  one_more_row has at is grown size more spells =
      let P : ℕ → Type 0 = λ m. HasRows nets words m b2 rows' in
      let last : slice_index_or rows' n [] ≡ nodes = ap (λ k. slice_index_or rows' k []) (sym has.count) ∙ ap (λ (ks : List (List ℕ)). slice_index_or ks (length rows) []) grown ∙ get_or-append_seam rows nodes [] [] in
      let before : (w : ℕ) → w < n → slice_index_or rows' w [] ≡ slice_index_or rows w [] = λ w less.
      ap (λ (ks : List (List ℕ)). slice_index_or ks w []) grown ∙ get_or-append rows (nodes ∷ []) [] w (let e = has.count in omega arith) in
      let new : (j : ℕ) → j < width t → Gives b2 (slice_index_or nodes j 0) (λ x. bit_of (λ b. x (node_of b)) (number_of nets) (values_in nets words n x) t j)
      (λ d. has_of (λ b. d (node_of b)) (number_of nets) (asked_in nets words n d) t j) = λ j lt. (
      let i = spells j lt in
      let zero_on : 0 + j ≡ j = omega arith in
      let Q : ℕ → Type 0 = λ m. Gives b2 (slice_index_or nodes m 0) (λ x. bit_of (λ b. x (node_of b)) (number_of nets) (values_in nets words n x) t j)
      (λ d. has_of (λ b. d (node_of b)) (number_of nets) (asked_in nets words n d) t j) in
      subst Q zero_on (record {
        there = i.there;
        value = λ x co. i.value x co ∙ law (λ b. x (node_of b)) (number_of nets) nets words n (λ w k. x (row rows w k)) (values_in nets words n x)
            (λ b there. (has.each b.word b.bit there.0 there.1).value x (computed_before c b1 b2 more x co)) t is j;
        has = λ d cl h. i.has d cl (asked_within (λ b. d (node_of b)) (number_of nets) nets words n (asked_in nets words n d) (λ w k. d (row rows w k))
            (λ b there. (has.each b.word b.bit there.0 there.1).has d (closed_before c b1 b2 more d cl)) t is j lt h);
      })) in
      subst P (sym (add-one n)) (record {
        count = (let e = has.count in let f = ap length grown in let s = length-append rows (nodes ∷ []) in omega arith);
        sizes = λ w lt. elim (cases_lt w n) [
          | inl less ↦ ap length (before w less) ∙ has.sizes w less
          | inr far ↦ (
              let same : n ≡ w = omega arith in
              let Q : ℕ → Type 0 = λ m. length (slice_index_or rows' m []) ≡ width (word_at words m) in
              subst Q same (ap length last ∙ size ∙ ap width (sym at)))
        ];
        each = λ w j lt lj. elim (cases_lt w n) [
          | inl less ↦ (
              let i = gives_still c b1 b2 more (row rows w j) (λ x. values_in nets words n x w j) (λ d. asked_in nets words n d w j) (has.each w j less lj) in
              let Q : List ℕ → Type 0 = λ ns. Gives b2 (slice_index_or ns j 0) (λ x. values_in nets words (suc n) x w j) (λ d. asked_in nets words (suc n) d w j) in
              subst Q (sym (before w less)) (record {
                there = i.there;
                value = λ x co. i.value x co ∙ sym (other_word n w (bit_of (λ b. x (node_of b)) (number_of nets) (values_in nets words n x) (word_at words n) j) (values_in nets words n x w j) less);
                has = λ d cl h. i.has d cl (sym (other_word n w (has_of (λ b. d (node_of b)) (number_of nets) (asked_in nets words n d) (word_at words n) j) (asked_in nets words n d w j) less) ∙ h);
              }))
          | inr far ↦ (
              let same : n ≡ w = omega arith in
              let Q : ℕ → Type 0 = λ m. j < width (word_at words m) → Gives b2 (row rows' m j) (λ x. values_in nets words (suc n) x m j) (λ d. asked_in nets words (suc n) d m j) in
              let here : j < width (word_at words n) → Gives b2 (row rows' n j) (λ x. values_in nets words (suc n) x n j) (λ d. asked_in nets words (suc n) d n j) = λ lt2. (
              let i = new j (let e = ap width at in omega arith) in
              let R : List ℕ → Type 0 = λ ns. Gives b2 (slice_index_or ns j 0) (λ x. values_in nets words (suc n) x n j) (λ d. asked_in nets words (suc n) d n j) in
              subst R (sym last) (record {
                there = i.there;
                value = λ x co. i.value x co ∙ ap (λ u. bit_of (λ b. x (node_of b)) (number_of nets) (values_in nets words n x) u j) (sym at)
                    ∙ sym (this_word n (bit_of (λ b. x (node_of b)) (number_of nets) (values_in nets words n x) (word_at words n) j) (values_in nets words n x n j));
                has = λ d cl h. i.has d cl (ap (λ u. has_of (λ b. d (node_of b)) (number_of nets) (asked_in nets words n d) u j) (sym at)
                    ∙ sym (this_word n (has_of (λ b. d (node_of b)) (number_of nets) (asked_in nets words n d) (word_at words n) j) (asked_in nets words n d n j)) ∙ h);
              })) in
              subst Q same here lj)
        ];
      })

-- ---- costs

-- one word more costs what it costs, and all together no less
pub costs_next : (ts : List Tree) (k : ℕ) → k < length ts → sum_by cost_of (take (k + 1) ts) ≡ sum_by cost_of (take k ts) + cost_of (word_at ts k)
costs_next ts k lt =
    let a = sum_by-take-drop cost_of ts k in
    let b = sum_by-take-drop cost_of ts (k + 1) in
    let c = sum_by-drop_more cost_of ts k empty lt in
    omega arith

pub costs_within : (ts : List Tree) (k : ℕ) → k < length ts → sum_by cost_of (take k ts) + cost_of (word_at ts k) ≤ sum_by cost_of ts
costs_within ts k lt = sum_by_more_le cost_of ts k empty lt

-- no row yet
pub no_rows : (nets : List NetInfo) (words : List Tree) (b : List Node) (rows : List (List ℕ)) → length rows ≡ 0 → HasRows nets words 0 b rows
no_rows nets words b rows none = record { count = none; sizes = λ w lt. absurd (omega arith); each = λ w j lt lj. absurd (omega arith) }
