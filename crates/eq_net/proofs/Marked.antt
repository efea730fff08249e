-- Words that are evaluated behind all that they read have the values of the solution.
use Rattle.std.proofs.Common.{◌≡◌, ℕ, zero, suc, ◌<◌, List, [], ◌∷◌, Bool, true, false, not, nat_lt, ◌-◌, slice_get, length, Option, Some, None, IfSome, refl, arith, ap, sym, subst, ◌∙◌, inl, inr}
use Rattle.std.proofs.lemmas.Bool.{cases_lt}
use Rattle.eq_model.specs.Frames.{frames, values}
use Rattle.eq_model.specs.System.{Values}
use Rattle.eq_names.specs.declared.BitName.{BitName}
use Rattle.eq_net.specs.declared.types.NetInfo.{NetInfo}
use Rattle.eq_net.specs.declared.types.WordBit.{WordBit}
use Rattle.eq_net.specs.Tree.{Tree, const, read, pick, negated, opposite, binary, reduced, choice, empty, joined, extended}
use Rattle.eq_net.specs.Meaning.{if_there, bit_of, table, width}
use Rattle.eq_net.specs.Cycles.{word_values}
use Rattle.eq_net.specs.Net.{AreWords, HasWordBit, IsWord, Parts, bits_of, number_of, word_at}
use Rattle.eq_net.specs.inner.Marks.{AreMarked, AreWhole, IsReady}
use Rattle.eq_net.specs.inner.Sized.{HasWords}
use Rattle.eq_net.proofs.Depending.{apply_same, reduce_same, opposite_same, extended_same, choose_same, branch_same}
use Rattle.eq_net.proofs.Bounded.{table_below}
use Rattle.eq_net.proofs.Follows.{if_some, table_follows}
use Rattle.eq_net.proofs.WordBits.{other_word, this_word}

-- a ready word has one value, where marked bits and bits of marked words have
module _ (v u : Values) (number : BitName → ℕ) (done whole : List Bool) (nets : List NetInfo) (words : List Tree) (k : ℕ) (e d : ℕ → ℕ → Bool)
    (marked : (b : ℕ) → values done b ≡ true → v b ≡ u b)
    (earlier : (b : WordBit) → HasWordBit words k b → values whole b.word ≡ true → e b.word b.bit ≡ d b.word b.bit) where
  named_same : (o : Option BitName) → IfSome o (λ n. values done (number n) ≡ true) → if_there false (λ n. v (number n)) o ≡ if_there false (λ n. u (number n)) o
  named_same None is = refl
  named_same (Some n) is = marked (number n) is

  picked_same : (o : Option WordBit) → IfSome o (HasWordBit words k) → IfSome o (λ (b : WordBit). values whole b.word ≡ true) →
      if_there false (λ (b : WordBit). e b.word b.bit) o ≡ if_there false (λ (b : WordBit). d b.word b.bit) o
  picked_same None there is = refl
  picked_same (Some b) there is = earlier b there is

  pub ready_same : (t : Tree) → IsWord nets words k t → IsReady number done whole t → (j : ℕ) → bit_of v number e t j ≡ bit_of u number d t j
  ready_same (const bits) is ready j = refl
  ready_same (read names) is ready j = named_same (slice_get names j) (if_some (λ n. values done (number n) ≡ true) names ready j)
  ready_same (pick bits) is ready j =
      picked_same (slice_get bits j) (if_some (HasWordBit words k) bits is j) (if_some (λ (b : WordBit). values whole b.word ≡ true) bits ready j)
  ready_same (negated t) is ready j = ap not (ready_same t is ready j)
  ready_same (opposite t) is ready j =
      opposite_same v v (λ i. []) (bit_of v number e t) (bit_of u number d t) (λ i a. ready_same t is ready i) (width t) j (λ b c. refl)
  ready_same (binary o s t) is ready j =
      apply_same v v (λ i. []) (λ i. []) (bit_of v number e s) (bit_of v number e t) (bit_of u number d s) (bit_of u number d t)
      (λ i a. ready_same s is.0 ready.0 i) (λ i a. ready_same t is.1 ready.1 i) o (width s) (width t) j is.2 (λ b c. refl)
  ready_same (reduced o t) is ready j =
      reduce_same v v (λ i. []) (bit_of v number e t) (bit_of u number d t) (λ i a. ready_same t is ready i) o (width t) j (λ b c. refl)
  ready_same (choice c s t) is ready j =
      choose_same v v (λ i. []) (λ i. []) (λ i. []) (bit_of v number e c) (bit_of u number d c) (bit_of v number e s) (bit_of v number e t) (bit_of u number d s) (bit_of u number d t)
      (λ i a. ready_same c is.0 ready.0 i) (λ i a. ready_same s is.1 ready.1 i) (λ i a. ready_same t is.2 ready.2 i) (width c) j (λ b r. refl)
  ready_same empty is ready j = refl
  ready_same (joined s t) is ready j =
      branch_same v v [] [] (bit_of v number e t j) (bit_of u number d t j) (bit_of v number e s (j - width t)) (bit_of u number d s (j - width t)) (nat_lt j (width t))
      (λ a. ready_same t is.1 ready.1 j) (λ a. ready_same s is.0 ready.0 (j - width t)) (λ b c. refl)
  ready_same (extended t n) is ready j =
      extended_same v v (λ i. []) (bit_of v number e t) (bit_of u number d t) (λ i a. ready_same t is.0 ready i) (width t) j (λ b c. refl)

-- a word's bits are made of those of the words before it, and later words leave them
pub table_stable : (f : (ℕ → ℕ → Bool) → Tree → ℕ → Bool) (words : List Tree) (k w j : ℕ) → w < k →
    table false f words k w j ≡ f (table false f words w) (word_at words w) j
table_stable f words zero w j lt = absurd (omega arith)
table_stable f words (suc k) w j lt = elim (cases_lt w k) [
  | inl less ↦ other_word k w (f (table false f words k) (word_at words k) j) (table false f words k w j) less ∙ table_stable f words k w j less
  | inr more ↦ (
      let same : k ≡ w = omega arith in
      let P : ℕ → Type 0 = λ n. table false f words (suc k) n j ≡ f (table false f words n) (word_at words n) j in
      subst P same (this_word k (f (table false f words k) (word_at words k) j) (table false f words k k j)))
]

-- so the bits of a word that stands before word k are the same in the table of all
pub table_of : (f : (ℕ → ℕ → Bool) → Tree → ℕ → Bool) (words : List Tree) (n k w j : ℕ) → w < k → k < n →
    table false f words n w j ≡ table false f words k w j
table_of f words n k w j lw lk = table_stable f words n w j (omega arith) ∙ sym (table_stable f words k w j lw)

-- a ready word has the bits that it has in the solution
pub whole_bit : (n : Parts) (v : Values) (now done : List Bool) (words : List (List Bool)) (whole : List Bool) (k : ℕ) → AreWords n.nets n.words → k < length n.words →
    IsReady (number_of n.nets) done whole (word_at n.words k) → AreMarked v now done → AreWhole n v words whole → (j : ℕ) →
    bit_of (values now) (number_of n.nets) (frames words) (word_at n.words k) j ≡ word_values n v k j
whole_bit n v now done words whole k are lt ready marked has j =
    let f = bit_of v (number_of n.nets) in
    ready_same (values now) v (number_of n.nets) done whole n.nets n.words k (frames words) (table false f n.words k) marked
    (λ b there w. has.each b.word b.bit w there.1 ∙ table_of f n.words (length n.words) k b.word b.bit there.0 lt)
    (word_at n.words k) (are k lt) ready j
    ∙ sym (table_stable f n.words (length n.words) k j lt)

-- what is marked is there
pub mark_there : (xs : List Bool) (b : ℕ) → values xs b ≡ true → b < length xs
mark_there [] b e = absurd (cc)
mark_there (x ∷ xs) zero e = omega arith
mark_there (x ∷ xs) (suc b) e = (let h = mark_there xs b e in omega arith)

-- no word is marked yet
pub none_whole : (n : Parts) (v : Values) (words : List (List Bool)) (whole : List Bool) → ((w : ℕ) → values whole w ≡ false) → AreWhole n v words whole
none_whole n v words whole none = record {
  sizes = λ w e. absurd (let f = none w in cc);
  each = λ w j e lt. absurd (let f = none w in cc);
}

-- all words are
pub all_whole : (n : Parts) (v : Values) (words : List (List Bool)) (whole : List Bool) → AreWhole n v words whole → length words ≡ length n.words →
    ((w : ℕ) → w < length n.words → values whole w ≡ true) → HasWords v (number_of n.nets) n.words (length n.words) words
all_whole n v words whole has size all = record {
  count = size;
  sizes = λ w lt. has.sizes w (all w lt);
  each = λ w j lt lj. has.each w j (all w lt) lj;
}

-- bits of words are the same, where all bits of the nets are
pub words_agree : (nets : List NetInfo) (words : List Tree) → AreWords nets words → (v u : Values) → ((b : ℕ) → b < bits_of nets → v b ≡ u b) →
    (n : ℕ) (all : List (List Bool)) → HasWords v (number_of nets) words n all → HasWords u (number_of nets) words n all
words_agree nets words are v u agree n all has = record {
  count = has.count;
  sizes = has.sizes;
  each = λ w j lt lj. has.each w j lt lj ∙ table_follows v u (number_of nets) nets words are n w j (λ b c. agree b (table_below nets words are n w j b c));
}
