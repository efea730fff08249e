-- A word's value depends on the bits that it reads, and on the bits of earlier words that it picks.
use Rattle.std.proofs.Common.{◌≡◌, ℕ, zero, suc, ◌≤◌, ◌==◌, List, [], ◌∷◌, Bool, false, not, nat_lt, ◌-◌, slice_get, length, Option, Some, None, IfSome, All, refl, arith, ap, sym, subst, inl, inr}
use Rattle.std.proofs.lemmas.Bool.{cases_lt}
use Rattle.std.proofs.lemmas.List.Elements.{All-head, All-tail}
use Rattle.eq_model.specs.System.{Values}
use Rattle.eq_names.specs.declared.BitName.{BitName}
use Rattle.eq_net.specs.declared.types.NetInfo.{NetInfo}
use Rattle.eq_net.specs.declared.types.WordBit.{WordBit}
use Rattle.eq_net.specs.Tree.{Tree, const, read, pick, negated, opposite, binary, reduced, choice, empty, joined, extended}
use Rattle.eq_net.specs.Meaning.{if_there, bit_of, reads_of, table, width}
use Rattle.eq_net.specs.Net.{AreWords, HasWordBit, IsWord, word_at}
use Rattle.eq_net.specs.Following.{AgreeOn, Follow}
use Rattle.eq_net.proofs.Depending.{agree_one, apply_same, reduce_same, opposite_same, extended_same, choose_same, branch_same}

pub if_some : {X : Type 0} (P : X → Type 0) (xs : List X) → All P xs → (j : ℕ) → IfSome (slice_get xs j) P
if_some P [] h j = tt
if_some P (x ∷ xs) h zero = All-head P x xs h
if_some P (x ∷ xs) h (suc j) = if_some P xs (All-tail P x xs h) j

module _ (v u : Values) (number : BitName → ℕ) (nets : List NetInfo) (words : List Tree) (k : ℕ) (e d : ℕ → ℕ → Bool) (r : ℕ → ℕ → List ℕ)
    (earlier : (b : WordBit) → HasWordBit words k b → AgreeOn v u (r b.word b.bit) → e b.word b.bit ≡ d b.word b.bit) where
  named_same : (o : Option BitName) → AgreeOn v u (if_there [] (λ n. number n ∷ []) o) → if_there false (λ n. v (number n)) o ≡ if_there false (λ n. u (number n)) o
  named_same None a = refl
  named_same (Some n) a = agree_one v u (number n) a

  picked_same : (o : Option WordBit) → IfSome o (HasWordBit words k) → AgreeOn v u (if_there [] (λ (b : WordBit). r b.word b.bit) o) →
      if_there false (λ (b : WordBit). e b.word b.bit) o ≡ if_there false (λ (b : WordBit). d b.word b.bit) o
  picked_same None there a = refl
  picked_same (Some b) there a = earlier b there a

  pub word_follows : (t : Tree) → IsWord nets words k t → Follow v u (reads_of number r t) (bit_of v number e t) (bit_of u number d t)
  word_follows (const bits) is j a = refl
  word_follows (read names) is j a = named_same (slice_get names j) a
  word_follows (pick bits) is j a = picked_same (slice_get bits j) (if_some (HasWordBit words k) bits is j) a
  word_follows (negated t) is j a = ap not (word_follows t is j a)
  word_follows (opposite t) is j a = opposite_same v u (reads_of number r t) (bit_of v number e t) (bit_of u number d t) (word_follows t is) (width t) j a
  word_follows (binary o s t) is j a =
      apply_same v u (reads_of number r s) (reads_of number r t) (bit_of v number e s) (bit_of v number e t) (bit_of u number d s) (bit_of u number d t)
      (word_follows s is.0) (word_follows t is.1) o (width s) (width t) j is.2 a
  word_follows (reduced o t) is j a = reduce_same v u (reads_of number r t) (bit_of v number e t) (bit_of u number d t) (word_follows t is) o (width t) j a
  word_follows (choice c s t) is j a =
      choose_same v u (reads_of number r c) (reads_of number r s) (reads_of number r t) (bit_of v number e c) (bit_of u number d c) (bit_of v number e s) (bit_of v number e t) (bit_of u number d s) (bit_of u number d t)
      (word_follows c is.0) (word_follows s is.1) (word_follows t is.2) (width c) j a
  word_follows empty is j a = refl
  word_follows (joined s t) is j a =
      branch_same v u (reads_of number r t j) (reads_of number r s (j - width t)) (bit_of v number e t j) (bit_of u number d t j) (bit_of v number e s (j - width t)) (bit_of u number d s (j - width t)) (nat_lt j (width t))
      (word_follows t is.1 j) (word_follows s is.0 (j - width t)) a
  word_follows (extended t n) is j a = extended_same v u (reads_of number r t) (bit_of v number e t) (bit_of u number d t) (word_follows t is.0) (width t) j a

empty_there : (words : List Tree) (k : ℕ) → length words ≤ k → word_at words k ≡ empty
empty_there [] k le = refl
empty_there (t ∷ ts) zero le = absurd (omega arith)
empty_there (t ∷ ts) (suc k) le = empty_there ts k (omega arith)

-- where no word stands, the empty word does
pub word_is : (nets : List NetInfo) (words : List Tree) → AreWords nets words → (k : ℕ) → IsWord nets words k (word_at words k)
word_is nets words are k = elim (cases_lt k (length words)) [
  | inl less ↦ are k less
  | inr more ↦ (let P : Tree → Type 0 = λ t. IsWord nets words k t in subst P (sym (empty_there words k more)) tt)
]

module _ (v u : Values) (number : BitName → ℕ) (nets : List NetInfo) (words : List Tree) (are : AreWords nets words) where
  -- the bits of the first k words depend on what they read
  pub table_follows : (k w j : ℕ) → AgreeOn v u (table [] (reads_of number) words k w j) → table false (bit_of v number) words k w j ≡ table false (bit_of u number) words k w j
  table_follows zero w j a = refl
  table_follows (suc k) w j a =
      branch_same v u (reads_of number (table [] (reads_of number) words k) (word_at words k) j) (table [] (reads_of number) words k w j)
      (bit_of v number (table false (bit_of v number) words k) (word_at words k) j) (bit_of u number (table false (bit_of u number) words k) (word_at words k) j)
      (table false (bit_of v number) words k w j) (table false (bit_of u number) words k w j) (w == k)
      (word_follows v u number nets words k (table false (bit_of v number) words k) (table false (bit_of u number) words k) (table [] (reads_of number) words k)
      (λ b there. table_follows k b.word b.bit) (word_at words k) (word_is nets words are k) j)
      (table_follows k w j) a

-- with equal bits of earlier words a word has equal bits
pub word_same : (v : Values) (number : BitName → ℕ) (nets : List NetInfo) (words : List Tree) (k : ℕ) (e d : ℕ → ℕ → Bool) →
    ((b : WordBit) → HasWordBit words k b → e b.word b.bit ≡ d b.word b.bit) → (t : Tree) → IsWord nets words k t → (j : ℕ) → bit_of v number e t j ≡ bit_of v number d t j
word_same v number nets words k e d earlier t is j =
    word_follows v v number nets words k e d (λ w i. []) (λ b there a. earlier b there) t is j (λ b c. refl)
