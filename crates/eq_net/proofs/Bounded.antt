-- What holds of all that a word's leaves read holds of all that its bits read. So they read bits of the nets.
use Rattle.std.proofs.Common.{◌≡◌, ℕ, zero, suc, ◌+◌, ◌-◌, ◌<◌, ◌==◌, List, [], ◌∷◌, ◌++◌, Bool, true, false, cond, nat_lt, slice_get, slice_index_or, length, Option, Some, None, IfSome, All, Contains, arith, subst, inl, inr}
use Rattle.std.proofs.lemmas.List.Elements.{Contains-append_cases}
use Rattle.eq_names.specs.declared.BitName.{BitName}
use Rattle.eq_net.specs.declared.types.NetInfo.{NetInfo}
use Rattle.eq_net.specs.declared.types.WordBit.{WordBit}
use Rattle.eq_net.specs.declared.types.WordOp.{WordOp}
use Rattle.eq_net.specs.declared.types.WordOp.TheVariants.{And, Or, Xor, Xnor, Add, Sub, Shl, Shr, Eq, Ne, Lt, Le, Gt, Ge, LogAnd, LogOr}
use Rattle.eq_net.specs.Operators.{Reads, all_reads, reads_from, one_read, apply_reads}
use Rattle.eq_net.specs.Tree.{Tree, const, read, pick, negated, opposite, binary, reduced, choice, empty, joined, extended}
use Rattle.eq_net.specs.Meaning.{if_there, reads_of, table, width}
use Rattle.eq_net.specs.Net.{AreWords, IsWord, bits_of, number_of, word_at}
use Rattle.eq_net.proofs.Offsets.{bit_there}
use Rattle.eq_net.proofs.Follows.{if_some, word_is}

module _ (P : ℕ → Type 0) where
  -- P holds of all
  abbrev pub AreIn : List ℕ → Type 0
  AreIn rs = (b : ℕ) → Contains rs b → P b

  pub none : AreIn []
  none b c = (let lt : c.0 < 0 = c.1 in absurd (omega arith))

  both : (rs qs : List ℕ) → AreIn rs → AreIn qs → AreIn (rs ++ qs)
  both rs qs r q b c = elim (Contains-append_cases rs qs b c) [ inl left ↦ r b left | inr right ↦ q b right ]

  choice_of : (t : Bool) (rs qs : List ℕ) → AreIn rs → AreIn qs → AreIn (cond t rs qs)
  choice_of true rs qs r q = r
  choice_of false rs qs r q = q

  all_of : (k : ℕ) (f : Reads) → ((j : ℕ) → AreIn (f j)) → AreIn (all_reads k f)
  all_of zero f h = none
  all_of (suc k) f h = both (all_reads k f) (f k) (all_of k f h) (h k)

  module _ (f g : Reads) (hf : (j : ℕ) → AreIn (f j)) (hg : (j : ℕ) → AreIn (g j)) where
    all_both : (k m : ℕ) → AreIn (all_reads k f ++ all_reads m g)
    all_both k m = both (all_reads k f) (all_reads m g) (all_of k f hf) (all_of m g hg)

    one_both : (k m j : ℕ) → AreIn (one_read (all_reads k f ++ all_reads m g) j)
    one_both k m j = choice_of (j == 0) (all_reads k f ++ all_reads m g) [] (all_both k m) none

    operator : (o : WordOp) (k m j : ℕ) → AreIn (apply_reads o k m f g j)
    operator And k m j = both (f j) (g j) (hf j) (hg j)
    operator Or k m j = both (f j) (g j) (hf j) (hg j)
    operator Xor k m j = both (f j) (g j) (hf j) (hg j)
    operator Xnor k m j = both (f j) (g j) (hf j) (hg j)
    operator Add k m j = all_both (suc j) (suc j)
    operator Sub k m j = all_both (suc j) (suc j)
    operator Shl k m j = all_both (suc j) m
    operator Shr k m j = both (reads_from j (k - j) f) (all_reads m g) (all_of (k - j) (λ i. f (j + i)) (λ i. hf (j + i))) (all_of m g hg)
    operator Eq k m j = one_both k m j
    operator Ne k m j = one_both k m j
    operator Lt k m j = one_both k m j
    operator Le k m j = one_both k m j
    operator Gt k m j = one_both k m j
    operator Ge k m j = one_both k m j
    operator LogAnd k m j = one_both k m j
    operator LogOr k m j = one_both k m j

-- P holds of all that the leaves of a word read, where r has what bits of earlier words read
module _ (P : ℕ → Type 0) (number : BitName → ℕ) (r : ℕ → ℕ → List ℕ) where
  abbrev pub LeavesIn : Tree → Type 0
  LeavesIn (const bits) = Unit {0}
  LeavesIn (read names) = All (λ n. P (number n)) names
  LeavesIn (pick bits) = All (λ (b : WordBit). AreIn P (r b.word b.bit)) bits
  LeavesIn (negated a) = LeavesIn a
  LeavesIn (opposite a) = LeavesIn a
  LeavesIn (binary o a b) = LeavesIn a × LeavesIn b
  LeavesIn (reduced o a) = LeavesIn a
  LeavesIn (choice c a b) = LeavesIn c × LeavesIn a × LeavesIn b
  LeavesIn empty = Unit {0}
  LeavesIn (joined a b) = LeavesIn a × LeavesIn b
  LeavesIn (extended a n) = LeavesIn a

  only : (x n i : ℕ) → P x → i < length (x ∷ []) → slice_index_or (x ∷ []) i n ≡ n → P n
  only x n zero p lt e = subst P e p
  only x n (suc i) p lt e = absurd (omega arith)

  named : (o : Option BitName) → IfSome o (λ n. P (number n)) → AreIn P (if_there [] (λ n. number n ∷ []) o)
  named None p = none P
  named (Some b) p = λ n c. only (number b) n c.0 p c.1 c.2

  picked : (o : Option WordBit) → IfSome o (λ (b : WordBit). AreIn P (r b.word b.bit)) → AreIn P (if_there [] (λ (b : WordBit). r b.word b.bit) o)
  picked None p = none P
  picked (Some b) p = p

  -- then P holds of all that its bits read
  pub word_in : (t : Tree) → LeavesIn t → (j : ℕ) → AreIn P (reads_of number r t j)
  word_in (const bits) is j = none P
  word_in (read names) is j = named (slice_get names j) (if_some (λ n. P (number n)) names is j)
  word_in (pick bits) is j = picked (slice_get bits j) (if_some (λ (b : WordBit). AreIn P (r b.word b.bit)) bits is j)
  word_in (negated a) is j = word_in a is j
  word_in (opposite a) is j = all_of P (suc j) (reads_of number r a) (word_in a is)
  word_in (binary o a b) is j = operator P (reads_of number r a) (reads_of number r b) (word_in a is.0) (word_in b is.1) o (width a) (width b) j
  word_in (reduced o a) is j =
      choice_of P (j == 0) (all_reads (width a) (reads_of number r a)) [] (all_of P (width a) (reads_of number r a) (word_in a is)) (none P)
  word_in (choice c a b) is j =
      let f = reads_of number r in
      both P (all_reads (width c) (f c)) (f a j ++ f b j) (all_of P (width c) (f c) (word_in c is.0)) (both P (f a j) (f b j) (word_in a is.1 j) (word_in b is.2 j))
  word_in empty is j = none P
  word_in (joined a b) is j =
      let f = reads_of number r in
      choice_of P (nat_lt j (width b)) (f b j) (f a (j - width b)) (word_in b is.1 j) (word_in a is.0 (j - width b))
  word_in (extended a n) is j = choice_of P (nat_lt j (width a)) (reads_of number r a j) [] (word_in a is j) (none P)

module _ (nets : List NetInfo) (words : List Tree) (k : ℕ) (r : ℕ → ℕ → List ℕ) (earlier : (w j : ℕ) → AreIn (λ b. b < bits_of nets) (r w j)) where
  abbrev InNets : Tree → Type 0
  InNets t = LeavesIn (λ b. b < bits_of nets) (number_of nets) r t

  leaves : (t : Tree) → IsWord nets words k t → InNets t
  leaves (const bits) is = tt
  leaves (read names) is = λ i d lt. (let there = is i d lt in bit_there nets (slice_index_or names i d).net (slice_index_or names i d).bit there.0 there.1)
  leaves (pick bits) is = λ i d lt. earlier (slice_index_or bits i d).word (slice_index_or bits i d).bit
  leaves (negated a) is = leaves a is
  leaves (opposite a) is = leaves a is
  leaves (binary o a b) is = (leaves a is.0, leaves b is.1)
  leaves (reduced o a) is = leaves a is
  leaves (choice c a b) is = (leaves c is.0, leaves a is.1, leaves b is.2)
  leaves empty is = tt
  leaves (joined a b) is = (leaves a is.0, leaves b is.1)
  leaves (extended a n) is = leaves a is.0

-- the bits of the first k words read bits of the nets
pub table_below : (nets : List NetInfo) (words : List Tree) → AreWords nets words → (k w j : ℕ) →
    AreIn (λ b. b < bits_of nets) (table [] (reads_of (number_of nets)) words k w j)
table_below nets words are zero w j = none (λ b. b < bits_of nets)
table_below nets words are (suc k) w j =
    let P : ℕ → Type 0 = λ b. b < bits_of nets in
    let r = table [] (reads_of (number_of nets)) words k in
    choice_of P (w == k) (reads_of (number_of nets) r (word_at words k) j) (r w j)
    (word_in P (number_of nets) r (word_at words k) (leaves nets words k r (table_below nets words are k) (word_at words k) (word_is nets words are k)) j)
    (table_below nets words are k w j)
