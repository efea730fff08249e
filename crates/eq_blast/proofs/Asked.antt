-- What a word asks for is among the bits that it reads.
use Rattle.std.proofs.Common.{◌≡◌, ℕ, zero, suc, ◌+◌, ◌-◌, ◌==◌, List, [], ◌∷◌, ◌++◌, Bool, true, false, ◌&&◌, cond, nat_lt, slice_get, Option, Some, None, refl, arith}
use Rattle.std.proofs.lemmas.List.Elements.{Contains-append_left, Contains-append_right}
use Rattle.eq_names.specs.declared.BitName.{BitName}
use Rattle.eq_net.specs.declared.types.WordBit.{WordBit}
use Rattle.eq_net.specs.declared.types.WordOp.{WordOp}
use Rattle.eq_net.specs.declared.types.WordOp.TheVariants as op
use Rattle.eq_net.specs.Numbers.{Digits, all_ones}
use Rattle.eq_net.specs.Operators.{Reads, all_reads, apply_reads, one_read, reads_from}
use Rattle.eq_net.specs.Meaning.{if_there, reads_of, table, width}
use Rattle.eq_net.specs.Net.{word_at}
use Rattle.eq_net.specs.Tree.{Tree, const, read, pick, negated, opposite, binary, reduced, choice, empty, joined, extended}
use Rattle.eq_blast.specs.inner.Needs.{has_of, needs, one_needs}
use Rattle.eq_blast.specs.inner.Wiring.{HasBits, node_of}
use Rattle.eq_blast.proofs.Growth.{both_of}

module _ (d : ℕ → Bool) where
  left_bits : (rs qs : List ℕ) → HasBits d (rs ++ qs) → HasBits d rs
  left_bits rs qs h b c = h b (Contains-append_left rs qs b c)

  right_bits : (rs qs : List ℕ) → HasBits d (rs ++ qs) → HasBits d qs
  right_bits rs qs h b c = h b (Contains-append_right rs qs b c)

  one_of_bits : (t : Bool) (rs : List ℕ) (x : Bool) → (HasBits d rs → x ≡ true) → HasBits d (cond t rs []) → cond {A = Bool} t x true ≡ true
  one_of_bits true rs x f h = f h
  one_of_bits false rs x f h = refl

  branch_bits : (t : Bool) (rs qs : List ℕ) (x y : Bool) → (HasBits d rs → x ≡ true) → (HasBits d qs → y ≡ true) → HasBits d (cond t rs qs) → cond {A = Bool} t x y ≡ true
  branch_bits true rs qs x y f g h = f h
  branch_bits false rs qs x y f g h = g h

  -- what a value's bits read gives that the set has them
  abbrev Has : Reads → Digits → Type 0
  Has r a = (j : ℕ) → HasBits d (r j) → a j ≡ true

  has_all : (n : ℕ) (r : Reads) (a : Digits) → Has r a → HasBits d (all_reads n r) → all_ones n a ≡ true
  has_all zero r a f h = refl
  has_all (suc n) r a f h = both_of (all_ones n a) (a n) (has_all n r a f (left_bits (all_reads n r) (r n) h)) (f n (right_bits (all_reads n r) (r n) h))

  module _ (r q : Reads) (a b : Digits) (f : Has r a) (g : Has q b) where
    both_at : (j : ℕ) → HasBits d (r j ++ q j) → (a j && b j) ≡ true
    both_at j h = both_of (a j) (b j) (f j (left_bits (r j) (q j) h)) (g j (right_bits (r j) (q j) h))

    both_all : (m n : ℕ) → HasBits d (all_reads m r ++ all_reads n q) → (all_ones m a && all_ones n b) ≡ true
    both_all m n h = both_of (all_ones m a) (all_ones n b) (has_all m r a f (left_bits (all_reads m r) (all_reads n q) h)) (has_all n q b g (right_bits (all_reads m r) (all_reads n q) h))

    one_both : (m n j : ℕ) → HasBits d (one_read (all_reads m r ++ all_reads n q) j) → one_needs (all_ones m a && all_ones n b) j ≡ true
    one_both m n j = one_of_bits (j == 0) (all_reads m r ++ all_reads n q) (all_ones m a && all_ones n b) (both_all m n)

    has_operands : (o : WordOp) (m n j : ℕ) → HasBits d (apply_reads o m n r q j) → needs o m n a b j ≡ true
    has_operands op.And m n j = both_at j
    has_operands op.Or m n j = both_at j
    has_operands op.Xor m n j = both_at j
    has_operands op.Xnor m n j = both_at j
    has_operands op.Add m n j = both_all (suc j) (suc j)
    has_operands op.Sub m n j = both_all (suc j) (suc j)
    has_operands op.Shl m n j = both_all (suc j) n
    has_operands op.Shr m n j = λ h. both_of (all_ones (m - j) (λ i. a (j + i))) (all_ones n b)
        (has_all (m - j) (λ i. r (j + i)) (λ i. a (j + i)) (λ i. f (j + i)) (left_bits (reads_from j (m - j) r) (all_reads n q) h))
        (has_all n q b g (right_bits (reads_from j (m - j) r) (all_reads n q) h))
    has_operands op.Eq m n j = one_both m n j
    has_operands op.Ne m n j = one_both m n j
    has_operands op.Lt m n j = one_both m n j
    has_operands op.Le m n j = one_both m n j
    has_operands op.Gt m n j = one_both m n j
    has_operands op.Ge m n j = one_both m n j
    has_operands op.LogAnd m n j = one_both m n j
    has_operands op.LogOr m n j = one_both m n j

  module _ (number : BitName → ℕ) (r : ℕ → ℕ → List ℕ) (e : ℕ → ℕ → Bool) (earlier : (w j : ℕ) → HasBits d (r w j) → e w j ≡ true) where
    named_bits : (o : Option BitName) → HasBits d (if_there [] (λ n. number n ∷ []) o) → if_there true (λ n. d (node_of (number n))) o ≡ true
    named_bits None h = refl
    named_bits (Some n) h = h (number n) (0, omega arith, refl)

    picked_bits : (o : Option WordBit) → HasBits d (if_there [] (λ (b : WordBit). r b.word b.bit) o) → if_there true (λ (b : WordBit). e b.word b.bit) o ≡ true
    picked_bits None h = refl
    picked_bits (Some b) h = earlier b.word b.bit h

    pub word_asked : (t : Tree) (j : ℕ) → HasBits d (reads_of number r t j) → has_of (λ b. d (node_of b)) number e t j ≡ true
    word_asked (const bits) j h = refl
    word_asked (read names) j h = named_bits (slice_get names j) h
    word_asked (pick bits) j h = picked_bits (slice_get bits j) h
    word_asked (negated a) j h = word_asked a j h
    word_asked (opposite a) j h = has_all (suc j) (reads_of number r a) (has_of (λ b. d (node_of b)) number e a) (word_asked a) h
    word_asked (binary o a b) j h =
        has_operands (reads_of number r a) (reads_of number r b) (has_of (λ b. d (node_of b)) number e a) (has_of (λ b. d (node_of b)) number e b) (word_asked a) (word_asked b) o (width a) (width b) j h
    word_asked (reduced o a) j h =
        one_of_bits (j == 0) (all_reads (width a) (reads_of number r a)) (all_ones (width a) (has_of (λ b. d (node_of b)) number e a))
        (has_all (width a) (reads_of number r a) (has_of (λ b. d (node_of b)) number e a) (word_asked a)) h
    word_asked (choice c a b) j h =
        let f = has_of (λ b. d (node_of b)) number e in
        let q = reads_of number r in
        let rest = right_bits (all_reads (width c) (reads_of number r c)) (reads_of number r a j ++ reads_of number r b j) h in
        both_of (all_ones (width c) (has_of (λ b. d (node_of b)) number e c)) (has_of (λ b. d (node_of b)) number e a j && has_of (λ b. d (node_of b)) number e b j)
        (has_all (width c) (reads_of number r c) (has_of (λ b. d (node_of b)) number e c) (word_asked c) (left_bits (all_reads (width c) (reads_of number r c)) (reads_of number r a j ++ reads_of number r b j) h))
        (both_of (has_of (λ b. d (node_of b)) number e a j) (has_of (λ b. d (node_of b)) number e b j) (word_asked a j (left_bits (reads_of number r a j) (reads_of number r b j) rest))
        (word_asked b j (right_bits (reads_of number r a j) (reads_of number r b j) rest)))
    word_asked empty j h = refl
    word_asked (joined a b) j h =
        branch_bits (nat_lt j (width b)) (reads_of number r b j) (reads_of number r a (j - width b)) (has_of (λ b. d (node_of b)) number e b j) (has_of (λ b. d (node_of b)) number e a (j - width b))
        (word_asked b j) (word_asked a (j - width b)) h
    word_asked (extended a n) j h =
        one_of_bits (nat_lt j (width a)) (reads_of number r a j) (has_of (λ b. d (node_of b)) number e a j) (word_asked a j) h

  -- the same of the bits of the first k words
  pub table_asked : (number : BitName → ℕ) (words : List Tree) (k w j : ℕ) → HasBits d (table [] (reads_of number) words k w j) →
      table true (has_of (λ b. d (node_of b)) number) words k w j ≡ true
  table_asked number words zero w j h = refl
  table_asked number words (suc k) w j h =
      branch_bits (w == k) (reads_of number (table [] (reads_of number) words k) (word_at words k) j) (table [] (reads_of number) words k w j)
      (has_of (λ b. d (node_of b)) number (table true (has_of (λ b. d (node_of b)) number) words k) (word_at words k) j) (table true (has_of (λ b. d (node_of b)) number) words k w j)
      (word_asked number (table [] (reads_of number) words k) (table true (has_of (λ b. d (node_of b)) number) words k) (table_asked number words k) (word_at words k) j)
      (table_asked number words k w j) h
