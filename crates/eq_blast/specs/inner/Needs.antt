-- Cited by private contracts alone; nothing here has to be believed.
-- Whether all that an operation reads is in a set, where a and b say so of the bits of its operands.
use Rattle.std.specs.Prelude.{ℕ, suc, ◌+◌, ◌-◌, Bool, true, ◌&&◌, ◌==◌, cond, nat_lt, slice_get}
use Rattle.eq_names.specs.declared.BitName.{BitName}
use Rattle.eq_net.specs.declared.types.WordBit.{WordBit}
use Rattle.eq_net.specs.declared.types.WordOp.{WordOp}
use Rattle.eq_net.specs.declared.types.WordOp.TheVariants as op
use Rattle.eq_net.specs.Meaning.{if_there, width}
use Rattle.eq_net.specs.Numbers.{Digits, all_ones}
use Rattle.eq_net.specs.Tree.{Tree, const, read, pick, negated, opposite, binary, reduced, choice, empty, joined, extended}

abbrev pub one_needs : Bool → Digits
one_needs x j = cond {A = Bool} (j == 0) x true

abbrev pub needs : WordOp → ℕ → ℕ → Digits → Digits → Digits
needs op.And m n a b j = a j && b j
needs op.Or m n a b j = a j && b j
needs op.Xor m n a b j = a j && b j
needs op.Xnor m n a b j = a j && b j
needs op.Add m n a b j = all_ones (suc j) a && all_ones (suc j) b
needs op.Sub m n a b j = all_ones (suc j) a && all_ones (suc j) b
needs op.Shl m n a b j = all_ones (suc j) a && all_ones n b
needs op.Shr m n a b j = all_ones (m - j) (λ i. a (j + i)) && all_ones n b
needs _ m n a b j = one_needs (all_ones m a && all_ones n b) j

abbrev pub choose_needs : ℕ → Digits → Digits → Digits → Digits
choose_needs n c a b j = all_ones n c && (a j && b j)

-- the same of a word, where d says so of the bits and earlier of the bits of earlier words
abbrev pub has_of : (ℕ → Bool) → (BitName → ℕ) → (ℕ → ℕ → Bool) → Tree → Digits
has_of d number earlier (const bits) j = true
has_of d number earlier (read names) j = if_there true (λ n. d (number n)) (slice_get names j)
has_of d number earlier (pick bits) j = if_there true (λ (b : WordBit). earlier b.word b.bit) (slice_get bits j)
has_of d number earlier (negated a) j = has_of d number earlier a j
has_of d number earlier (opposite a) j = all_ones (suc j) (has_of d number earlier a)
has_of d number earlier (binary o a b) j = needs o (width a) (width b) (has_of d number earlier a) (has_of d number earlier b) j
has_of d number earlier (reduced o a) j = one_needs (all_ones (width a) (has_of d number earlier a)) j
has_of d number earlier (choice c a b) j = choose_needs (width c) (has_of d number earlier c) (has_of d number earlier a) (has_of d number earlier b) j
has_of d number earlier empty j = true
has_of d number earlier (joined a b) j = cond {A = Bool} (nat_lt j (width b)) (has_of d number earlier b j) (has_of d number earlier a (j - width b))
has_of d number earlier (extended a n) j = cond {A = Bool} (nat_lt j (width a)) (has_of d number earlier a j) true
