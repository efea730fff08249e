-- What a word means: its size, and for each of its bits the value, the bits that it reads, and the bit that it is by wiring
-- alone. A word may name bits of earlier words, which stand for themselves.
use Rattle.std.specs.Prelude.{ℕ, zero, suc, ◌+◌, ◌-◌, ◌*◌, List, [], ◌∷◌, Bool, false, not, nat_lt, ◌==◌, if◌then◌else◌, length, slice_get, slice_index_or, Option, Some, None}
use Rattle.eq_model.specs.System.{Values}
use Rattle.eq_names.specs.declared.BitName.{BitName}
use Rattle.eq_net.specs.declared.types.WordBit.{WordBit}
use Rattle.eq_net.specs.declared.types.WordOp.{WordOp}
use Rattle.eq_net.specs.declared.types.WordOp.TheVariants as op
use Rattle.eq_net.specs.Tree.{Tree, const, read, pick, negated, opposite, binary, reduced, choice, empty, joined, extended}
use Rattle.eq_net.specs.Operators as on

-- the size of an operation's result, where the left operand has n bits
abbrev pub result_size : WordOp → ℕ → ℕ
result_size op.Eq n = 1
result_size op.Ne n = 1
result_size op.Lt n = 1
result_size op.Le n = 1
result_size op.Gt n = 1
result_size op.Ge n = 1
result_size op.LogAnd n = 1
result_size op.LogOr n = 1
result_size _ n = n

abbrev pub width : Tree → ℕ
width (const bits) = length bits
width (read names) = length names
width (pick bits) = length bits
width (negated a) = width a
width (opposite a) = width a
width (binary o a b) = result_size o (width a)
width (reduced o a) = 1
width (choice c a b) = width a
width empty = 0
width (joined a b) = width a + width b
width (extended a n) = n

abbrev pub if_there : {A B : Type 0} → B → (A → B) → Option A → B
if_there d f None = d
if_there d f (Some a) = f a

-- the value of bit j of a word, where v has the values of the bits, number says where a named bit stands, and earlier has the
-- bits of earlier words
abbrev pub bit_of : Values → (BitName → ℕ) → (ℕ → ℕ → Bool) → Tree → ℕ → Bool
bit_of v number earlier (const bits) j = slice_index_or bits j false
bit_of v number earlier (read names) j = if_there false (λ n. v (number n)) (slice_get names j)
bit_of v number earlier (pick bits) j = if_there false (λ (b : WordBit). earlier b.word b.bit) (slice_get bits j)
bit_of v number earlier (negated a) j = not (bit_of v number earlier a j)
bit_of v number earlier (opposite a) j = on.negative (width a) (bit_of v number earlier a) j
bit_of v number earlier (binary o a b) j = on.apply o (width a) (width b) (bit_of v number earlier a) (bit_of v number earlier b) j
bit_of v number earlier (reduced o a) j = on.one_bit (on.reduce o (width a) (bit_of v number earlier a)) j
bit_of v number earlier (choice c a b) j = on.choose (width c) (bit_of v number earlier c) (bit_of v number earlier a) (bit_of v number earlier b) j
bit_of v number earlier empty j = false
bit_of v number earlier (joined a b) j = if nat_lt j (width b) then bit_of v number earlier b j else bit_of v number earlier a (j - width b)
bit_of v number earlier (extended a n) j = on.extended (width a) (bit_of v number earlier a) j

abbrev pub reads_of : (BitName → ℕ) → (ℕ → ℕ → List ℕ) → Tree → ℕ → List ℕ
reads_of number earlier (const bits) j = []
reads_of number earlier (read names) j = if_there [] (λ n. number n ∷ []) (slice_get names j)
reads_of number earlier (pick bits) j = if_there [] (λ (b : WordBit). earlier b.word b.bit) (slice_get bits j)
reads_of number earlier (negated a) j = reads_of number earlier a j
reads_of number earlier (opposite a) j = on.negative_reads (reads_of number earlier a) j
reads_of number earlier (binary o a b) j = on.apply_reads o (width a) (width b) (reads_of number earlier a) (reads_of number earlier b) j
reads_of number earlier (reduced o a) j = on.one_read (on.all_reads (width a) (reads_of number earlier a)) j
reads_of number earlier (choice c a b) j = on.choose_reads (width c) (reads_of number earlier c) (reads_of number earlier a) (reads_of number earlier b) j
reads_of number earlier empty j = []
reads_of number earlier (joined a b) j = if nat_lt j (width b) then reads_of number earlier b j else reads_of number earlier a (j - width b)
reads_of number earlier (extended a n) j = on.extended_reads (width a) (reads_of number earlier a) j

-- the bit that bit j is by wiring alone: a read one, through concatenations, picks and bits that an extension keeps
abbrev pub copy_in : (BitName → ℕ) → (ℕ → ℕ → Option ℕ) → Tree → ℕ → Option ℕ
copy_in number earlier (read names) j = if_there None (λ n. Some (number n)) (slice_get names j)
copy_in number earlier (pick bits) j = if_there None (λ (b : WordBit). earlier b.word b.bit) (slice_get bits j)
copy_in number earlier (joined a b) j = if nat_lt j (width b) then copy_in number earlier b j else copy_in number earlier a (j - width b)
copy_in number earlier (extended a n) j = if nat_lt j (width a) then copy_in number earlier a j else None
copy_in number earlier _ j = None

-- what an operation adds to the cost of a design. A pick costs nothing, so what is picked twice costs once
abbrev pub cost_of : Tree → ℕ
cost_of (negated a) = cost_of a + width a
cost_of (opposite a) = cost_of a + 6 * width a
cost_of (binary o a b) = (cost_of a + cost_of b) + on.apply_cost o (width a) (width b)
cost_of (reduced o a) = cost_of a + on.reduce_cost o (width a)
cost_of (choice c a b) = (cost_of c + (cost_of a + cost_of b)) + on.choose_cost (width c) (width a)
cost_of (joined a b) = cost_of a + cost_of b
cost_of (extended a n) = cost_of a
cost_of _ = 0

-- ---- all words, each over those before it

-- what f makes of the bits of the first k words, each from what it makes of those before it
abbrev pub table : {A : Type 0} → A → ((ℕ → ℕ → A) → Tree → ℕ → A) → List Tree → ℕ → ℕ → ℕ → A
table d f words zero w j = d
table d f words (suc k) w j = if w == k then f (table d f words k) (slice_index_or words k empty) j else table d f words k w j

abbrev pub values_of : Values → (BitName → ℕ) → List Tree → ℕ → ℕ → Bool
values_of v number words = table false (bit_of v number) words (length words)

abbrev pub all_reads_of : (BitName → ℕ) → List Tree → ℕ → ℕ → List ℕ
all_reads_of number words = table [] (reads_of number) words (length words)

abbrev pub all_copies_of : (BitName → ℕ) → List Tree → ℕ → ℕ → Option ℕ
all_copies_of number words = table None (copy_in number) words (length words)
