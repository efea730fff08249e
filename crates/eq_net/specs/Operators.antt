-- The operators: the value of each bit, the bits that it reads, and the cost (IEEE 1364-2005, 5.1.5 to 5.1.13).
use Rattle.std.specs.Prelude.{ℕ, zero, suc, ◌+◌, ◌-◌, ◌*◌, ◌/◌, ◌^◌, List, [], ◌++◌, Bool, true, false, not, ◌&&◌, ◌||◌, ◌==◌, nat_lt, nat_le, if◌then◌else◌}
use Rattle.eq_net.specs.declared.types.WordOp.{WordOp}
use Rattle.eq_net.specs.declared.types.WordOp.TheVariants.{And, Or, Xor, Xnor, Add, Sub, Shl, Shr, Eq, Ne, Lt, Le, Gt, Ge, LogAnd, LogOr}
use Rattle.eq_net.specs.declared.types.RedOp.{RedOp}
use Rattle.eq_net.specs.declared.types.RedOp.TheVariants as red
use Rattle.eq_net.specs.Numbers.{Digits, differ, number, digit, all_ones, some_one, parity}

-- a result of one bit: the bits above it are 0
abbrev pub one_bit : Bool → Digits
one_bit x j = (j == 0) && x

-- the lowest n bits, and 0 above
abbrev pub extended : ℕ → Digits → Digits
extended n f j = nat_lt j n && f j

-- bit j of an operation on a, of m bits, and b, of n bits. What is told by numbers is a number, whose lowest m bits are the
-- result: so a sum, a difference and a shift to the left are modulo 2 ^ m. A shift multiplies or divides by a power of two.
-- A comparison compares numbers. A value is true where it isn't zero
abbrev pub apply : WordOp → ℕ → ℕ → Digits → Digits → Digits
apply And m n a b j = a j && b j
apply Or m n a b j = a j || b j
apply Xor m n a b j = differ (a j) (b j)
apply Xnor m n a b j = not (differ (a j) (b j))
apply Add m n a b j = digit (number m a + number n b) j
apply Sub m n a b j = digit ((2 ^ m + number m a) - number n b) j
apply Shl m n a b j = digit (number m a * 2 ^ number n b) j
apply Shr m n a b j = digit (number m a / 2 ^ number n b) j
apply Eq m n a b j = one_bit (number m a == number n b) j
apply Ne m n a b j = one_bit (not (number m a == number n b)) j
apply Lt m n a b j = one_bit (nat_lt (number m a) (number n b)) j
apply Le m n a b j = one_bit (nat_le (number m a) (number n b)) j
apply Gt m n a b j = one_bit (nat_lt (number n b) (number m a)) j
apply Ge m n a b j = one_bit (nat_le (number n b) (number m a)) j
apply LogAnd m n a b j = one_bit (some_one m a && some_one n b) j
apply LogOr m n a b j = one_bit (some_one m a || some_one n b) j

-- bit j of the negative of a value of n bits, modulo 2 ^ n
abbrev pub negative : ℕ → Digits → Digits
negative n a j = digit (2 ^ n - number n a) j

-- the bit that a value of n bits is reduced to
abbrev pub reduce : RedOp → ℕ → Digits → Bool
reduce red.And n a = all_ones n a
reduce red.Or n a = some_one n a
reduce red.Xor n a = parity n a
reduce red.Nand n a = not (all_ones n a)
reduce red.Nor n a = not (some_one n a)
reduce red.Xnor n a = not (parity n a)
reduce red.Zero n a = not (some_one n a)

-- a where c, of n bits, isn't zero, else b
abbrev pub choose : ℕ → Digits → Digits → Digits → Digits
choose n c a b j = if some_one n c then a j else b j

-- ---- reads. The bits that a value's bit reads are a function of the position too

abbrev pub Reads : Type 0
Reads = ℕ → List ℕ

-- all that the lowest n bits read
abbrev pub all_reads : ℕ → Reads → List ℕ
all_reads zero r = []
all_reads (suc n) r = all_reads n r ++ r n

-- all that n bits from position j on read
abbrev pub reads_from : ℕ → ℕ → Reads → List ℕ
reads_from j n r = all_reads n (λ i. r (j + i))

-- what bit 0 of a result of one bit reads; the bits above it read nothing
abbrev pub one_read : List ℕ → Reads
one_read rs j = if j == 0 then rs else []

abbrev pub extended_reads : ℕ → Reads → Reads
extended_reads n r j = if nat_lt j n then r j else []

abbrev pub apply_reads : WordOp → ℕ → ℕ → Reads → Reads → Reads
apply_reads And m n a b j = a j ++ b j
apply_reads Or m n a b j = a j ++ b j
apply_reads Xor m n a b j = a j ++ b j
apply_reads Xnor m n a b j = a j ++ b j
apply_reads Add m n a b j = all_reads (suc j) a ++ all_reads (suc j) b
apply_reads Sub m n a b j = all_reads (suc j) a ++ all_reads (suc j) b
apply_reads Shl m n a b j = all_reads (suc j) a ++ all_reads n b
apply_reads Shr m n a b j = reads_from j (m - j) a ++ all_reads n b
apply_reads Eq m n a b j = one_read (all_reads m a ++ all_reads n b) j
apply_reads Ne m n a b j = one_read (all_reads m a ++ all_reads n b) j
apply_reads Lt m n a b j = one_read (all_reads m a ++ all_reads n b) j
apply_reads Le m n a b j = one_read (all_reads m a ++ all_reads n b) j
apply_reads Gt m n a b j = one_read (all_reads m a ++ all_reads n b) j
apply_reads Ge m n a b j = one_read (all_reads m a ++ all_reads n b) j
apply_reads LogAnd m n a b j = one_read (all_reads m a ++ all_reads n b) j
apply_reads LogOr m n a b j = one_read (all_reads m a ++ all_reads n b) j

abbrev pub negative_reads : Reads → Reads
negative_reads a j = all_reads (suc j) a

abbrev pub choose_reads : ℕ → Reads → Reads → Reads → Reads
choose_reads n c a b j = all_reads n c ++ (a j ++ b j)

-- ---- costs: bounds on the nodes of one bit that an operation takes. This project's own

abbrev pub apply_cost : WordOp → ℕ → ℕ → ℕ
apply_cost And m n = m
apply_cost Or m n = 4 * m
apply_cost Xor m n = m
apply_cost Xnor m n = 2 * m
apply_cost Add m n = 5 * m
apply_cost Sub m n = 6 * m
apply_cost Shl m n = m * n
apply_cost Shr m n = m * n
apply_cost Eq m n = 3 * m
apply_cost Ne m n = 3 * m + 1
apply_cost Lt m n = 2 * m + 1
apply_cost Le m n = 2 * m + 1
apply_cost Gt m n = 2 * m + 1
apply_cost Ge m n = 2 * m + 1
apply_cost LogAnd m n = 4 * (m + n) + 4
apply_cost LogOr m n = 4 * (m + n) + 4

abbrev pub reduce_cost : RedOp → ℕ → ℕ
reduce_cost red.And n = n
reduce_cost red.Or n = 4 * n
reduce_cost red.Xor n = n
reduce_cost red.Nand n = n + 1
reduce_cost red.Nor n = 4 * n + 1
reduce_cost red.Xnor n = n + 1
reduce_cost red.Zero n = 4 * n + 1

abbrev pub choose_cost : ℕ → ℕ → ℕ
choose_cost n w = 4 * n + w

-- shift amounts and the operands of `&&` and `||` have any size, other operands the same
abbrev pub has_free_sizes : WordOp → Bool
has_free_sizes Shl = true
has_free_sizes Shr = true
has_free_sizes LogAnd = true
has_free_sizes LogOr = true
has_free_sizes _ = false
