-- Expressions bit by bit: the bit that it is by wiring alone, its value, and the bits that it reads (IEEE 1364-2005,
-- 5.1 and 5.4). Position 0 is the least significant. Narrower values are extended with zeros. What stands above an
-- expression's size is said too, so that no definition asks for a bound.
use Rattle.std.specs.Prelude.{ℕ, ◌+◌, ◌-◌, ◌*◌, ◌%◌, [], ◌∷◌, false, not, ◌&&◌, nat_lt, if◌then◌else◌, Option, Some, None}
use Rattle.eq_model.specs.System.{Values}
use Rattle.eq_vparse.specs.declared.tree.BinOp.{BinOp}
use Rattle.eq_vparse.specs.declared.tree.BinOp.TheVariants as bin
use Rattle.eq_net.specs.declared.types.WordOp.{WordOp}
use Rattle.eq_net.specs.declared.types.WordOp.TheVariants as op
use Rattle.eq_net.specs.Numbers.{Digits, digit}
use Rattle.eq_net.specs.Operators.{Reads, one_bit, extended, apply, negative, reduce, choose, one_read, extended_reads, all_reads, apply_reads, negative_reads, choose_reads}
use Rattle.eq_net.specs.Meaning.{if_there}
use Rattle.eq_verilog.specs.Trees.{Name, ExprTree, const, net, bit, part, empty, joined, repeated, unary, binary, choice}
use Rattle.eq_verilog.specs.Scopes.{Scope, span, width, position}
use Rattle.eq_verilog.specs.Sizes.{UnaryForm, complement, opposite, reduction, unary_form, own, inner_size, left_size, right_size}

-- the operation of a netlist's words that an operator is
abbrev pub word_op : BinOp → WordOp
word_op bin.Add = op.Add
word_op bin.Sub = op.Sub
word_op bin.Shl = op.Shl
word_op bin.Shr = op.Shr
word_op bin.Lt = op.Lt
word_op bin.Le = op.Le
word_op bin.Gt = op.Gt
word_op bin.Ge = op.Ge
word_op bin.Eq = op.Eq
word_op bin.Ne = op.Ne
word_op bin.And = op.And
word_op bin.Xor = op.Xor
word_op bin.Xnor = op.Xnor
word_op bin.Or = op.Or
word_op bin.LogAnd = op.LogAnd
word_op bin.LogOr = op.LogOr

-- ---- wires

-- the number of the bit at position j of a select of n bits, the lowest of which has the position p in its net
abbrev pub selected : Scope → Name → ℕ → ℕ → ℕ → Option ℕ
selected s name p n j = if nat_lt j n then Some (s.first name + (p + j)) else None

-- the bit that is meant at position j: that of a name or a select, which may stand in concatenations and repeats. The
-- first part of a concatenation has the highest bits
abbrev pub wire : Scope → ExprTree → ℕ → Option ℕ
wire s (net n) j = selected s n 0 (width s n) j
wire s (bit n i) j = selected s n (position (s.range n) i) 1 j
wire s (part n l r) j = selected s n (position (s.range n) r) (span l r) j
wire s (joined a b) j = if nat_lt j (own s b) then wire s b j else wire s a (j - own s b)
wire s (repeated n a) j = if nat_lt j (n * own s a) then wire s a (j % own s a) else None
wire s _ j = None

-- ---- values

abbrev pub unary_bit : UnaryForm → ℕ → Digits → Digits
unary_bit complement n a j = not (a j)
unary_bit opposite n a j = negative n a j
unary_bit (reduction r) n a j = one_bit (reduce r n a) j

-- bit j of an expression in a context of w bits, where the bits of the design have the values v
abbrev pub value : Scope → Values → ExprTree → ℕ → Digits
value s v (const c) w j = extended c.size (digit c.value) j
value s v (net n) w j = if_there false v (wire s (net n) j)
value s v (bit n i) w j = if_there false v (wire s (bit n i) j)
value s v (part n l r) w j = if_there false v (wire s (part n l r) j)
value s v empty w j = false
value s v (joined a b) w j =
    if nat_lt j (own s b) then value s v b (own s b) j else extended (own s a) (value s v a (own s a)) (j - own s b)
value s v (repeated n a) w j = nat_lt j (n * own s a) && value s v a (own s a) (j % own s a)
value s v (unary op a) w j = unary_bit (unary_form op) (inner_size s op a w) (value s v a (inner_size s op a w)) j
value s v (binary op a b) w j =
    apply (word_op op) (left_size s op a b w) (right_size s op a b w)
    (value s v a (left_size s op a b w)) (value s v b (right_size s op a b w)) j
value s v (choice c a b) w j = choose (own s c) (value s v c (own s c)) (value s v a w) (value s v b w) j

-- ---- reads

abbrev pub unary_reads : UnaryForm → ℕ → Reads → Reads
unary_reads complement n a j = a j
unary_reads opposite n a j = negative_reads a j
unary_reads (reduction r) n a j = one_read (all_reads n a) j

-- the bits that bit j of an expression in a context of w bits reads
abbrev pub reads : Scope → ExprTree → ℕ → Reads
reads s (const c) w j = []
reads s (net n) w j = if_there [] (λ b. b ∷ []) (wire s (net n) j)
reads s (bit n i) w j = if_there [] (λ b. b ∷ []) (wire s (bit n i) j)
reads s (part n l r) w j = if_there [] (λ b. b ∷ []) (wire s (part n l r) j)
reads s empty w j = []
reads s (joined a b) w j =
    if nat_lt j (own s b) then reads s b (own s b) j else extended_reads (own s a) (reads s a (own s a)) (j - own s b)
reads s (repeated n a) w j = if nat_lt j (n * own s a) then reads s a (own s a) (j % own s a) else []
reads s (unary op a) w j = unary_reads (unary_form op) (inner_size s op a w) (reads s a (inner_size s op a w)) j
reads s (binary op a b) w j =
    apply_reads (word_op op) (left_size s op a b w) (right_size s op a b w)
    (reads s a (left_size s op a b w)) (reads s b (right_size s op a b w)) j
reads s (choice c a b) w j = choose_reads (own s c) (reads s c (own s c)) (reads s a w) (reads s b w) j
