-- The words that the code makes of each form of an expression.
use Rattle.std.specs.Prelude.{ℕ, zero, suc, ◌+◌, ◌%◌, List, [], ◌∷◌, ◌++◌, Bool, true, false, if◌then◌else◌}
use Rattle.eq_names.specs.declared.BitName.{BitName}
use Rattle.eq_net.specs.declared.types.WordBit.{WordBit}
use Rattle.eq_net.specs.declared.types.WordOp.{WordOp}
use Rattle.eq_net.specs.declared.types.WordOp.TheVariants as op
use Rattle.eq_net.specs.Tree.{Tree, negated, opposite as negative, binary, reduced, extended}
use Rattle.eq_verilog.specs.Sizes.{UnaryForm, complement, opposite, reduction}

-- what f makes of the first n numbers
abbrev pub numbered : {A : Type 0} → (ℕ → A) → ℕ → List A
numbered f zero = []
numbered f (suc n) = numbered f n ++ f n ∷ []

-- the bits of a net from a position up
abbrev pub net_bits : ℕ → ℕ → ℕ → List BitName
net_bits net first n = numbered (λ j. record { net = net; bit = first + j }) n

-- the bits of a word of m bits, again and again
abbrev pub word_bits : ℕ → ℕ → ℕ → List WordBit
word_bits word m n = numbered (λ j. record { word = word; bit = j % m }) n

-- the result has one bit, whatever the operands have
abbrev pub has_one_bit : WordOp → Bool
has_one_bit op.Eq = true
has_one_bit op.Ne = true
has_one_bit op.Lt = true
has_one_bit op.Le = true
has_one_bit op.Gt = true
has_one_bit op.Ge = true
has_one_bit op.LogAnd = true
has_one_bit op.LogOr = true
has_one_bit _ = false

-- an operation, in a context of w bits: a result of one bit is extended
abbrev pub operated : WordOp → Tree → Tree → ℕ → Tree
operated o x y w = if has_one_bit o then extended (binary o x y) w else binary o x y

abbrev pub formed : UnaryForm → Tree → ℕ → Tree
formed complement t w = negated t
formed opposite t w = negative t
formed (reduction r) t w = extended (reduced r t) w
