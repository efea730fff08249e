-- Two netlists of one function, in which gold's first output reads its second, and gate's second its first.
use Rattle.std.specs.Prelude.{ℕ, zero, suc, List, [], ◌∷◌, Bool}
use Rattle.eq_net.specs.declared.types.WordOp.TheVariants as op
use Rattle.eq_net.specs.Tree.{Tree, binary}
use Rattle.eq_net.specs.Decided.{is_net}
use Rattle.test_plans.specs.declared.types.Wire.{Wire}
use Rattle.test_plans.specs.Chains.{design, draft_of, reading}

-- net 0 is `x`, net 1 `p` and net 2 `q`. Word 0 drives nothing

-- `p = x & (x | q)` and `q = x`
abbrev pub gold_words : List Tree
gold_words = reading 0 ∷ binary op.And (reading 0) (binary op.Or (reading 0) (reading 2)) ∷ reading 0 ∷ []

-- `p = x` and `q = x | (x & p)`
abbrev pub gate_words : List Tree
gate_words = reading 0 ∷ reading 0 ∷ binary op.Or (reading 0) (binary op.And (reading 0) (reading 1)) ∷ []

-- ranks of the nets, and above them those of the words

abbrev pub of_three : ℕ → ℕ → ℕ → ℕ → ℕ
of_three a b c zero = a
of_three a b c (suc zero) = b
of_three a b c (suc (suc k)) = c

abbrev pub is_gold : List Wire → Bool
is_gold wires = is_net (of_three 0 2 1) (of_three 1 2 1) (design (draft_of wires) gold_words)

abbrev pub is_gate : List Wire → Bool
is_gate wires = is_net (of_three 0 1 2) (of_three 1 1 2) (design (draft_of wires) gate_words)
