-- What the examples compute with.
use Rattle.std.specs.Prelude.{ℕ, ◌+◌, ◌*◌, List, [], ◌∷◌, true, false}
use Rattle.eq_names.specs.declared.BitName.{BitName}
use Rattle.eq_net.specs.declared.types.NetInfo.{NetInfo}
use Rattle.eq_net.specs.declared.types.Dir.TheVariants.{Inner}
use Rattle.eq_net.specs.declared.types.WordOp.{WordOp}
use Rattle.eq_net.specs.declared.types.WordOp.TheVariants as op
use Rattle.eq_net.specs.Meaning.{result_size}
use Rattle.eq_net.specs.Numbers.{digit, number}
use Rattle.eq_net.specs.Operators.{apply}
use Rattle.eq_net.specs.Tree.{Tree, const, read, binary, extended, join_all}

-- an operation on two numbers of w bits
abbrev pub computed : WordOp → ℕ → ℕ → ℕ → ℕ
computed o w a b = number (result_size o w) (apply o w w (digit a) (digit b))

-- nets of ten bits, of which the first begins at bit 7
abbrev pub from_seven : BitName → ℕ
from_seven b = 7 + (10 * b.net + b.bit)

abbrev pub nothing_earlier : ℕ → ℕ → List ℕ
nothing_earlier w j = []

abbrev pub lowest_two : ℕ → Tree
lowest_two net = read (record { net = net; bit = 0 } ∷ record { net = net; bit = 1 } ∷ [])

-- {net 0, lowest two bits} + {net 1, lowest two bits}
abbrev pub sum_of_nets : Tree
sum_of_nets = binary op.Add (lowest_two 0) (lowest_two 1)

-- {2'b10, 2 zeros above the lowest two bits of net 1}
abbrev pub wide_concatenation : Tree
wide_concatenation = join_all (const (false ∷ true ∷ []) ∷ extended (lowest_two 1) 4 ∷ [])

abbrev pub net_with_range : ℕ → ℕ → NetInfo
net_with_range left right = record { name = []; left = left; right = right; ranged = true; dir = Inner; auto = false }
