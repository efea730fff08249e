-- A netlist of all that isn't an operator of two operands, over two inputs of w bits and a condition of two bits, whose range
-- goes up: the results stand one above the other in one output.
use Rattle.std.specs.Prelude.{ℕ, zero, suc, ◌+◌, ◌-◌, ◌*◌, List, [], ◌∷◌, ◌++◌, Bool, true, map, nat_lt, None, if◌then◌else◌}
use Rattle.eq_net.specs.declared.types.NetInfo.{NetInfo}
use Rattle.eq_net.specs.declared.types.WordBit.{WordBit}
use Rattle.eq_net.specs.declared.types.Dir.TheVariants.{Input as InputPort, Output as OutputPort}
use Rattle.eq_net.specs.declared.types.RedOp.{RedOp}
use Rattle.eq_net.specs.declared.types.RedOp.TheVariants as red
use Rattle.eq_net.specs.declared.types.Driver.{Driver}
use Rattle.eq_net.specs.Tree.{Tree, read, pick, negated, opposite, reduced, choice, empty, joined, extended}
use Rattle.eq_net.specs.Net.{Parts}
use Rattle.eq_net.specs.Decided.{is_net}
use Rattle.test_netlists.specs.Operators.{places, ranged, inputs, driven}
use Rattle.test_netlists.specs.Steps.{spanning}

abbrev pub left : ℕ → Tree
left w = read (places 0 w)

abbrev pub right : ℕ → Tree
right w = read (places 1 w)

abbrev pub condition : Tree
condition = read (places 2 2)

-- a bit of each of the first three words
abbrev pub picked : ℕ → List WordBit
picked w = record { word = 1; bit = 0 } ∷ record { word = 0; bit = w - 1 } ∷ record { word = 2; bit = 0 } ∷ []

abbrev pub wide : ℕ → List Tree
wide w =
    negated (left w) ∷ opposite (left w) ∷ choice condition (left w) (right w) ∷ extended (left w) (w + 2)
    ∷ joined (left w) (joined condition (joined (right w) empty)) ∷ pick (picked w) ∷ []

abbrev pub reductions : List RedOp
reductions = red.And ∷ red.Or ∷ red.Xor ∷ red.Nand ∷ red.Nor ∷ red.Xnor ∷ red.Zero ∷ []

abbrev pub reduction : ℕ → RedOp → Tree
reduction w o = reduced o (left w)

abbrev pub words : ℕ → List Tree
words w = wide w ++ map (reduction w) reductions

abbrev pub size : ℕ → ℕ → ℕ
size w k =
    if nat_lt k 3 then w else (if nat_lt k 4 then w + 2 else (if nat_lt k 5 then 2 * w + 2 else (if nat_lt k 6 then 3 else 1)))

-- what drives the inputs and the bits of the first k words
abbrev pub drivers : ℕ → ℕ → List Driver
drivers w zero = inputs (2 * w + 2)
drivers w (suc k) = drivers w k ++ driven k (size w k)

abbrev pub nets : ℕ → List NetInfo
nets w =
    ranged (97 ∷ []) w InputPort ∷ ranged (98 ∷ []) w InputPort ∷ spanning (99 ∷ []) 4 5 true InputPort
    ∷ ranged (121 ∷ []) (6 * w + 14) OutputPort ∷ []

abbrev pub all_forms : ℕ → Parts
all_forms w = record {
  nets = nets w;
  words = words w;
  drivers = drivers w 13;
  ports = 0 ∷ 1 ∷ 2 ∷ 3 ∷ [];
  clock = None;
  cost = 2000000;
}

-- inputs have rank 0, and what words drive has rank 1
abbrev pub is_good : ℕ → Bool
is_good w = is_net (λ b. if nat_lt b (2 * w + 2) then 0 else 1) (λ k. 1) (all_forms w)
