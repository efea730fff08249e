-- A netlist of one word, in which one shift stands in another. This project's own.
use Rattle.std.specs.Prelude.{ℕ, zero, suc, ◌*◌, List, [], ◌∷◌, ◌++◌, Bool, nat_lt, None, if◌then◌else◌}
use Rattle.eq_names.specs.declared.BitName.{BitName}
use Rattle.eq_net.specs.declared.types.NetInfo.{NetInfo}
use Rattle.eq_net.specs.declared.types.Dir.TheVariants.{Input as InputPort, Output as OutputPort}
use Rattle.eq_net.specs.declared.types.WordOp.TheVariants as op
use Rattle.eq_net.specs.declared.types.Driver.{Driver}
use Rattle.eq_net.specs.declared.types.Driver.TheVariants.{Input, Expr}
use Rattle.eq_net.specs.Tree.{Tree, read, binary}
use Rattle.eq_net.specs.Net.{Parts}
use Rattle.eq_net.specs.Decided.{is_net}
use Rattle.test_series.specs.Lists.{ranged}

-- the n lowest bits of a net
abbrev pub places : ℕ → ℕ → List BitName
places net zero = []
places net (suc n) = places net n ++ record { net = net; bit = n } ∷ []

abbrev pub inputs : ℕ → List Driver
inputs zero = []
inputs (suc n) = inputs n ++ Input ∷ []

-- the n lowest bits of the word
abbrev pub driven : ℕ → List Driver
driven zero = []
driven (suc n) = driven n ++ Expr 0 n ∷ []

-- a, shifted to the left by b, k times
abbrev pub nested : ℕ → ℕ → Tree
nested w zero = read (places 0 w)
nested w (suc k) = binary op.Shl (nested w k) (read (places 1 w))

abbrev pub nets : ℕ → List NetInfo
nets w = ranged (97 ∷ []) w InputPort ∷ ranged (98 ∷ []) w InputPort ∷ ranged (121 ∷ []) w OutputPort ∷ []

abbrev pub shifts : ℕ → ℕ → Parts
shifts w k = record {
  nets = nets w;
  words = nested w k ∷ [];
  drivers = inputs (2 * w) ++ driven w;
  ports = 0 ∷ 1 ∷ 2 ∷ [];
  clock = None;
  cost = 999810;
}

-- inputs have rank 0, and what the word drives has rank 1
abbrev pub is_good : ℕ → ℕ → Bool
is_good w k = is_net (λ b. if nat_lt b (2 * w) then 0 else 1) (λ j. 1) (shifts w k)
