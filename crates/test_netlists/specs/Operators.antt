-- A netlist of every operator of two inputs of w bits: the results stand one above the other in one output.
use Rattle.std.specs.Prelude.{ℕ, zero, suc, ◌+◌, ◌-◌, ◌*◌, List, [], ◌∷◌, ◌++◌, Bool, true, false, map, nat_lt, None, if◌then◌else◌}
use Rattle.eq_names.specs.declared.BitName.{BitName}
use Rattle.eq_net.specs.declared.types.NetInfo.{NetInfo}
use Rattle.eq_net.specs.declared.types.Dir.{Dir}
use Rattle.eq_net.specs.declared.types.Dir.TheVariants.{Input as InputPort, Output as OutputPort}
use Rattle.eq_net.specs.declared.types.WordOp.{WordOp}
use Rattle.eq_net.specs.declared.types.WordOp.TheVariants as op
use Rattle.eq_net.specs.declared.types.Driver.{Driver}
use Rattle.eq_net.specs.declared.types.Driver.TheVariants.{Input, Expr}
use Rattle.eq_net.specs.Tree.{Tree, read, binary}
use Rattle.eq_net.specs.Net.{Parts}
use Rattle.eq_net.specs.Decided.{is_net}

-- the n lowest bits of a net
abbrev pub places : ℕ → ℕ → List BitName
places net zero = []
places net (suc n) = places net n ++ record { net = net; bit = n } ∷ []

abbrev pub ranged : List ℕ → ℕ → Dir → NetInfo
ranged name width dir = record { name = name; left = width - 1; right = 0; ranged = true; dir = dir; auto = false }

abbrev pub operators : List WordOp
operators =
    op.And ∷ op.Or ∷ op.Xor ∷ op.Xnor ∷ op.Add ∷ op.Sub ∷ op.Shl ∷ op.Shr
    ∷ op.Eq ∷ op.Ne ∷ op.Lt ∷ op.Le ∷ op.Gt ∷ op.Ge ∷ op.LogAnd ∷ op.LogOr ∷ []

abbrev pub operation : ℕ → WordOp → Tree
operation w o = binary o (read (places 0 w)) (read (places 1 w))

abbrev pub inputs : ℕ → List Driver
inputs zero = []
inputs (suc n) = inputs n ++ Input ∷ []

-- the n lowest bits of word k
abbrev pub driven : ℕ → ℕ → List Driver
driven k zero = []
driven k (suc n) = driven k n ++ Expr k n ∷ []

abbrev pub size : ℕ → ℕ → ℕ
size w k = if nat_lt k 8 then w else 1

-- what drives the inputs and the bits of the first k words
abbrev pub drivers : ℕ → ℕ → List Driver
drivers w zero = inputs (2 * w)
drivers w (suc k) = drivers w k ++ driven k (size w k)

abbrev pub nets : ℕ → List NetInfo
nets w = ranged (97 ∷ []) w InputPort ∷ ranged (98 ∷ []) w InputPort ∷ ranged (121 ∷ []) (8 * w + 8) OutputPort ∷ []

abbrev pub all_operators : ℕ → Parts
all_operators w = record {
  nets = nets w;
  words = map (operation w) operators;
  drivers = drivers w 16;
  ports = 0 ∷ 1 ∷ 2 ∷ [];
  clock = None;
  cost = 2000000;
}

-- inputs have rank 0, and what words drive has rank 1
abbrev pub is_good : ℕ → Bool
is_good w = is_net (λ b. if nat_lt b (2 * w) then 0 else 1) (λ k. 1) (all_operators w)
