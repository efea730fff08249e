-- A netlist of stages: an input of w bits, and n nets of w bits, each of which is the exclusive or of the net before it and
-- the input. The last one is an output.
use Rattle.std.specs.Prelude.{ℕ, zero, suc, ◌+◌, ◌/◌, ◌%◌, List, [], ◌∷◌, ◌++◌, nat_lt, None, if◌then◌else◌}
use Rattle.eq_names.specs.declared.BitName.{BitName}
use Rattle.eq_net.specs.declared.types.NetInfo.{NetInfo}
use Rattle.eq_net.specs.declared.types.Dir.{Dir}
use Rattle.eq_net.specs.declared.types.Dir.TheVariants.{Inner, Input as InputPort, Output as OutputPort}
use Rattle.eq_net.specs.declared.types.WordOp.TheVariants as op
use Rattle.eq_net.specs.declared.types.Driver.{Driver}
use Rattle.eq_net.specs.declared.types.Driver.TheVariants.{Input, Expr}
use Rattle.eq_net.specs.Tree.{Tree, read, binary}
use Rattle.eq_net.specs.Net.{Parts}
use Rattle.test_series.specs.Lists.{listed, ranged}

-- `n` and the number's four digits
abbrev pub stage_name : ℕ → List ℕ
stage_name k =
    110 ∷ (48 + k / 10 / 10 / 10) ∷ (48 + k / 10 / 10 % 10) ∷ (48 + k / 10 % 10) ∷ (48 + k % 10) ∷ []

abbrev pub stage_dir : ℕ → ℕ → Dir
stage_dir n k = if nat_lt (k + 1) n then Inner else OutputPort

abbrev pub stage_net : ℕ → ℕ → ℕ → NetInfo
stage_net w n k = ranged (stage_name k) w (stage_dir n k)

abbrev pub stage_nets : ℕ → ℕ → List NetInfo
stage_nets w n = ranged (97 ∷ []) w InputPort ∷ listed (stage_net w n) n

abbrev pub place : ℕ → ℕ → BitName
place net i = record { net = net; bit = i }

-- all bits of a net
abbrev pub all_bits : ℕ → ℕ → Tree
all_bits w net = read (listed (place net) w)

-- the word of stage k, which is net k + 1
abbrev pub stage : ℕ → ℕ → Tree
stage w k = binary op.Xor (all_bits w k) (all_bits w 0)

abbrev pub driven : ℕ → ℕ → List Driver
driven w zero = []
driven w (suc n) = driven w n ++ listed (Expr n) w

abbrev pub given : ℕ → Driver
given j = Input

abbrev pub stages : ℕ → ℕ → Parts
stages w n = record {
  nets = stage_nets w n;
  words = listed (stage w) n;
  drivers = listed given w ++ driven w n;
  ports = 0 ∷ n ∷ [];
  clock = None;
  cost = 2000000;
}
