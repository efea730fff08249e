-- The carries of a sum of two numbers of w bits, as one word that reads its own bits through a net. The input has both numbers
-- and above them the carry that comes in, and the output the carries. So who goes round whole words goes round w times.
use Rattle.std.specs.Prelude.{ℕ, ◌+◌, ◌-◌, ◌*◌, List, [], ◌∷◌, nat_lt, None, if◌then◌else◌}
use Rattle.eq_names.specs.declared.BitName.{BitName}
use Rattle.eq_net.specs.declared.types.NetInfo.{NetInfo}
use Rattle.eq_net.specs.declared.types.Dir.TheVariants.{Input as InputPort, Output as OutputPort}
use Rattle.eq_net.specs.declared.types.WordOp.{WordOp}
use Rattle.eq_net.specs.declared.types.WordOp.TheVariants as op
use Rattle.eq_net.specs.declared.types.Driver.{Driver}
use Rattle.eq_net.specs.declared.types.Driver.TheVariants.{Input, Expr}
use Rattle.eq_net.specs.Tree.{Tree, read, binary}
use Rattle.eq_net.specs.Net.{Parts}
use Rattle.test_series.specs.Lists.{listed}
use Rattle.test_series.specs.Lists.{ranged}

-- the bit of a number: those of the input, and then those of the output
abbrev pub name : ℕ → ℕ → BitName
name w b = if nat_lt b (2 * w + 1) then record { net = 0; bit = b } else record { net = 1; bit = b - (2 * w + 1) }

-- w bits from one on
abbrev pub row : ℕ → ℕ → Tree
row w from = read (listed (λ i. name w (from + i)) w)

-- both numbers
abbrev pub pair : WordOp → ℕ → Tree
pair o w = binary o (row w 0) (row w w)

-- the carry that comes in, and all others but the last
abbrev pub passed : ℕ → Tree
passed w = binary op.And (row w (2 * w)) (pair op.Xor w)

abbrev pub carries : ℕ → Tree
carries w = binary op.Or (pair op.And w) (passed w)

abbrev pub driver : ℕ → ℕ → Driver
driver w b = if nat_lt b (2 * w + 1) then Input else Expr 0 (b - (2 * w + 1))

abbrev pub nets : ℕ → List NetInfo
nets w = ranged (97 ∷ []) (2 * w + 1) InputPort ∷ ranged (99 ∷ []) w OutputPort ∷ []

abbrev pub ripple : ℕ → Parts
ripple w = record {
  nets = nets w;
  words = carries w ∷ [];
  drivers = listed (driver w) (3 * w + 1);
  ports = 0 ∷ 1 ∷ [];
  clock = None;
  cost = 2000000;
}
