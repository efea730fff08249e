-- A netlist of a chain of additions of 8 bits: each word adds the input to the sum of the word behind it, which it reads
-- through a net. So who goes through the words from the first on meets each before what it reads.
use Rattle.std.specs.Prelude.{ℕ, zero, suc, ◌+◌, ◌-◌, ◌*◌, ◌/◌, ◌%◌, List, [], ◌∷◌, ◌++◌, nat_lt, None, if◌then◌else◌}
use Rattle.eq_names.specs.declared.BitName.{BitName}
use Rattle.eq_net.specs.declared.types.NetInfo.{NetInfo}
use Rattle.eq_net.specs.declared.types.Dir.TheVariants.{Input as InputPort, Output as OutputPort}
use Rattle.eq_net.specs.declared.types.WordOp.TheVariants as op
use Rattle.eq_net.specs.declared.types.Driver.{Driver}
use Rattle.eq_net.specs.declared.types.Driver.TheVariants.{Input, Expr}
use Rattle.eq_net.specs.Tree.{Tree, read, binary}
use Rattle.eq_net.specs.Net.{Parts}
use Rattle.test_series.specs.Lists.{listed, ranged}

-- the bit of a number: 8 bits of the input, and then the bits of the output
abbrev pub name : ℕ → BitName
name b = if nat_lt b 8 then record { net = 0; bit = b } else record { net = 1; bit = b - 8 }

-- 8 bits from one on
abbrev pub eight : ℕ → Tree
eight from = read (listed (λ i. name (from + i)) 8)

-- the input added to the 8 bits below those that the word drives, of which the last word drives the lowest
abbrev pub link : ℕ → ℕ → Tree
link last k = binary op.Add (eight (8 * (last - k))) (eight 0)

abbrev pub driver : ℕ → ℕ → Driver
driver last b = if nat_lt b 8 then Input else Expr (last - (b - 8) / 8) ((b - 8) % 8)

abbrev pub chain_nets : ℕ → List NetInfo
chain_nets last = ranged (97 ∷ []) 8 InputPort ∷ ranged (121 ∷ []) (8 * last + 8) OutputPort ∷ []

-- words up to the last one
abbrev pub chain : ℕ → Parts
chain last = record {
  nets = chain_nets last;
  words = listed (link last) (last + 1);
  drivers = listed (driver last) (8 * last + 16);
  ports = 0 ∷ 1 ∷ [];
  clock = None;
  cost = 2000000;
}
