-- The pairs of bits.
use Rattle.std.specs.Prelude.{◌≡◌, ℕ, zero, suc, Bool, true, false, List, [], ◌∷◌, ◌++◌, length, slice_index_or, Option, Some, None}
use Rattle.eq_names.specs.declared.BitName.{BitName}
use Rattle.eq_net.specs.declared.types.Dir.{Dir}
use Rattle.eq_net.specs.declared.types.Dir.TheVariants.{Inner, Input, Output}
use Rattle.eq_net.specs.Nets.{width_of}
use Rattle.eq_net.specs.Net.{Parts, net_at}
use Rattle.eq_config.specs.declared.config.Config.{Config}
use Rattle.eq_match.specs.declared.types.Pair.{Pair}
use Rattle.eq_match.specs.declared.types.Partner.{Partner}
use Rattle.eq_match.specs.NetPairs.{Pairing, IsPairing}

abbrev pub is_input : Dir → Bool
is_input Input = true
is_input Output = false
is_input Inner = false

abbrev pub bit : ℕ → ℕ → BitName
bit k j = record { net = k; bit = j }

-- a pair of two nets bit by bit, by position: of the first n positions
abbrev pub bits_of_pair : Bool → ℕ → Partner → ℕ → List Pair
bits_of_pair input k p zero = []
bits_of_pair input k p (suc j) = bits_of_pair input k p j ++ (record {
  gold = bit k j;
  gate = bit p.net j;
  input = input;
  inverted = p.inverted;
} ∷ [])

-- the pairs of the bits of net k
abbrev pub bits_of_net : Parts → ℕ → Option Partner → List Pair
bits_of_net gold k None = []
bits_of_net gold k (Some p) = bits_of_pair (is_input (net_at gold.nets k).dir) k p (width_of (net_at gold.nets k))

-- the pairs of the bits of the first n nets of gold, in the order of gold's bits
abbrev pub bits_of_nets : Parts → Pairing → ℕ → List Pair
bits_of_nets gold p zero = []
bits_of_nets gold p (suc k) = bits_of_nets gold p k ++ bits_of_net gold k (p k)

-- the pairs that a configuration says, bit by bit
pub record ArePairs (gold gate : Parts) (c : Config) (pairs : List Pair) : Type 0 where
  pub nets : Pairing
  pub nets_are : IsPairing gold gate c nets
  pub bits_are : pairs ≡ bits_of_nets gold nets (length gold.nets)

abbrev pub no_pair : Pair
no_pair = record { gold = bit 0 0; gate = bit 0 0; input = true; inverted = false }

abbrev pub pair_at : List Pair → ℕ → Pair
pair_at pairs i = slice_index_or pairs i no_pair

-- the net of gold at a position
abbrev pub gold_net : List Pair → ℕ → ℕ
gold_net pairs i = (pair_at pairs i).gold.net
