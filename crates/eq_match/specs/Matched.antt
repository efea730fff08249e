-- What pairs of two netlists with the same ports are, whatever the lines of the match sections say.
use Rattle.std.specs.Prelude.{◌≡◌, ℕ, ◌<◌, ◌↔◌, true, false, List, length}
use Rattle.eq_model.specs.Nets.{is_input, IsPort}
use Rattle.eq_model.specs.Plan.{PairsPorts}
use Rattle.eq_model.specs.Run.{dir}
use Rattle.eq_net.specs.Nets.{width_of}
use Rattle.eq_net.specs.Net.{HasBit, Parts, bits_of, design_of, net_at, number_of}
use Rattle.eq_match.specs.declared.types.Pair.{Pair}
use Rattle.eq_match.specs.Pairs.{bit, pair_at}

-- the numbers of the bits at a position
abbrev pub gold_bit : Parts → List Pair → ℕ → ℕ
gold_bit gold pairs i = number_of gold.nets (pair_at pairs i).gold

abbrev pub gate_bit : Parts → List Pair → ℕ → ℕ
gate_bit gate pairs i = number_of gate.nets (pair_at pairs i).gate

-- position m has bit j of the two nets at position i, of the same sign
pub record IsBitOf (pairs : List Pair) (i j m : ℕ) : Type 0 where
  pub there : m < length pairs
  pub gold : (pair_at pairs m).gold ≡ bit (pair_at pairs i).gold.net j
  pub gate : (pair_at pairs m).gate ≡ bit (pair_at pairs i).gate.net j
  pub inverted : (pair_at pairs m).inverted ≡ (pair_at pairs i).inverted

pub record AreMatched (gold gate : Parts) (pairs : List Pair) : Type 0 where
  -- bits of the two netlists, none in two pairs, in the order of gold's
  pub gold_there : (i : ℕ) → i < length pairs → HasBit gold.nets (pair_at pairs i).gold
  pub gate_there : (i : ℕ) → i < length pairs → HasBit gate.nets (pair_at pairs i).gate
  pub gold_bits : (i : ℕ) → i < length pairs → gold_bit gold pairs i < bits_of gold.nets
  pub gate_bits : (i : ℕ) → i < length pairs → gate_bit gate pairs i < bits_of gate.nets
  pub ordered : (i j : ℕ) → i < j → j < length pairs → gold_bit gold pairs i < gold_bit gold pairs j
  pub gold_once : (i j : ℕ) → i < length pairs → j < length pairs →
      gold_bit gold pairs i ≡ gold_bit gold pairs j → i ≡ j
  pub gate_once : (i j : ℕ) → i < length pairs → j < length pairs →
      gate_bit gate pairs i ≡ gate_bit gate pairs j → i ≡ j
  -- nets are paired whole, bit by bit
  pub whole : (i j : ℕ) → i < length pairs → j < width_of (net_at gold.nets (pair_at pairs i).gold.net) →
      (m : ℕ) × IsBitOf pairs i j m
  -- ports are paired by name and place, and by plain pairs
  pub gold_ports : PairsPorts (design_of gold) (design_of gate) (length pairs)
      (gold_bit gold pairs) (gate_bit gate pairs)
  pub gate_ports : PairsPorts (design_of gate) (design_of gold) (length pairs)
      (gate_bit gate pairs) (gold_bit gold pairs)
  pub plain_ports : (i : ℕ) → i < length pairs → IsPort (dir (design_of gold) (gold_bit gold pairs i)) →
      (pair_at pairs i).inverted ≡ false
  -- an input is paired with an input, and these pairs are marked
  pub gold_inputs : (i : ℕ) → i < length pairs →
      ((pair_at pairs i).input ≡ true) ↔ (dir (design_of gold) (gold_bit gold pairs i) ≡ is_input)
  pub gate_inputs : (i : ℕ) → i < length pairs →
      ((pair_at pairs i).input ≡ true) ↔ (dir (design_of gate) (gate_bit gate pairs i) ≡ is_input)
