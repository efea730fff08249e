-- Cited by proofs alone; nothing here has to be believed.
use Rattle.std.specs.Prelude.{◌≡◌, ℕ, ◌<◌, ◌⊎◌, false, length, Some}
use Rattle.eq_net.specs.Nets.{width_of}
use Rattle.eq_net.specs.declared.types.Dir.TheVariants.{Inner}
use Rattle.eq_net.specs.Net.{Parts, net_at}
use Rattle.eq_match.specs.declared.types.Pair.{Pair}
use Rattle.eq_match.specs.declared.types.Partner.{Partner}
use Rattle.eq_match.specs.NetPairs.{AreOnePort, Pairing}
use Rattle.eq_match.specs.Pairs.{bit, is_input}
use Rattle.eq_match.specs.Seen.{HaveOneWidth}

-- the two nets are inside
pub record AreInside (gold gate : Parts) (k h : ℕ) : Type 0 where
  pub gold_inside : (net_at gold.nets k).dir ≡ Inner
  pub gate_inside : (net_at gate.nets h).dir ≡ Inner

-- two ports of one name by a plain pair, or two nets inside
abbrev pub IsSound : Parts → Parts → ℕ → Partner → Type 0
IsSound gold gate k p = (AreOnePort gold gate k p.net × (p.inverted ≡ false)) ⊎ AreInside gold gate k p.net

-- what pairs of nets are whatever the lines say
pub record IsMatched (gold gate : Parts) (p : Pairing) : Type 0 where
  pub gold_there : (k : ℕ) (q : Partner) → p k ≡ Some q → k < length gold.nets
  pub gate_there : (k : ℕ) (q : Partner) → p k ≡ Some q → q.net < length gate.nets
  pub widths : (k : ℕ) (q : Partner) → p k ≡ Some q → HaveOneWidth gold k gate q.net
  pub sound : (k : ℕ) (q : Partner) → p k ≡ Some q → IsSound gold gate k q
  pub once : (j k : ℕ) (q r : Partner) → p j ≡ Some q → p k ≡ Some r → q.net ≡ r.net → j ≡ k
  pub ports : (k h : ℕ) → AreOnePort gold gate k h → p k ≡ Some (record { net = h; inverted = false })

-- the pair of bit j of net k and its partner
abbrev pub pair_of : Parts → ℕ → Partner → ℕ → Pair
pair_of gold k q j = record {
  gold = bit k j;
  gate = bit q.net j;
  input = is_input (net_at gold.nets k).dir;
  inverted = q.inverted;
}

-- the pair is that of some bit of a paired net below n
pub record IsBitPair (gold : Parts) (p : Pairing) (n : ℕ) (x : Pair) : Type 0 where
  pub net : ℕ
  pub partner : Partner
  pub place : ℕ
  pub below : net < n
  pub paired : p net ≡ Some partner
  pub within : place < width_of (net_at gold.nets net)
  pub pair_is : x ≡ pair_of gold net partner place
