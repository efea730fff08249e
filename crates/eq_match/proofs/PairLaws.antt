-- Pairs of two netlists with the same ports are one to one, join whole nets, and pair all ports.
use Rattle.std.proofs.Common.{◌≡◌, ◌≢◌, ℕ, ◌+◌, ◌<◌, ◌↔◌, true, false, List, [], length, refl, sym, ap, subst, ◌∙◌, inl, inr, arith}
use Rattle.eq_model.specs.Nets.{Key, inner, is_input, IsPort}
use Rattle.eq_model.specs.Plan.{PairsPorts}
use Rattle.eq_model.specs.Run.{dir, key}
use Rattle.eq_net.specs.declared.types.Dir.{Dir}
use Rattle.eq_net.specs.declared.types.Dir.TheVariants.{Inner, Input, Output}
use Rattle.eq_net.specs.Nets.{side_of, width_of}
use Rattle.eq_net.specs.Net.{HasBit, IsNet, Parts, bits_of, design_of, name_at, net_at, number_of, offset}
use Rattle.eq_config.specs.declared.config.Config.{Config}
use Rattle.eq_match.specs.declared.types.Pair.{Pair}
use Rattle.eq_match.specs.declared.types.Partner.{Partner}
use Rattle.eq_match.specs.Matched.{AreMatched, IsBitOf, gate_bit, gold_bit}
use Rattle.eq_match.specs.NetPairs.{AreOnePort, Pairing}
use Rattle.eq_match.specs.Pairs.{ArePairs, bit, bits_of_nets, is_input as marks_input, pair_at}
use Rattle.eq_match.specs.Seen.{HaveSamePorts}
use Rattle.eq_match.specs.inner.Soundness.{IsBitPair, IsMatched, IsSound}
use Rattle.eq_match.proofs.BitOrder.{gold_once, ordered}
use Rattle.eq_match.proofs.BitPlaces.{bit_in, has_bit}
use Rattle.eq_match.proofs.BitsInNets.{at_place, bit_there, one_place, place_of}
use Rattle.eq_match.proofs.NetSoundness.{pairing_matched, port_like}

port_side : (d : Dir) → d ≢ Inner → IsPort (side_of d)
port_side Inner ne = absurd (ne refl)
port_side Input ne = tt
port_side Output ne = tt

side_port : (d : Dir) → IsPort (side_of d) → d ≢ Inner
side_port Inner h = λ e. h
side_port Input h = λ e. cc
side_port Output h = λ e. cc

input_side : (d : Dir) → (marks_input d ≡ true) ↔ (side_of d ≡ is_input)
input_side Inner = (λ e. cc, λ e. cc)
input_side Input = (λ e. refl, λ e. refl)
input_side Output = (λ e. cc, λ e. cc)

-- the direction and the name of bit j of net k
dir_at : (n : Parts) (k j : ℕ) → k < length n.nets → j < width_of (net_at n.nets k) →
    dir (design_of n) (offset n.nets k + j) ≡ side_of (net_at n.nets k).dir
dir_at n k j lk lj = at_place inner (λ m place. m.dir) n.nets k j lk lj

key_at : (n : Parts) (k j : ℕ) → k < length n.nets → j < width_of (net_at n.nets k) →
    key (design_of n) (offset n.nets k + j) ≡ (name_at n.nets k, j)
key_at n k j lk lj = at_place ([], 0) (λ m place. (m.name, place)) n.nets k j lk lj

-- a net with a port bit is a port, and a port's bits are port bits
port_net : (n : Parts) (k j a : ℕ) → k < length n.nets → j < width_of (net_at n.nets k) → offset n.nets k + j ≡ a →
    IsPort (dir (design_of n) a) → (net_at n.nets k).dir ≢ Inner
port_net n k j a lk lj is port =
    side_port (net_at n.nets k).dir (subst IsPort (ap (dir (design_of n)) (sym is) ∙ dir_at n k j lk lj) port)

port_bit : (n : Parts) (k j b : ℕ) → k < length n.nets → j < width_of (net_at n.nets k) → b ≡ offset n.nets k + j →
    (net_at n.nets k).dir ≢ Inner → IsPort (dir (design_of n) b)
port_bit n k j b lk lj is ne =
    subst IsPort (sym (ap (dir (design_of n)) is ∙ dir_at n k j lk lj)) (port_side (net_at n.nets k).dir ne)

-- one place of nets of one name
same_key : (n m : Parts) (k h j a b : ℕ) → k < length n.nets → h < length m.nets → j < width_of (net_at n.nets k) →
    j < width_of (net_at m.nets h) → offset n.nets k + j ≡ a → b ≡ offset m.nets h + j → name_at m.nets h ≡ name_at
    n.nets k →
    key (design_of m) b ≡ key (design_of n) a
same_key n m k h j a b lk lh lj wj is at names =
    let named : List ℕ → Key = λ name. (name, j) in
    ap (key (design_of m)) at ∙ key_at m h j lh wj ∙ ap named names ∙ sym (key_at n k j lk lj) ∙ ap (key (design_of n))
    is

module _ (gold gate : Parts) (gate_is : IsNet gate) (same : HaveSamePorts gold gate) (p : Pairing) (is : IsMatched gold
    gate p) where
  abbrev All : List Pair
  All = bits_of_nets gold p (length gold.nets)

  same_dir : (k : ℕ) (q : Partner) → IsSound gold gate k q → (net_at gate.nets q.net).dir ≡ (net_at gold.nets k).dir
  same_dir k q (inl a) = (port_like gold gate gate_is same k q.net a.0).0
  same_dir k q (inr a) = a.gate_inside ∙ sym a.gold_inside

  module _ (i : ℕ) (lt : i < length All) where
    b : IsBitPair gold p (length gold.nets) (pair_at All i)
    b = bit_in gold p (length gold.nets) i lt

    lk : b.net < length gold.nets
    lk = is.gold_there b.net b.partner b.paired

    lh : b.partner.net < length gate.nets
    lh = is.gate_there b.net b.partner b.paired

    gate_within : b.place < width_of (net_at gate.nets b.partner.net)
    gate_within = subst (λ (w : ℕ). b.place < w) (is.widths b.net b.partner b.paired) b.within

    gold_number : gold_bit gold All i ≡ offset gold.nets b.net + b.place
    gold_number = ap (λ (x : Pair). number_of gold.nets x.gold) b.pair_is

    gate_number : gate_bit gate All i ≡ offset gate.nets b.partner.net + b.place
    gate_number = ap (λ (x : Pair). number_of gate.nets x.gate) b.pair_is

    gold_there : HasBit gold.nets (pair_at All i).gold
    gold_there = subst (λ (x : Pair). HasBit gold.nets x.gold) (sym b.pair_is) (lk, b.within)

    gate_there : HasBit gate.nets (pair_at All i).gate
    gate_there = subst (λ (x : Pair). HasBit gate.nets x.gate) (sym b.pair_is) (lh, gate_within)

    gold_dir : dir (design_of gold) (gold_bit gold All i) ≡ side_of (net_at gold.nets b.net).dir
    gold_dir = ap (dir (design_of gold)) gold_number ∙ dir_at gold b.net b.place lk b.within

    gate_dir : dir (design_of gate) (gate_bit gate All i) ≡ side_of (net_at gold.nets b.net).dir
    gate_dir = ap (dir (design_of gate)) gate_number ∙ dir_at gate b.partner.net b.place lh gate_within
        ∙ ap side_of (same_dir b.net b.partner (is.sound b.net b.partner b.paired))

    marked : (pair_at All i).input ≡ marks_input (net_at gold.nets b.net).dir
    marked = ap (λ (x : Pair). x.input) b.pair_is

    plain_in : IsSound gold gate b.net b.partner → IsPort (side_of (net_at gold.nets b.net).dir) → b.partner.inverted ≡
        false
    plain_in (inl a) port = a.1
    plain_in (inr a) port = absurd (side_port (net_at gold.nets b.net).dir port a.gold_inside)

    plain : IsPort (dir (design_of gold) (gold_bit gold All i)) → (pair_at All i).inverted ≡ false
    plain port = ap (λ (x : Pair). x.inverted) b.pair_is
        ∙ plain_in (is.sound b.net b.partner b.paired) (subst IsPort gold_dir port)

    gold_input : ((pair_at All i).input ≡ true) ↔ (dir (design_of gold) (gold_bit gold All i) ≡ is_input)
    gold_input =
        let iff = input_side (net_at gold.nets b.net).dir in
        (λ e. gold_dir ∙ iff.0 (sym marked ∙ e), λ e. marked ∙ iff.1 (sym gold_dir ∙ e))

    gate_input : ((pair_at All i).input ≡ true) ↔ (dir (design_of gate) (gate_bit gate All i) ≡ is_input)
    gate_input =
        let iff = input_side (net_at gold.nets b.net).dir in
        (λ e. gate_dir ∙ iff.0 (sym marked ∙ e), λ e. marked ∙ iff.1 (sym gate_dir ∙ e))

    whole : (j : ℕ) → j < width_of (net_at gold.nets (pair_at All i).gold.net) → (m : ℕ) × IsBitOf All i j m
    whole j lj =
        let within : j < width_of (net_at gold.nets b.net) =
        subst (λ (x : Pair). j < width_of (net_at gold.nets x.gold.net)) b.pair_is lj in
        let h = has_bit gold p (length gold.nets) b.net b.partner j lk b.paired within in (
          h.0,
          record {
            there = h.1;
            gold = ap (λ (x : Pair). x.gold) h.2 ∙ ap (λ (x : Pair). bit x.gold.net j) (sym b.pair_is);
            gate = ap (λ (x : Pair). x.gate) h.2 ∙ ap (λ (x : Pair). bit x.gate.net j) (sym b.pair_is);
            inverted = ap (λ (x : Pair). x.inverted) h.2 ∙ ap (λ (x : Pair). x.inverted) (sym b.pair_is);
          },
        )

  gate_once : (i j : ℕ) → i < length All → j < length All → gate_bit gate All i ≡ gate_bit gate All j → i ≡ j
  gate_once i j li lj e =
      let a = b i li in
      let d = b j lj in
      let one = one_place gate.nets a.partner.net d.partner.net a.place d.place (lh i li) (lh j lj) (gate_within i li)
      (gate_within j lj) (sym (gate_number i li) ∙ e ∙ gate_number j lj) in
      let nets = is.once a.net d.net a.partner d.partner a.paired d.paired one.0 in
      let n : offset gold.nets a.net ≡ offset gold.nets d.net = ap (λ (k : ℕ). offset gold.nets k) nets in
      let f = gold_number i li in
      let g = gold_number j lj in
      let o = one.1 in
      gold_once gold p i j li lj (omega arith)

  -- a port bit of both is paired
  port_pair : (k h j : ℕ) → AreOnePort gold gate k h → j < width_of (net_at gold.nets k) →
      (i : ℕ) × (i < length All) × (gold_bit gold All i ≡ offset gold.nets k + j) × (gate_bit gate All i ≡ offset
      gate.nets h + j)
  port_pair k h j port lj =
      let f = has_bit gold p (length gold.nets) k (record { net = h; inverted = false }) j port.gold_there (is.ports k
      h port) lj in
      (f.0, f.1, ap (λ (x : Pair). number_of gold.nets x.gold) f.2, ap (λ (x : Pair). number_of gate.nets x.gate) f.2)

  gold_ports : PairsPorts (design_of gold) (design_of gate) (length All) (gold_bit gold All) (gate_bit gate All)
  gold_ports a lt port =
      let pl = place_of gold.nets a lt in
      let ne = port_net gold pl.net pl.bit a pl.net_there pl.bit_there pl.is port in
      let s = same.gold_ports pl.net pl.net_there ne in
      let other : (net_at gate.nets s.0).dir ≢ Inner = λ e. ne (sym s.3 ∙ e) in
      let one : AreOnePort gold gate pl.net s.0 = record {
        gold_there = pl.net_there;
        gate_there = s.1;
        gold_port = ne;
        gate_port = other;
        names = sym s.2;
      } in
      let f = port_pair pl.net s.0 pl.bit one pl.bit_there in
      let within = subst (λ (w : ℕ). pl.bit < w) s.4 pl.bit_there in (
        f.0,
        f.1,
        f.2 ∙ pl.is,
        port_bit gate s.0 pl.bit (gate_bit gate All f.0) s.1 within f.3 other,
        same_key gold gate pl.net s.0 pl.bit a (gate_bit gate All f.0) pl.net_there s.1 pl.bit_there within pl.is f.3
            s.2,
      )

  gate_ports : PairsPorts (design_of gate) (design_of gold) (length All) (gate_bit gate All) (gold_bit gold All)
  gate_ports a lt port =
      let pl = place_of gate.nets a lt in
      let ne = port_net gate pl.net pl.bit a pl.net_there pl.bit_there pl.is port in
      let s = same.gate_ports pl.net pl.net_there ne in
      let other : (net_at gold.nets s.0).dir ≢ Inner = λ e. ne (sym s.3 ∙ e) in
      let one : AreOnePort gold gate s.0 pl.net = record {
        gold_there = s.1;
        gate_there = pl.net_there;
        gold_port = other;
        gate_port = ne;
        names = s.2;
      } in
      let within = subst (λ (w : ℕ). pl.bit < w) s.4 pl.bit_there in
      let f = port_pair s.0 pl.net pl.bit one within in (
        f.0,
        f.1,
        f.3 ∙ pl.is,
        port_bit gold s.0 pl.bit (gold_bit gold All f.0) s.1 within f.2 other,
        same_key gate gold pl.net s.0 pl.bit a (gold_bit gold All f.0) pl.net_there s.1 pl.bit_there within pl.is f.2
            s.2,
      )

  pub bits_matched : AreMatched gold gate All
  bits_matched = record {
    gold_there = gold_there;
    gate_there = gate_there;
    gold_bits = λ i lt. subst (λ (n : ℕ). n < bits_of gold.nets) (sym (gold_number i lt))
        (bit_there gold.nets (b i lt).net (b i lt).place (lk i lt) (b i lt).within);
    gate_bits = λ i lt. subst (λ (n : ℕ). n < bits_of gate.nets) (sym (gate_number i lt))
        (bit_there gate.nets (b i lt).partner.net (b i lt).place (lh i lt) (gate_within i lt));
    ordered = ordered gold p;
    gold_once = gold_once gold p;
    gate_once = gate_once;
    whole = λ i j lt lj. whole i lt j lj;
    gold_ports = gold_ports;
    gate_ports = gate_ports;
    plain_ports = plain;
    gold_inputs = gold_input;
    gate_inputs = gate_input;
  }

pub pairs_matched : (gold gate : Parts) (c : Config) (pairs : List Pair) → IsNet gold → IsNet gate → HaveSamePorts gold
    gate →
    ArePairs gold gate c pairs → AreMatched gold gate pairs
pairs_matched gold gate c pairs gold_is gate_is same are =
    subst (AreMatched gold gate) (sym are.bits_are)
    (bits_matched gold gate gate_is same are.nets (pairing_matched gold gate gold_is gate_is same c are.nets
    are.nets_are))
