-- Matched pairs have bits of gold, no two the same, and there are few of them.
use Rattle.std.proofs.Common.{◌≡◌, ℕ, zero, suc, ◌<◌, ◌≤◌, List, length, refl, arith, subst}
use Rattle.std.proofs.lemmas.List.{get_or_default}
use Rattle.eq_net.specs.Net.{HasBit, IsNet, Parts, bits_of}
use Rattle.eq_match.specs.declared.types.Pair.{Pair}
use Rattle.eq_match.specs.Matched.{AreMatched, gold_bit}
use Rattle.eq_match.specs.Pairs.{no_pair}
use Rattle.eq_part.specs.Partitions.{HaveGoldBits}

module _ (gold gate : Parts) (pairs : List Pair) (is : AreMatched gold gate pairs) where
  -- the bits of earlier pairs come before that of pair i
  not_before : (i : ℕ) → i < length pairs → i ≤ gold_bit gold pairs i
  not_before zero lt = omega arith
  not_before (suc i) lt =
      let before = not_before i (omega arith) in
      let up = is.ordered i (suc i) (omega arith) lt in
      omega arith

  count_to : (n : ℕ) → n ≡ length pairs → n ≤ bits_of gold.nets
  count_to zero e = omega arith
  count_to (suc i) e =
      let last = not_before i (omega arith) in
      let within = is.gold_bits i (omega arith) in
      omega arith

  pub gold_bits_few : IsNet gold → HaveGoldBits gold pairs
  gold_bits_few net = record {
    there = λ i d lt. subst (λ (p : Pair). HasBit gold.nets p.gold) (get_or_default pairs i no_pair d lt)
        (is.gold_there i lt);
    once = is.gold_once;
    few = (let count = count_to (length pairs) refl in
        let covered = net.covered in
        let limited = net.limited in
        omega arith);
  }
