-- Pairs stand in the order of gold's bits.
use Rattle.std.proofs.Common.{◌≡◌, ℕ, zero, suc, ◌+◌, ◌-◌, ◌<◌, ◌≤◌, List, ◌++◌, length, Option, Some, None, sym, ap, subst, ◌∙◌, inl, inr, arith, length-append}
use Rattle.std.proofs.Math.ListN.{get_or-append}
use Rattle.std.proofs.lemmas.Bool.{cases_lt}
use Rattle.std.proofs.lemmas.List.{get_or-append-add}
use Rattle.eq_net.specs.Net.{Parts, number_of, offset}
use Rattle.eq_match.specs.declared.types.Pair.{Pair}
use Rattle.eq_match.specs.declared.types.Partner.{Partner}
use Rattle.eq_match.specs.Matched.{gold_bit}
use Rattle.eq_match.specs.NetPairs.{Pairing}
use Rattle.eq_match.specs.Pairs.{bits_of_net, bits_of_nets, no_pair, pair_at}
use Rattle.eq_match.proofs.BitPlaces.{at_net, bit_in, size_of_net}
use Rattle.eq_match.proofs.BitsInNets.{ends_before}

module _ (gold : Parts) (p : Pairing) where
  number : Pair → ℕ
  number x = number_of gold.nets x.gold

  -- the bits of the first n nets come before net n's
  before_net : (n i : ℕ) → n ≤ length gold.nets → i < length (bits_of_nets gold p n) →
      number (pair_at (bits_of_nets gold p n) i) < offset gold.nets n
  unfolding number
  before_net n i le lt =
      let b = bit_in gold p n i lt in
      let ends = ends_before gold.nets b.net n b.below (let l = b.below in omega arith) in
      let w = b.within in
      let P : Pair → Type 0 = λ x. number_of gold.nets x.gold < offset gold.nets n in
      subst P (sym b.pair_is) (omega arith)

  at_number : (n : ℕ) (o : Option Partner) (j : ℕ) → j < length (bits_of_net gold n o) →
      number (pair_at (bits_of_net gold n o) j) ≡ offset gold.nets n + j
  unfolding number
  at_number n None j lt = absurd (omega arith)
  at_number n (Some q) j lt =
      let size = size_of_net gold n q in
      ap (λ (x : Pair). number_of gold.nets x.gold) (at_net gold n q j (omega arith))

  in_order : (n i j : ℕ) → n ≤ length gold.nets → i < j → j < length (bits_of_nets gold p n) →
      number (pair_at (bits_of_nets gold p n) i) < number (pair_at (bits_of_nets gold p n) j)
  in_order zero i j le lt lj = absurd (omega arith)
  in_order (suc n) i j le lt lj =
      let front = bits_of_nets gold p n in
      let new = bits_of_net gold n (p n) in
      let size = length-append front new in
      elim (cases_lt j (length front)) [
        | inl less ↦
            let a : number (pair_at (front ++ new) i) ≡ number (pair_at front i) = ap number (get_or-append front new
            no_pair i (omega arith)) in
            let b : number (pair_at (front ++ new) j) ≡ number (pair_at front j) = ap number (get_or-append front new
            no_pair j less) in
            let h = in_order n i j (omega arith) lt less in
            omega arith
        | inr ge ↦
            let m = j - length front in
            let e : length front + m ≡ j = omega arith in
            let b : number (pair_at (front ++ new) j) ≡ offset gold.nets n + m =
            ap (λ (x : ℕ). number (pair_at (front ++ new) x)) (sym e) ∙ ap number (get_or-append-add front new m
            no_pair)
            ∙ at_number n (p n) m (omega arith) in
            elim (cases_lt i (length front)) [
              | inl less ↦
                  let a : number (pair_at (front ++ new) i) ≡ number (pair_at front i) = ap number (get_or-append front
                  new no_pair i less) in
                  let h = before_net n i (omega arith) less in
                  omega arith
              | inr past ↦
                  let l = i - length front in
                  let f : length front + l ≡ i = omega arith in
                  let a : number (pair_at (front ++ new) i) ≡ offset gold.nets n + l =
                  ap (λ (x : ℕ). number (pair_at (front ++ new) x)) (sym f) ∙ ap number (get_or-append-add front new l
                  no_pair)
                  ∙ at_number n (p n) l (omega arith) in
                  omega arith
            ]
      ]

  abbrev All : List Pair
  All = bits_of_nets gold p (length gold.nets)

  pub ordered : (i j : ℕ) → i < j → j < length All → gold_bit gold All i < gold_bit gold All j
  unfolding number
  ordered i j lt lj = in_order (length gold.nets) i j (omega arith) lt lj

  pub gold_once : (i j : ℕ) → i < length All → j < length All → gold_bit gold All i ≡ gold_bit gold All j → i ≡ j
  gold_once i j li lj e = elim (cases_lt i j) [
    | inl less ↦ (let h = ordered i j less lj in absurd (omega arith))
    | inr ge ↦ (elim (cases_lt j i) [
      | inl less ↦ (let h = ordered j i less li in absurd (omega arith))
      | inr le ↦ omega arith
    ])
  ]
