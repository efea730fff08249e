-- Bits by their numbers: where the first bits of nets stand, each bit of a net is one of the row.
use Rattle.std.proofs.Common.{◌≡◌, ℕ, zero, suc, ◌+◌, ◌<◌, List, [], ◌∷◌, length, slice_index_or, Option, Some, None, arith, sym, ap, ◌∙◌}
use Rattle.std.specs.Prelude.{All}
use Rattle.std.proofs.lemmas.Option.{slice_get-get_or}
use Rattle.eq_names.specs.declared.BitName.{BitName}
use Rattle.eq_net.specs.declared.types.NetInfo.{NetInfo}
use Rattle.eq_net.specs.Meaning.{if_there}
use Rattle.eq_net.specs.Nets.{width_of}
use Rattle.eq_net.specs.Net.{HasBit, bits_of, net_at, number_of, offset}
use Rattle.eq_flatten.specs.Driving.{number_in, AreWired}
use Rattle.eq_flatten.specs.Equating.{AreNumbered, AreStarts}

-- a bit of a net is one of all bits
bit_below : (nets : List NetInfo) (k j : ℕ) → k < length nets → j < width_of (net_at nets k) →
    offset nets k + j < bits_of nets
bit_below [] k j there inside = absurd (omega (arith, there))
bit_below (n ∷ ns) zero j there inside = omega (arith, inside)
bit_below (n ∷ ns) (suc k) j there inside = (let h = bit_below ns k j (omega (arith, there)) inside in omega (arith, h))

module _ (nets : List NetInfo) (starts : List ℕ) (are : AreStarts nets starts) where
  -- its number
  numbers_agree : (b : BitName) → HasBit nets b → number_of nets b ≡ number_in starts b
  numbers_agree b has = ap (λ n. n + b.bit) (sym (are.are b.net has.0))

  -- which is one of all bits
  pub bits_inside : (bits : List BitName) (m : ℕ) → m ≡ bits_of nets → All (HasBit nets) bits →
      All (λ (b : BitName). (b.net < length starts) × (number_in starts b < m)) bits
  bits_inside bits m size has k d inside =
      let b = slice_index_or bits k d in
      let h : HasBit nets b = has k d inside in
      let below = bit_below nets b.net b.bit h.0 h.1 in
      let same = numbers_agree b h in
      let long = are.size in
      let net = h.0 in
      (omega (arith, net, long), omega (arith, below, same, size))

  pub numbered_wired : (bits : List BitName) (f : ℕ → Option ℕ) → All (HasBit nets) bits → AreNumbered nets bits f →
      AreWired starts bits f
  numbered_wired bits f has numbered j d inside =
      sym (numbered j)
      ∙ ap (λ (o : Option BitName). if_there None (λ (b : BitName). Some (number_of nets b)) o) (slice_get-get_or bits j d inside)
      ∙ ap (λ n. Some n) (numbers_agree (slice_index_or bits j d) (has j d inside))
