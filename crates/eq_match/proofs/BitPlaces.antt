-- Where the pairs of bits stand.
use Rattle.std.proofs.Common.{◌≡◌, ℕ, zero, suc, ◌+◌, ◌-◌, ◌<◌, ◌≤◌, Bool, List, [], ◌∷◌, ◌++◌, length, Option, Some, None, refl, sym, ap, subst, ◌∙◌, inl, inr, arith, length-append}
use Rattle.std.proofs.Math.ListN.{get_or-append}
use Rattle.std.proofs.Math.Seq.{get_or-append_seam}
use Rattle.std.proofs.lemmas.Bool.{cases_lt}
use Rattle.std.proofs.lemmas.List.{get_or-append-add}
use Rattle.eq_net.specs.Nets.{width_of}
use Rattle.eq_net.specs.Net.{Parts, net_at}
use Rattle.eq_match.specs.declared.types.Pair.{Pair}
use Rattle.eq_match.specs.declared.types.Partner.{Partner}
use Rattle.eq_match.specs.NetPairs.{Pairing}
use Rattle.eq_match.specs.Pairs.{bit, bits_of_net, bits_of_nets, bits_of_pair, is_input, no_pair, pair_at}
use Rattle.eq_match.specs.inner.Soundness.{IsBitPair, pair_of}

-- what stands at the end of a list
last_of : (xs : List Pair) (x : Pair) → pair_at (xs ++ x ∷ []) (length xs) ≡ x
last_of xs x = get_or-append_seam xs x [] no_pair

module _ (gold : Parts) where
  -- ---- the pairs of one net

  pub size_of_pair : (input : Bool) (k : ℕ) (q : Partner) (n : ℕ) → length (bits_of_pair input k q n) ≡ n
  size_of_pair input k q zero = refl
  size_of_pair input k q (suc n) =
      let more = length-append (bits_of_pair input k q n) (record {
        gold = bit k n;
        gate = bit q.net n;
        input = input;
        inverted = q.inverted;
      } ∷ []) in
      let rest = size_of_pair input k q n in
      omega arith

  pub at_pair : (input : Bool) (k : ℕ) (q : Partner) (n j : ℕ) → j < n → pair_at (bits_of_pair input k q n) j ≡ (record {
    gold = bit k j;
    gate = bit q.net j;
    input = input;
    inverted = q.inverted;
  })
  at_pair input k q zero j lt = absurd (omega arith)
  at_pair input k q (suc n) j lt =
      let front = bits_of_pair input k q n in
      let new : Pair = record { gold = bit k n; gate = bit q.net n; input = input; inverted = q.inverted } in
      let size = size_of_pair input k q n in
      elim (cases_lt j n) [
        | inl less ↦ get_or-append front (new ∷ []) no_pair j (omega arith) ∙ at_pair input k q n j less
        | inr ge ↦
            let e : length front ≡ j = omega arith in
            let f : n ≡ j = omega arith in
            let made : ℕ → Pair = λ i. record {
              gold = bit k i;
              gate = bit q.net i;
              input = input;
              inverted =
                  q.inverted;
            } in
            ap (λ (i : ℕ). pair_at (front ++ new ∷ []) i) (sym e) ∙ last_of front new ∙ ap made f
      ]

  pub size_of_net : (k : ℕ) (q : Partner) → length (bits_of_net gold k (Some q)) ≡ width_of (net_at gold.nets k)
  size_of_net k q = size_of_pair (is_input (net_at gold.nets k).dir) k q (width_of (net_at gold.nets k))

  pub at_net : (k : ℕ) (q : Partner) (j : ℕ) → j < width_of (net_at gold.nets k) → pair_at (bits_of_net gold k (Some
      q)) j ≡ pair_of gold k q j
  at_net k q j lt = at_pair (is_input (net_at gold.nets k).dir) k q (width_of (net_at gold.nets k)) j lt

  -- ---- of all nets

  module _ (p : Pairing) where
    -- what is there is a bit of a paired net
    bit_in_net : (n k : ℕ) (o : Option Partner) → p k ≡ o → k < n → (j : ℕ) → j < length (bits_of_net gold k o) →
        IsBitPair gold p n (pair_at (bits_of_net gold k o) j)
    bit_in_net n k None e lt j lj = absurd (omega arith)
    bit_in_net n k (Some q) e lt j lj =
        let size = size_of_net k q in
        let within : j < width_of (net_at gold.nets k) = omega arith in
        record {
          net = k;
          partner = q;
          place = j;
          below = lt;
          paired = e;
          within = within;
          pair_is = at_net k q j
              within;
        }

    lifted : (n m : ℕ) (x : Pair) → n ≤ m → IsBitPair gold p n x → IsBitPair gold p m x
    lifted n m x le b = record {
      net = b.net;
      partner = b.partner;
      place = b.place;
      below = (let lt = b.below in omega arith);
      paired = b.paired;
      within = b.within;
      pair_is = b.pair_is;
    }

    pub bit_in : (n i : ℕ) → i < length (bits_of_nets gold p n) → IsBitPair gold p n (pair_at (bits_of_nets gold p n) i)
    bit_in zero i lt = absurd (omega arith)
    bit_in (suc n) i lt =
        let front = bits_of_nets gold p n in
        let new = bits_of_net gold n (p n) in
        let size = length-append front new in
        elim (cases_lt i (length front)) [
          | inl less ↦
              subst (IsBitPair gold p (suc n)) (sym (get_or-append front new no_pair i less))
              (lifted n (suc n) (pair_at front i) (omega arith) (bit_in n i less))
          | inr ge ↦
              let j = i - length front in
              let e : length front + j ≡ i = omega arith in
              let at : pair_at (front ++ new) i ≡ pair_at new j = ap (λ (m : ℕ). pair_at (front ++ new) m) (sym e)
              ∙ get_or-append-add front new j no_pair in
              subst (IsBitPair gold p (suc n)) (sym at) (bit_in_net (suc n) n (p n) refl (omega arith) j (omega arith))
        ]

    -- each bit of a paired net is there
    pub has_bit : (n k : ℕ) (q : Partner) (j : ℕ) → k < n → p k ≡ Some q → j < width_of (net_at gold.nets k) →
        (i : ℕ) × (i < length (bits_of_nets gold p n)) × (pair_at (bits_of_nets gold p n) i ≡ pair_of gold k q j)
    has_bit zero k q j lt e lj = absurd (omega arith)
    has_bit (suc n) k q j lt e lj =
        let front = bits_of_nets gold p n in
        let new = bits_of_net gold n (p n) in
        let size = length-append front new in
        elim (cases_lt k n) [
          | inl less ↦
              let h = has_bit n k q j less e lj in
              let in_front = h.1 in
              (h.0, omega arith, get_or-append front new no_pair h.0 h.1 ∙ h.2)
          | inr ge ↦
              let one : n ≡ k = omega arith in
              let o : p n ≡ Some q = ap p one ∙ e in
              let at : bits_of_net gold n (p n) ≡ bits_of_net gold k (Some q) = ap (λ (x : Option Partner). bits_of_net
              gold n x) o
              ∙ ap (λ (m : ℕ). bits_of_net gold m (Some q)) one in
              let many : length new ≡ width_of (net_at gold.nets k) = ap (λ (xs : List Pair). length xs) at ∙
              size_of_net k q in (
                length front + j,
                omega arith,
                get_or-append-add front new j no_pair ∙ ap (λ (xs : List Pair). pair_at xs j) at ∙ at_net k q j lj,
              )
        ]
