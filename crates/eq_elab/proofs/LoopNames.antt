-- The names of the bits of a loop.
use Rattle.std.proofs.Common.{◌≡◌, ℕ, ◌<◌, List, [], ◌∷◌, All, map, refl, ap₂}
use Rattle.std.proofs.lemmas.List.Elements.{All-head, All-tail, All-cons, All-nil}
use Rattle.eq_names.specs.declared.BitName.{BitName}
use Rattle.eq_net.specs.declared.types.NetInfo.{NetInfo}
use Rattle.eq_net.specs.Net.{bits_of, number_of, HasBit}
use Rattle.eq_elab.specs.inner.Naming.{name_at, AreBits}

module _ (nets : List NetInfo) (all : List BitName) (are : AreBits nets all (bits_of nets)) where
  -- the names are those of these bits
  pub numbers_back : (bits : List ℕ) → All (λ b. b < bits_of nets) bits →
      map (number_of nets) (map (name_at all) bits) ≡ bits
  numbers_back [] h = refl
  numbers_back (b ∷ bs) h =
      ap₂ (λ n ns. n ∷ ns) (are.numbers b (All-head (λ c. c < bits_of nets) b bs h))
      (numbers_back bs (All-tail (λ c. c < bits_of nets) b bs h))

  -- and the bits are there
  pub names_there : (bits : List ℕ) → All (λ b. b < bits_of nets) bits → All (HasBit nets) (map (name_at all) bits)
  names_there [] h = All-nil (HasBit nets)
  names_there (b ∷ bs) h =
      All-cons (HasBit nets) (name_at all b) (map (name_at all) bs)
      (are.there b (All-head (λ c. c < bits_of nets) b bs h))
      (names_there bs (All-tail (λ c. c < bits_of nets) b bs h))
