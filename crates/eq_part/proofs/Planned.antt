-- The bits of pairs by name, and partitions that are classes as lists that divide.
use Rattle.std.proofs.Common.{◌≡◌, ℕ, ◌<◌, List, [], ◌∷◌, refl, length, map, slice_index_or, sym, ap, subst, ◌∙◌}
use Rattle.std.specs.List.{All}
use Rattle.std.proofs.lemmas.List.{get_or-map, length-map}
use Rattle.eq_names.specs.declared.BitName.{BitName}
use Rattle.eq_net.specs.declared.types.NetInfo.{NetInfo}
use Rattle.eq_net.specs.Net.{HasBit, number_of}
use Rattle.eq_match.specs.declared.types.Pair.{Pair}
use Rattle.eq_match.specs.Pairs.{no_pair, pair_at}
use Rattle.eq_part.specs.inner.Tabling.{AreOnceBelow}

mapped_twice : {X Y Z : Type 0} (f : X → Y) (g : Y → Z) (xs : List X) → map g (map f xs) ≡ map (λ x. g (f x)) xs
mapped_twice f g [] = refl
mapped_twice f g (x ∷ xs) = ap (λ zs. g (f x) ∷ zs) (mapped_twice f g xs)

module _ (nets : List NetInfo) (pairs : List Pair) (name : Pair → BitName) where
  abbrev pub names : List BitName
  names = map name pairs

  abbrev pub bit_numbers : List ℕ
  bit_numbers = map (number_of nets) names

  count : length bit_numbers ≡ length pairs
  count = length-map names (number_of nets) ∙ length-map pairs name

  pub names_there : ((i : ℕ) → i < length pairs → HasBit nets (name (pair_at pairs i))) → All (HasBit nets) names
  names_there there k d lt =
      let within : k < length pairs = subst (λ (n : ℕ). k < n) (length-map pairs name) lt in
      subst (HasBit nets) (sym (get_or-map name pairs k no_pair d within)) (there k within)

  number_at : (k d : ℕ) → k < length pairs → slice_index_or bit_numbers k d ≡ number_of nets (name (pair_at pairs k))
  number_at k d lt =
      get_or-map (number_of nets) names k (name no_pair) d (subst (λ (n : ℕ). k < n) (sym (length-map pairs name)) lt) ∙
      ap (number_of nets) (get_or-map name pairs k no_pair (name no_pair) lt)

  pub once_below : (size : ℕ) →
      ((i : ℕ) → i < length pairs → number_of nets (name (pair_at pairs i)) < size) →
      ((i j : ℕ) → i < length pairs → j < length pairs →
      number_of nets (name (pair_at pairs i)) ≡ number_of nets (name (pair_at pairs j)) → i ≡ j) →
      AreOnceBelow size bit_numbers
  once_below size below once =
      let within : (i : ℕ) → i < length bit_numbers → i < length pairs = λ i lt. subst (λ (n : ℕ). i < n) count lt in
      record {
        there = λ i lt. subst (λ (n : ℕ). n < size) (sym (number_at i 0 (within i lt))) (below i (within i lt));
        once = λ i j li lj same. once i j (within i li) (within j lj)
            (sym (number_at i 0 (within i li)) ∙ same ∙ number_at j 0 (within j lj));
      }

  pub few_names : (size : ℕ) → length pairs < size → length names < size
  few_names size few = subst (λ (n : ℕ). n < size) (sym (length-map pairs name)) few

  -- the numbers, pair by pair
  pub numbers_are : bit_numbers ≡ map (λ p. number_of nets (name p)) pairs
  numbers_are = mapped_twice name (number_of nets) pairs
