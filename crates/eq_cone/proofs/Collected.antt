-- Numbers in order, and the pairs of cuts.
use Rattle.std.proofs.Common.{◌≡◌, ℕ, ◌+◌, ◌<◌, ◌↔◌, List, [], nat_eq, position, Option, Some, None, IfSome, Contains, length, arith, refl, sym, ap, subst, inl, inr, IsSorted}
use Rattle.std.specs.Ordering.{nat_cmp}
use Rattle.std.specs.List.{IsDistinct}
use Rattle.std.proofs.lemmas.Bool.{cases_lt, eqb-true}
use Rattle.std.proofs.lemmas.List.Elements.{Contains-append_cases, Contains-get_or}
use Rattle.std.proofs.lemmas.List.Kept.{AllPairs-from_increasing}
use Rattle.std.proofs.lemmas.List.Quantifiers.{position-Some}
use Rattle.std.proofs.lemmas.List.Sorted.{IsNonDecreasingBy-from_sort}
use Rattle.std.proofs.lemmas.Map.Keys.{IsStrictlyIncreasing-from_distinct}
use Rattle.eq_cone.specs.inner.Cones.{AreAscending, AreInputs, IsPlace, Reached, number_at, pairs_of}
use Rattle.eq_cone.proofs.Reaching.{contains_nothing, contains_one, still_there}

pub place_found : (o : Option ℕ) (m : ℕ) (xs : List ℕ) → o ≡ position (nat_eq m) xs → IfSome o (λ k. IsPlace xs m k)
place_found None m xs e = tt
place_found (Some k) m xs e =
    let found = position-Some (nat_eq m) xs k 0 (sym e) in
    (found.0, sym (eqb-true m (number_at xs k) found.1))

pub sorted_ascend : (xs : List ℕ) → IsSorted nat_cmp xs → IsDistinct nat_eq xs → AreAscending xs
sorted_ascend xs sorted distinct = AllPairs-from_increasing xs
    (IsStrictlyIncreasing-from_distinct xs (IsNonDecreasingBy-from_sort (λ x. x) xs sorted) distinct)

module _ (cut : ℕ → Option ℕ) (cone : List ℕ) where
  pub inputs_begin : AreInputs cut cone [] 0
  inputs_begin = record { has = λ k i lt. absurd (omega arith); only = λ i c. absurd (contains_nothing i c) }

  of_pair : (o : Option ℕ) (i : ℕ) → Contains (pairs_of o) i → o ≡ Some i
  of_pair None i c = absurd (contains_nothing i c)
  of_pair (Some j) i c = ap (λ (x : ℕ). Some x) (contains_one j i c)

  pair_there : (o : Option ℕ) (i : ℕ) → o ≡ Some i → Contains (pairs_of o) i
  pair_there o i e = subst (λ (x : Option ℕ). Contains (pairs_of x) i) (sym e) (0, omega arith, refl)

  pub inputs_on : (old new : List ℕ) (n : ℕ) → n < length cone → AreInputs cut cone old n →
      Reached old new (pairs_of (cut (number_at cone n))) → AreInputs cut cone new (n + 1)
  inputs_on old new n lt are reached = record {
    has = λ k i less there e. elim (cases_lt k n) [
      | inl before ↦ still_there old new (pairs_of (cut (number_at cone n))) reached i (are.has k i before there e)
      | inr now ↦ (
          let here : k ≡ n = omega arith in
          let P : ℕ → Type 0 = λ x. cut (number_at cone x) ≡ Some i in
          reached.has i (pair_there (cut (number_at cone n)) i (subst P here e)))
    ];
    only = λ i c. elim (Contains-append_cases old reached.more i (subst (λ (l : List ℕ). Contains l i) reached.is c)) [
      | inl before ↦ are.only i before
      | inr more ↦ (
        number_at cone n,
        Contains-get_or cone n 0 lt,
        of_pair (cut (number_at cone n)) i (reached.only i more),
      )
    ];
  }

  -- the same inputs in another order
  pub inputs_reordered : (old new : List ℕ) (n : ℕ) → ((m : ℕ) → Contains old m ↔ Contains new m) →
      AreInputs cut cone old n → AreInputs cut cone new n
  inputs_reordered old new n same are = record {
    has = λ k i less there e. (same i).0 (are.has k i less there e);
    only = λ i c. are.only i ((same i).1 c);
  }
