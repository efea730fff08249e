-- A partition has no more outputs than gold has bits: each output is a pair of its own, and each pair has a bit of its own.
use Rattle.std.proofs.Common.{◌≡◌, ◌≢◌, ℕ, ◌<◌, ◌≤◌, List, true, Option, Some, AllPairs, eqb, length, get_or, slice_get, arith, sym, ap, subst, ◌∙◌}
use Rattle.std.proofs.lemmas.Bool.{eq-eqb}
use Rattle.std.proofs.lemmas.Bool.Decides.{Decides-eqb}
use Rattle.std.proofs.lemmas.List.Folds.{Any-from_list_any, list_any_at}
use Rattle.std.proofs.lemmas.Map.Made.{IsDistinct-from_AllPairs}
use Rattle.std.proofs.lemmas.Map.Steps.{length-le_from_distinct_below}
use Rattle.std.proofs.lemmas.Option.{same_Some, slice_get-get_or, slice_get_within}
use Rattle.eq_match.specs.Divided.{has}
use Rattle.eq_net.specs.Net.{Parts, bits_of}
use Rattle.eq_part.specs.Plans.{IsPlanOf}
use Rattle.eq_part.specs.Tables.{AreInverse, holds}
use Rattle.eq_part.specs.declared.plan.Plan.{Plan}
use Rattle.eq_cone.specs.Cut.{partition_at}

-- numbers below n, no two the same, are at most n
few_apart : (xs : List ℕ) (n : ℕ) → AllPairs (λ a b. a ≢ b) xs → ((k x : ℕ) → slice_get xs k ≡ Some x → x < n) →
    length xs ≤ n
few_apart xs n apart below =
    length-le_from_distinct_below xs n (IsDistinct-from_AllPairs Decides-eqb xs apart) (λ q found. (
    let at = Any-from_list_any (eqb q) xs found in
    let x = at.1 in
    let same : q ≡ x = (Decides-eqb q x).0 at.4 in
    subst (λ y. y < n) (sym same) (below at.0 x (slice_get-get_or xs at.0 x at.2 ∙ ap Some at.3))))

-- no two pairs have one bit
bits_apart : (bits : List ℕ) (pairs : List (Option ℕ)) → AreInverse bits pairs → AllPairs (λ a b. a ≢ b) bits
bits_apart bits pairs inverse j k d less lt same =
    let at_j = inverse.there j (get_or bits j d) (slice_get-get_or bits j d (omega arith)) in
    let at_k = inverse.there k (get_or bits k d) (slice_get-get_or bits k d lt) in
    let P : ℕ → Type 0 = λ b. slice_get pairs b ≡ Some (Some j) in
    let both : Some (Some j) ≡ Some (Some k) = sym (subst P same at_j) ∙ at_k in
    let one = same_Some j k (same_Some (Some j) (Some k) both) in
    omega arith

-- what a list has at a place is in it
has_there : (xs : List ℕ) (k x : ℕ) → slice_get xs k ≡ Some x → has x xs ≡ true
has_there xs k x at =
    let lt = slice_get_within xs k x at in
    let is = same_Some (get_or xs k x) x (sym (slice_get-get_or xs k x lt) ∙ at) in
    list_any_at (λ j. eqb j x) xs k x lt (eq-eqb (get_or xs k x) x is)

module _ (gold gate : Parts) (plan : Plan) (is_plan : IsPlanOf gold gate plan) where
  few_pairs : length plan.pairs ≤ bits_of gold.nets
  few_pairs =
      let inverse = plan.gold.inverse in
      let few = few_apart plan.gold.bits (length plan.gold.pairs) (bits_apart plan.gold.bits plan.gold.pairs inverse)
      (λ k b at. slice_get_within plan.gold.pairs b (Some k) (inverse.there k b at)) in
      let count = plan.gold_count in
      let table = is_plan.gold_table in
      omega arith

  output_is_pair : (q x : ℕ) → holds plan.parts q x ≡ true → x < length plan.pairs
  output_is_pair q x held =
      let owner = (plan.owned.owned x q).1 held in
      let within = slice_get_within plan.owners x (Some q) owner in
      let count = plan.owned.count in
      omega arith

  pub few_outputs : (q : ℕ) → length (partition_at plan q).outputs ≤ bits_of gold.nets
  few_outputs q =
      let outputs = (partition_at plan q).outputs in
      let few = few_apart outputs (length plan.pairs) (is_plan.outputs_once q)
      (λ k x at. output_is_pair q x (has_there outputs k x at)) in
      let pairs = few_pairs in
      omega arith
