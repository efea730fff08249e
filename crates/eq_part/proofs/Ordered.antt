-- Classes list their positions in order.
use Rattle.std.proofs.Common.{◌≡◌, ℕ, zero, suc, ◌<◌, Bool, List, [], ◌∷◌, ◌++◌, AllPairs, length, map, slice_index_or, arith, sym, ap, subst, ◌∙◌, inl, inr}
use Rattle.std.specs.List.{All}
use Rattle.std.proofs.Math.ListN.{get_or-map}
use Rattle.std.proofs.lemmas.Bool.{cases_lt, cond_both}
use Rattle.std.proofs.lemmas.List.{get_or_past}
use Rattle.std.proofs.lemmas.List.Elements.{All-push, All-weaker}
use Rattle.std.proofs.lemmas.List.Quantifiers.{all_pairs_push}
use Rattle.eq_match.specs.Classes.{Together, class_of, classes, classes_to, is_first, passing}
use Rattle.eq_part.specs.declared.types.Partition.{Partition}
use Rattle.eq_part.specs.Tables.{no_part}

abbrev pub InOrder : List ℕ → Type 0
InOrder positions = AllPairs (λ i j. i < j) positions

-- what passes is below n
pub passing_below : (n : ℕ) (test : ℕ → Bool) → All (λ i. i < n) (passing n test)
passing_below zero test = λ k d lt. absurd (omega arith)
passing_below (suc n) test =
    let before = All-weaker (λ i. i < n) (λ i. i < suc n) (λ i lt. omega arith) (passing n test)
    (passing_below n test) in
    cond_both (test n) (passing n test ++ n ∷ []) (passing n test) (All (λ i. i < suc n))
    (λ _. All-push (λ i. i < suc n) (passing n test) n before (omega arith)) (λ _. before)

pub passing_in_order : (n : ℕ) (test : ℕ → Bool) → InOrder (passing n test)
passing_in_order zero test = λ i j d lt within. absurd (omega arith)
passing_in_order (suc n) test =
    let before = passing_in_order n test in
    cond_both (test n) (passing n test ++ n ∷ []) (passing n test) InOrder
    (λ _. all_pairs_push (λ i j. i < j) (passing n test) n before (passing_below n test)) (λ _. before)

module _ (n : ℕ) (held : ℕ → Bool) (together : Together) where
  to_in_order : (k : ℕ) → All InOrder (classes_to n held together k)
  to_in_order zero = λ i d lt. absurd (omega arith)
  to_in_order (suc k) =
      let front = classes_to n held together k in
      let new = class_of n held together k in
      cond_both (is_first held together k) (front ++ new ∷ []) front (All InOrder)
      (λ _. All-push InOrder front new (to_in_order k) (passing_in_order n _)) (λ _. to_in_order k)

  pub classes_in_order : All InOrder (classes n held together)
  classes_in_order = to_in_order n

  -- beyond the last list there is an empty one
  list_in_order : (q : ℕ) → InOrder (slice_index_or (classes n held together) q [])
  list_in_order q = elim (cases_lt q (length (classes n held together))) [
    | inl less ↦ classes_in_order q [] less
    | inr past ↦ subst InOrder (sym (get_or_past (classes n held together) q [] past))
        (λ i j d lt within. absurd (omega arith))
  ]

  pub outputs_in_order : (parts : List Partition) →
      map (λ (p : Partition). p.outputs) parts ≡ classes n held together →
      (q : ℕ) → InOrder (slice_index_or parts q no_part).outputs
  outputs_in_order parts are q =
      subst InOrder (ap (λ (ls : List (List ℕ)). slice_index_or ls q []) (sym are) ∙
      get_or-map (λ (p : Partition). p.outputs) parts q no_part) (list_in_order q)
