-- A configuration makes one list of partitions.
use Rattle.std.proofs.Common.{◌≡◌, ℕ, zero, suc, cond, ◌<◌, ◌≤◌, List, [], ◌∷◌, ◌++◌, Bool, not, ◌&&◌, length, map, refl, arith, sym, ap, ◌∙◌}
use Rattle.eq_names.specs.declared.span.Span.{Span}
use Rattle.eq_names.specs.Patterns.{AreCaptures}
use Rattle.eq_names.specs.Templates.{IsFilled}
use Rattle.eq_net.specs.Net.{Parts}
use Rattle.eq_config.specs.declared.config.Config.{Config}
use Rattle.eq_match.specs.declared.types.Pair.{Pair}
use Rattle.eq_match.specs.Classes.{SameClasses, Together, class_of, classes, classes_to, is_first, passing}
use Rattle.eq_match.specs.Groups.{is_held}
use Rattle.eq_part.specs.declared.types.Partition.{Partition}
use Rattle.eq_part.specs.Partitions.{ArePartitions, from_groups}
use Rattle.eq_part.proofs.AnyBelow.{same_below}
use Rattle.eq_part.proofs.OneDivision.{Alike, alike_by, sections_once}

-- equal divisions have the same classes
same_passing : (n : ℕ) (s t : ℕ → Bool) → ((i : ℕ) → i < n → s i ≡ t i) → passing n s ≡ passing n t
same_passing zero s t all = refl
same_passing (suc n) s t all =
    ap (λ x. cond x (passing n s ++ n ∷ []) (passing n s)) (all n (omega arith)) ∙
    ap (λ xs. cond (t n) (xs ++ n ∷ []) xs) (same_passing n s t (λ i h. all i (omega arith)))

module _ (n : ℕ) (held : ℕ → Bool) (a b : Together) (same : SameClasses n a b) where
  same_first : (k : ℕ) → k < n → is_first held a k ≡ is_first held b k
  same_first k h = ap (λ x. held k && not x)
      (same_below k (λ j. held j && a k j) (λ j. held j && b k j) (λ j l. ap (λ x. held j && x) (same k j h (omega arith))))

  same_class : (k : ℕ) → k < n → class_of n held a k ≡ class_of n held b k
  same_class k h = same_passing n (λ j. held j && a k j) (λ j. held j && b k j) (λ j l. ap (λ x. held j && x) (same k j h l))

  same_to : (k : ℕ) → k ≤ n → classes_to n held a k ≡ classes_to n held b k
  same_to zero h = refl
  same_to (suc k) h =
      ap (λ x. cond x (classes_to n held a k ++ class_of n held a k ∷ []) (classes_to n held a k)) (same_first k (omega arith)) ∙
      ap (λ xs. cond (is_first held b k) (classes_to n held a k ++ xs ∷ []) (classes_to n held a k)) (same_class k (omega arith)) ∙
      ap (λ cs. cond (is_first held b k) (cs ++ class_of n held b k ∷ []) cs) (same_to k (omega arith))

  pub same_classes : classes n held a ≡ classes n held b
  same_classes = same_to n (omega arith)

module _ (gold : Parts) (pairs : List Pair) (groups : List (List ℕ)) (c : Config) (ps qs : List Partition)
    (x : ArePartitions gold pairs groups c ps) (y : ArePartitions gold pairs groups c qs)
    (one_capture : (pattern name : List ℕ) (s t : List Span) → AreCaptures pattern name s → AreCaptures pattern name t
    → s ≡ t)
    (one_filling : (template name : List ℕ) (spans : List Span) (s t : List ℕ) → IsFilled template name spans s →
    IsFilled template name spans t → s ≡ t) where
  pub one_division : Alike pairs x.division y.division
  one_division = sections_once gold pairs one_capture one_filling c.gold.top c.partitions x.first y.first x.division
      y.division (alike_by pairs (from_groups groups) (from_groups groups) x.first y.first
      (record { together = λ i j h k. refl; called = λ i h e. refl }) x.begins y.begins) x.lines y.lines

  pub outputs_once : map (λ (p : Partition). p.outputs) ps ≡ map (λ (p : Partition). p.outputs) qs
  outputs_once = x.outputs_are ∙
      same_classes (length pairs) (is_held pairs) x.division.together y.division.together one_division.together ∙
      sym y.outputs_are
