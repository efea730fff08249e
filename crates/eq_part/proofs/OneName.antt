-- Partitions have one name each, since each has a first output.
use Rattle.std.proofs.Common.{◌≡◌, ℕ, zero, suc, cond, ◌<◌, ◌≤◌, ◌⊎◌, inl, inr, List, [], ◌∷◌, ◌++◌, Bool, true, Some, ◌&&◌, drop, length, map, slice_get, slice_index_or, refl, arith, sym, ap, subst, ◌∙◌}
use Rattle.std.specs.List.{All}
use Rattle.std.proofs.lemmas.Bool.{and_parts, and_from, cases_Bool, cases_lt, cond_both, eq-eqb, or_left}
use Rattle.std.proofs.lemmas.List.Elements.{All-push}
use Rattle.eq_names.specs.declared.span.Span.{Span}
use Rattle.eq_names.specs.Patterns.{AreCaptures}
use Rattle.eq_names.specs.Templates.{IsFilled}
use Rattle.eq_net.specs.Net.{Parts}
use Rattle.eq_config.specs.declared.config.Config.{Config}
use Rattle.eq_config.specs.declared.config.PartRule.{PartRule}
use Rattle.eq_config.specs.declared.config.PartRule.TheVariants.{Merge, Path, Rename}
use Rattle.eq_config.specs.declared.config.PartSection.{PartSection}
use Rattle.eq_match.specs.declared.types.Pair.{Pair}
use Rattle.eq_match.specs.Classes.{Together, class_of, classes_to, is_first, passing}
use Rattle.eq_match.specs.Groups.{is_held}
use Rattle.eq_part.specs.declared.types.Partition.{Partition}
use Rattle.eq_part.specs.Partitions.{ArePartitions, Division, IsNameOf, RuleMakes, RulesMake, SameDivision, SectionMakes, SectionsMake}
use Rattle.eq_part.proofs.OneDivision.{Alike}
use Rattle.eq_part.proofs.OneList.{one_division, outputs_once}

-- each position stands with itself
module _ (gold : Parts) (pairs : List Pair) where
  abbrev IsWhole : Division → Type 0
  IsWhole d = (i : ℕ) → i < length pairs → d.together i i ≡ true

  whole_by : (a s : Division) → IsWhole a → SameDivision (length pairs) s a → IsWhole s
  whole_by a s w e i h = e.together i i h h ∙ w i h

  rule_whole : (rule : PartRule) (a s : Division) → IsWhole a → RuleMakes gold pairs rule a s → IsWhole s
  rule_whole (Merge pattern) a s w x i h = x.2.together i i h h ∙ or_left (a.together i i) _ (w i h)
  rule_whole (Path from to) a s w x i h = x.2.together i i h h ∙ or_left (a.together i i) _ (w i h)
  rule_whole (Rename pattern template) a s w x i h = x.0 i i h h ∙ w i h

  rules_whole : (rules : List PartRule) (a s : Division) → IsWhole a → RulesMake gold pairs rules a s → IsWhole s
  rules_whole [] a s w x = whole_by a s w x
  rules_whole (rule ∷ rules) a s w x = rules_whole rules x.0 s (rule_whole rule a x.0 w x.1) x.2

  section_whole : (top : List ℕ) (c : PartSection) (a s : Division) → IsWhole a → SectionMakes gold pairs top c a s → IsWhole s
  section_whole top c a s w (inl x) = rules_whole c.rules a s w x.1
  section_whole top c a s w (inr x) = whole_by a s w x.1

  pub sections_whole : (top : List ℕ) (cs : List PartSection) (a s : Division) → IsWhole a →
      SectionsMake gold pairs top cs a s → IsWhole s
  sections_whole top [] a s w x = whole_by a s w x
  sections_whole top (c ∷ cs) a s w x = sections_whole top cs x.0 s (section_whole top c a x.0 w x.1) x.2

-- a list begins with a number below n that passes
abbrev Begins : ℕ → (ℕ → Bool) → List ℕ → Type 0
Begins n test list = (i : ℕ) × (more : List ℕ) × (list ≡ i ∷ more) × (i < n) × (test i ≡ true)

begins : (n : ℕ) (test : ℕ → Bool) → ((passing n test ≡ []) × ((m : ℕ) → m < n → test m ≡ true → ⊥)) ⊎ Begins n test (passing n test)
begins zero test = inl (refl, (λ m h e. absurd (omega arith)))
begins (suc n) test =
    let F : Bool → List ℕ = λ x. cond x (passing n test ++ n ∷ []) (passing n test) in
    elim (cases_Bool (test n)) [
      | inl passes ↦ (elim (begins n test) [
        | inl none ↦ inr (n, [], ap F passes ∙ ap (λ (xs : List ℕ). xs ++ n ∷ []) none.0, omega arith, passes)
        | inr s ↦ inr (s.0, s.1 ++ n ∷ [], ap F passes ∙ ap (λ (xs : List ℕ). xs ++ n ∷ []) s.2, omega (arith, s.3), s.4)
      ])
      | inr fails ↦ (elim (begins n test) [
        | inl none ↦ inl (
          ap F fails ∙ none.0,
          (λ m h e. elim (cases_lt m n) [
            | inl less ↦ none.1 m less e
            | inr past ↦ (let same : m ≡ n = omega arith in let t = sym e ∙ ap test same ∙ fails in absurd (cc))
          ]),
        )
        | inr s ↦ inr (s.0, s.1, ap F fails ∙ s.2, omega (arith, s.3), s.4)
      ])
    ]

module _ (n : ℕ) (held : ℕ → Bool) (t : Together) (whole : (i : ℕ) → i < n → t i i ≡ true) where
  class_begins : (k : ℕ) → k < n → is_first held t k ≡ true → Begins n held (class_of n held t k)
  class_begins k h e = elim (begins n (λ j. held j && t k j)) [
    | inl none ↦ absurd (none.1 k h (and_from (held k) (t k k) (and_parts (held k) _ e).0 (whole k h)))
    | inr s ↦ (s.0, s.1, s.2, s.3, (and_parts (held s.0) (t k s.0) s.4).0)
  ]

  to_begin : (k : ℕ) → k ≤ n → All (Begins n held) (classes_to n held t k)
  to_begin zero h = λ i d lt. absurd (omega arith)
  to_begin (suc k) h =
      let front = classes_to n held t k in
      let new = class_of n held t k in
      cond_both (is_first held t k) (front ++ new ∷ []) front (All (Begins n held))
      (λ e. All-push (Begins n held) front new (to_begin k (omega arith)) (class_begins k (omega arith) e)) (λ _. to_begin k (omega arith))

-- two names of one position
default_once : (gold : Parts) (pairs : List Pair) (a b : Division) → Alike pairs a b → (i : ℕ) → i < length pairs →
    is_held pairs i ≡ true → (s t : List ℕ) → IsNameOf gold pairs a i s → IsNameOf gold pairs b i t → s ≡ t
default_once gold pairs a b same i h held s t (inl x) (inl y) = let e = same.called i h held in cc
default_once gold pairs a b same i h held s t (inl x) (inr y) = let e = same.called i h held in let f = y.0 in absurd (cc)
default_once gold pairs a b same i h held s t (inr x) (inl y) = let e = same.called i h held in let f = x.0 in absurd (cc)
default_once gold pairs a b same i h held s t (inr (c, inl x)) (inr (d, inl y)) = x.1 ∙ sym y.1
default_once gold pairs a b same i h held s t (inr (c, inl x)) (inr (d, inr y)) =
    absurd (y.0 (λ j k e. sym (same.together i j h k) ∙ x.0 j k e))
default_once gold pairs a b same i h held s t (inr (c, inr x)) (inr (d, inl y)) =
    absurd (x.0 (λ j k e. same.together i j h k ∙ y.0 j k e))
default_once gold pairs a b same i h held s t (inr (c, inr x)) (inr (d, inr y)) = x.1 ∙ sym y.1

abbrev outputs_of : List Partition → List (List ℕ)
outputs_of parts = map (λ (p : Partition). p.outputs) parts

same_lists : (n : ℕ) (held : ℕ → Bool) (ps qs : List Partition) → outputs_of ps ≡ outputs_of qs →
    All (Begins n held) (outputs_of ps) →
    ((k i : ℕ) (p q : Partition) (more : List ℕ) → slice_get ps k ≡ Some p → slice_get qs k ≡ Some q →
    p.outputs ≡ i ∷ more → q.outputs ≡ i ∷ more → i < n → held i ≡ true → p.name ≡ q.name) → ps ≡ qs
same_lists n held [] [] e all names = refl
same_lists n held [] (q ∷ qs) e all names = absurd (cc)
same_lists n held (p ∷ ps) [] e all names = absurd (cc)
same_lists n held (p ∷ ps) (q ∷ qs) e all names =
    let first : p.outputs ≡ q.outputs = ap (λ (ls : List (List ℕ)). slice_index_or ls 0 []) e in
    let rest : outputs_of ps ≡ outputs_of qs = ap (λ (ls : List (List ℕ)). drop 1 ls) e in
    let s : Begins n held p.outputs = all 0 [] (omega arith) in
    let name = names 0 s.0 p q s.1 refl refl s.2 (sym first ∙ s.2) s.3 s.4 in
    let made : List ℕ → List ℕ → Partition = λ n o. record { name = n; outputs = o } in
    let one : p ≡ q = ap (λ n. made n p.outputs) name ∙ ap (made q.name) first in
    ap (λ x. x ∷ ps) one ∙ ap (λ (xs : List Partition). q ∷ xs) (same_lists n held ps qs rest (λ i d l. all (suc i) d (omega (arith, l)))
    (λ k i. names (suc k) i))

module _ (gold : Parts) (pairs : List Pair) (groups : List (List ℕ)) (c : Config) (ps qs : List Partition)
    (x : ArePartitions gold pairs groups c ps) (y : ArePartitions gold pairs groups c qs)
    (one_capture : (pattern name : List ℕ) (s t : List Span) → AreCaptures pattern name s → AreCaptures pattern name t
    → s ≡ t)
    (one_filling : (template name : List ℕ) (spans : List Span) (s t : List ℕ) → IsFilled template name spans s →
    IsFilled template name spans t → s ≡ t) where
  whole : (i : ℕ) → i < length pairs → x.division.together i i ≡ true
  whole = sections_whole gold pairs c.gold.top c.partitions x.first x.division
      (λ i h. x.begins.together i i h h ∙ or_left _ _ (eq-eqb i i refl)) x.lines

  pub partitions_once : ps ≡ qs
  partitions_once = same_lists (length pairs) (is_held pairs) ps qs
      (outputs_once gold pairs groups c ps qs x y one_capture one_filling)
      (subst (All (Begins (length pairs) (is_held pairs))) (sym x.outputs_are)
      (to_begin (length pairs) (is_held pairs) x.division.together whole (length pairs) (omega arith)))
      (λ k i p q more u v a b h held. default_once gold pairs x.division y.division
      (one_division gold pairs groups c ps qs x y one_capture one_filling) i h held p.name q.name
      (x.names_are k i p more u a) (y.names_are k i q more v b))
