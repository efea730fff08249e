-- Lines and sections make of two equal divisions the same.
use Rattle.std.proofs.Common.{◌≡◌, ℕ, zero, suc, cond, ◌<◌, ◌↔◌, inl, inr, List, [], ◌∷◌, Bool, true, None, Option, not, ◌&&◌, ◌||◌, length, arith, sym, ap, subst, ◌∙◌}
use Rattle.std.proofs.lemmas.Bool.{cases_Bool, cases_lt, false_from_ne_true}
use Rattle.eq_model.specs.Cut.{any_below}
use Rattle.eq_names.specs.declared.span.Span.{Span}
use Rattle.eq_names.specs.Patterns.{AreCaptures}
use Rattle.eq_names.specs.Templates.{IsFilled}
use Rattle.eq_net.specs.Net.{Parts, name_at}
use Rattle.eq_config.specs.declared.config.PartRule.{PartRule}
use Rattle.eq_config.specs.declared.config.PartRule.TheVariants.{Merge, Path, Rename}
use Rattle.eq_config.specs.declared.config.PartSection.{PartSection}
use Rattle.eq_match.specs.declared.types.Pair.{Pair}
use Rattle.eq_match.specs.Classes.{SameClasses, Together, touches}
use Rattle.eq_match.specs.Groups.{IsHit, is_held}
use Rattle.eq_match.specs.NetPairs.{IsFilling}
use Rattle.eq_match.specs.Pairs.{gold_net}
use Rattle.eq_part.specs.Partitions.{Division, IsFirstOf, IsRenamed, RuleMakes, RulesMake, SameDivision, SectionMakes, SectionsMake, are_several, renamed, union}
use Rattle.eq_part.specs.Reach.{AreOfOne, GoesOn, IsOnPath, LeadsIn, PartLeads, Reaches}
use Rattle.eq_part.proofs.AnyBelow.{same_below}

same_bools : (x y : Bool) → (x ≡ true → y ≡ true) → (y ≡ true → x ≡ true) → x ≡ y
same_bools x y to from = elim (cases_Bool x) [
  | inl holds ↦ holds ∙ sym (to holds)
  | inr fails ↦ fails ∙ sym (false_from_ne_true y (λ e. let t = sym fails ∙ from e in absurd (cc)))
]

-- two tests that tell the same agree
same_tests : (n : ℕ) (P Q : ℕ → Type 0) (s t : ℕ → Bool) → ((i : ℕ) → i < n → (s i ≡ true) ↔ P i) →
    ((i : ℕ) → i < n → (t i ≡ true) ↔ Q i) → ((i : ℕ) → P i → Q i) → ((i : ℕ) → Q i → P i) →
    (i : ℕ) → i < n → s i ≡ t i
same_tests n P Q s t a b to from i h =
    same_bools (s i) (t i) (λ e. (b i h).1 (to i ((a i h).0 e))) (λ e. (a i h).1 (from i ((b i h).0 e)))

same_sym : (n : ℕ) (a b : Together) → SameClasses n a b → SameClasses n b a
same_sym n a b e i j h k = sym (e i j h k)

-- what lies on a path depends on the division of the pairs alone
module _ (gold : Parts) (pairs : List Pair) (a b : Together) (same : SameClasses (length pairs) a b) where
  of_one : (i j : ℕ) → AreOfOne pairs a i j → AreOfOne pairs b i j
  of_one i j o = record {
    here = o.here;
    there = o.there;
    held_here = o.held_here;
    held_there = o.held_there;
    one = sym (same i j o.here o.there) ∙ o.one;
  }

  reaches : (q n c d : ℕ) → Reaches gold (GoesOn gold pairs a q) n c d → Reaches gold (GoesOn gold pairs b q) n c d
  reaches q zero c d r = r
  reaches q (suc n) c d r = (r.0, r.1, (λ i h e. of_one q i (r.2 i h e)), reaches q n r.0 d r.3)

  part_leads : (p q : ℕ) → PartLeads gold pairs a p q → PartLeads gold pairs b p q
  part_leads p q l = record {
    read = l.read;
    read_is = of_one p l.read l.read_is;
    output = l.output;
    output_is = of_one q l.output l.output_is;
    reads = l.reads;
    reaches = reaches q l.reads _ _ l.reaches;
  }

  leads_in : (n p q : ℕ) → LeadsIn gold pairs a n p q → LeadsIn gold pairs b n p q
  leads_in zero p q l = of_one p q l
  leads_in (suc n) p q l = (l.0, part_leads p l.0 l.1, leads_in n l.0 q l.2)

  on_path : (from to : List ℕ) (i : ℕ) → IsOnPath gold pairs a from to i → IsOnPath gold pairs b from to i
  on_path from to i p = record {
    start = p.start;
    start_hit = p.start_hit;
    steps_before = p.steps_before;
    reached = leads_in p.steps_before p.start i p.reached;
    end = p.end;
    end_hit = p.end_hit;
    steps_behind = p.steps_behind;
    leads = leads_in p.steps_behind i p.end p.leads;
  }

-- divisions that say the same of the pairs that have partitions
pub record Alike (pairs : List Pair) (d e : Division) : Type 0 where
  pub together : SameClasses (length pairs) d.together e.together
  pub called : (i : ℕ) → i < length pairs → is_held pairs i ≡ true → d.called i ≡ e.called i

module _ (pairs : List Pair) where
  -- divisions that say the same as two that are alike
  pub alike_by : (a b s t : Division) → Alike pairs a b → SameDivision (length pairs) s a →
      SameDivision (length pairs) t b → Alike pairs s t
  alike_by a b s t same x y = record {
    together = λ i j h k. x.together i j h k ∙ same.together i j h k ∙ sym (y.together i j h k);
    called = λ i h e. x.called i h ∙ same.called i h e ∙ sym (y.called i h);
  }

  module _ (s t : ℕ → Bool) (a b : Division) (marks : (i : ℕ) → i < length pairs → s i ≡ t i)
      (same : Alike pairs a b) where
    one_several : are_several pairs s a.together ≡ are_several pairs t b.together
    one_several = same_below (length pairs)
        (λ i. is_held pairs i && s i && any_below (length pairs) (λ j. is_held pairs j && s j && not (a.together i j)))
        (λ i. is_held pairs i && t i && any_below (length pairs) (λ j. is_held pairs j && t j && not (b.together i j)))
        (λ i h. ap (λ x. is_held pairs i && x && any_below (length pairs) (λ j. is_held pairs j && s j && not (a.together i j))) (marks i h) ∙
        ap (λ x. is_held pairs i && t i && x) (same_below (length pairs) (λ j. is_held pairs j && s j && not (a.together i j))
        (λ j. is_held pairs j && t j && not (b.together i j)) (λ j k.
        ap (λ x. is_held pairs j && x && not (a.together i j)) (marks j k) ∙
        ap (λ x. is_held pairs j && t j && not x) (same.together i j h k))))

    one_union : Alike pairs (union pairs s a) (union pairs t b)
    one_union = record {
      together = λ i j h k. ap (λ x. a.together i j || (x && s j)) (marks i h) ∙
          ap (λ x. a.together i j || (t i && x)) (marks j k) ∙ ap (λ x. x || (t i && t j)) (same.together i j h k);
      called = λ i h e. ap (λ x. cond (x && s i) None (a.called i)) one_several ∙
          ap (λ x. cond (are_several pairs t b.together && x) None (a.called i)) (marks i h) ∙
          ap (λ x. cond (are_several pairs t b.together && t i) None x) (same.called i h e);
    }

    one_touches : (i : ℕ) → i < length pairs →
        touches (length pairs) (is_held pairs) s a.together i ≡ touches (length pairs) (is_held pairs) t b.together i
    one_touches i h = same_below (length pairs) (λ j. is_held pairs j && s j && a.together i j)
        (λ j. is_held pairs j && t j && b.together i j)
        (λ j k. ap (λ x. is_held pairs j && x && a.together i j) (marks j k) ∙
        ap (λ x. is_held pairs j && t j && x) (same.together i j h k))

  -- the first output of which something holds is one
  first_once : (P : ℕ → Type 0) (a b : Division) → Alike pairs a b → (i j k : ℕ) → i < length pairs →
      IsFirstOf pairs a.together P i j → IsFirstOf pairs b.together P i k → j ≡ k
  first_once P a b same i j k h x y = elim (cases_lt j k) [
    | inl less ↦ absurd (y.first j less x.held (sym (same.together i j h x.within) ∙ x.one) x.holds)
    | inr past ↦ (elim (cases_lt k j) [
      | inl less ↦ absurd (x.first k less y.held (same.together i k h y.within ∙ y.one) y.holds)
      | inr more ↦ omega arith
    ])
  ]

module _ (gold : Parts) (pairs : List Pair)
    (one_capture : (pattern name : List ℕ) (s t : List Span) → AreCaptures pattern name s → AreCaptures pattern name t
    → s ≡ t)
    (one_filling : (template name : List ℕ) (spans : List Span) (s t : List ℕ) → IsFilled template name spans s →
    IsFilled template name spans t → s ≡ t) where
  filled_once : (pattern template name s t : List ℕ) → IsFilling pattern template name s →
      IsFilling pattern template name t → s ≡ t
  filled_once pattern template name s t a b =
      let P : List Span → Type 0 = λ spans. IsFilled template name spans t in
      one_filling template name a.spans s t a.filled (subst P (one_capture pattern name b.spans a.spans b.captured
      a.captured) b.filled)

  renamed_once : (pattern template : List ℕ) (a b s t : Division) → Alike pairs a b →
      IsRenamed gold pairs pattern template a s → IsRenamed gold pairs pattern template b t →
      (i : ℕ) → i < length pairs → is_held pairs i ≡ true → s.called i ≡ t.called i
  renamed_once pattern template a b s t same x y i h held = elim (x i h held) [
    | inl u ↦ (elim (y i h held) [
      | inl v ↦
          let one : v.0 ≡ u.0 = sym (first_once pairs (IsHit gold pairs pattern) a b same i u.0 v.0 h u.2 v.2) in
          let F : ℕ → Type 0 = λ j. IsFilling pattern template (name_at gold.nets (gold_net pairs j)) v.1 in
          let text : u.1 ≡ v.1 = filled_once pattern template (name_at gold.nets (gold_net pairs u.0)) u.1 v.1 u.3
          (subst F one v.3) in
          u.4 ∙ ap (λ (o : Option (List ℕ)). renamed o u.1) (same.called i h held) ∙ ap (renamed (b.called i)) text ∙ sym v.4
      | inr v ↦ absurd (v.0 u.0 u.2.within u.2.held (sym (same.together i u.0 h u.2.within) ∙ u.2.one) u.2.holds)
    ])
    | inr u ↦ (elim (y i h held) [
      | inl v ↦ absurd (u.0 v.0 v.2.within v.2.held (same.together i v.0 h v.2.within ∙ v.2.one) v.2.holds)
      | inr v ↦ u.1 ∙ same.called i h held ∙ sym v.1
    ])
  ]

  rule_once : (rule : PartRule) (a b s t : Division) → Alike pairs a b → RuleMakes gold pairs rule a s →
      RuleMakes gold pairs rule b t → Alike pairs s t
  rule_once (Merge pattern) a b s t same x y =
      let hits = same_tests (length pairs) (IsHit gold pairs pattern) (IsHit gold pairs pattern) x.0 y.0 x.1 y.1
      (λ i h. h) (λ i h. h) in
      let m : ℕ → Bool = touches (length pairs) (is_held pairs) x.0 a.together in
      let n : ℕ → Bool = touches (length pairs) (is_held pairs) y.0 b.together in
      alike_by pairs (union pairs m a) (union pairs n b) s t
      (one_union pairs m n a b (one_touches pairs x.0 y.0 a b hits same) same) x.2 y.2
  rule_once (Path from to) a b s t same x y =
      let marks = same_tests (length pairs) (IsOnPath gold pairs a.together from to)
      (IsOnPath gold pairs b.together from to) x.0 y.0 x.1 y.1
      (on_path gold pairs a.together b.together same.together from to)
      (on_path gold pairs b.together a.together (same_sym (length pairs) a.together b.together same.together) from to) in
      alike_by pairs (union pairs x.0 a) (union pairs y.0 b) s t (one_union pairs x.0 y.0 a b marks same) x.2 y.2
  rule_once (Rename pattern template) a b s t same x y = record {
    together = λ i j h k. x.0 i j h k ∙ same.together i j h k ∙ sym (y.0 i j h k);
    called = renamed_once pattern template a b s t same x.1 y.1;
  }

  rules_once : (rules : List PartRule) (a b s t : Division) → Alike pairs a b → RulesMake gold pairs rules a s →
      RulesMake gold pairs rules b t → Alike pairs s t
  rules_once [] a b s t same x y = alike_by pairs a b s t same x y
  rules_once (rule ∷ rules) a b s t same x y =
      rules_once rules x.0 y.0 s t (rule_once rule a b x.0 y.0 same x.1 y.1) x.2 y.2

  section_once : (top : List ℕ) (c : PartSection) (a b s t : Division) → Alike pairs a b →
      SectionMakes gold pairs top c a s → SectionMakes gold pairs top c b t → Alike pairs s t
  section_once top c a b s t same (inl x) (inl y) = rules_once c.rules a b s t same x.1 y.1
  section_once top c a b s t same (inl x) (inr y) = absurd (y.0 x.0)
  section_once top c a b s t same (inr x) (inl y) = absurd (x.0 y.0)
  section_once top c a b s t same (inr x) (inr y) = alike_by pairs a b s t same x.1 y.1

  pub sections_once : (top : List ℕ) (cs : List PartSection) (a b s t : Division) → Alike pairs a b →
      SectionsMake gold pairs top cs a s → SectionsMake gold pairs top cs b t → Alike pairs s t
  sections_once top [] a b s t same x y = alike_by pairs a b s t same x y
  sections_once top (c ∷ cs) a b s t same x y =
      sections_once top cs x.0 y.0 s t (section_once top c a b x.0 y.0 same x.1 y.1) x.2 y.2
