-- Lines and sections make of two equal divisions the same.
use Rattle.std.proofs.Common.{◌≡◌, ℕ, zero, suc, cond, ◌++◌, ◌<◌, ◌≤◌, inl, inr, List, [], ◌∷◌, Bool, true, false, not, ◌&&◌, ◌||◌, eqb, length, refl, arith, sym, ap, ◌∙◌}
use Rattle.std.proofs.lemmas.Bool.{cases_Bool, eqb-true, false_from_ne_true}
use Rattle.eq_net.specs.Net.{Parts}
use Rattle.eq_config.specs.declared.config.CollectRule.{CollectRule}
use Rattle.eq_config.specs.declared.config.CollectRule.TheVariants.{Solo, Group, Join}
use Rattle.eq_config.specs.declared.config.CollectSection.{CollectSection}
use Rattle.eq_config.specs.declared.config.Config.{Config}
use Rattle.eq_match.specs.declared.types.Pair.{Pair}
use Rattle.eq_match.specs.Classes.{SameClasses, Together, alone, class_of, classes, classes_to, gathered, is_first, passing, touches, united}
use Rattle.eq_match.specs.Groups.{AreGroups, LineMakes, LinesMake, SectionCollects, SectionsCollect, TellsHits, by_net, collected, is_held, pattern_of}
use Rattle.eq_match.specs.Leaders.{leader_at, one_leader}
use Rattle.eq_match.proofs.AnyBelow.{same_below}

same_bools : (x y : Bool) → (x ≡ true → y ≡ true) → (y ≡ true → x ≡ true) → x ≡ y
same_bools x y to from = elim (cases_Bool x) [
  | inl holds ↦ holds ∙ sym (to holds)
  | inr fails ↦ fails ∙ sym (false_from_ne_true y (λ e. let t = sym fails ∙ from e in absurd (cc)))
]

-- two tests that tell the hits of a pattern agree
pub same_hits : (gold : Parts) (pairs : List Pair) (pattern : List ℕ) (s t : ℕ → Bool) → TellsHits gold pairs pattern s →
    TellsHits gold pairs pattern t → (i : ℕ) → i < length pairs → s i ≡ t i
same_hits gold pairs pattern s t a b i h =
    same_bools (s i) (t i) (λ e. (b i h).1 ((a i h).0 e)) (λ e. (a i h).1 ((b i h).0 e))

module _ (n : ℕ) (s t : ℕ → Bool) (a b : Together) (hits : (i : ℕ) → i < n → s i ≡ t i) (same : SameClasses n a b) where
  same_alone : SameClasses n (alone s a) (alone t b)
  same_alone i j h k =
      ap (λ x. eqb i j || (not x && not (s j) && a i j)) (hits i h) ∙
      ap (λ x. eqb i j || (not (t i) && not x && a i j)) (hits j k) ∙
      ap (λ x. eqb i j || (not (t i) && not (t j) && x)) (same i j h k)

  pub same_gathered : SameClasses n (gathered s a) (gathered t b)
  same_gathered i j h k =
      ap (λ x. (x && s j) || (not x && not (s j) && a i j)) (hits i h) ∙
      ap (λ x. (t i && x) || (not (t i) && not x && a i j)) (hits j k) ∙
      ap (λ x. (t i && t j) || (not (t i) && not (t j) && x)) (same i j h k)

  pub same_united : SameClasses n (united s a) (united t b)
  same_united i j h k =
      ap (λ x. a i j || (x && s j)) (hits i h) ∙ ap (λ x. a i j || (t i && x)) (hits j k) ∙
      ap (λ x. x || (t i && t j)) (same i j h k)

  pub same_touches : (held : ℕ → Bool) (i : ℕ) → i < n → touches n held s a i ≡ touches n held t b i
  same_touches held i h = same_below n (λ j. held j && s j && a i j) (λ j. held j && t j && b i j)
      (λ j k. ap (λ x. held j && x && a i j) (hits j k) ∙ ap (λ x. held j && t j && x) (same i j h k))

pub same_collected : (pairs : List Pair) (rule : CollectRule) (s t : ℕ → Bool) (a b : Together) →
    ((i : ℕ) → i < length pairs → s i ≡ t i) → SameClasses (length pairs) a b →
    SameClasses (length pairs) (collected pairs rule s a) (collected pairs rule t b)
same_collected pairs (Solo pattern) s t a b hits same = same_alone (length pairs) s t a b hits same
same_collected pairs (Group pattern) s t a b hits same = same_gathered (length pairs) s t a b hits same
same_collected pairs (Join pattern) s t a b hits same =
    same_united (length pairs) (touches (length pairs) (is_held pairs) s a) (touches (length pairs) (is_held pairs) t b) a b
    (same_touches (length pairs) s t a b hits same (is_held pairs)) same

module _ (gold : Parts) (pairs : List Pair) where
  abbrev pub Same : Together → Together → Type 0
  Same = SameClasses (length pairs)

  pub same_sym : (a b : Together) → Same a b → Same b a
  same_sym a b e i j h k = sym (e i j h k)

  pub same_trans : (a b c : Together) → Same a b → Same b c → Same a c
  same_trans a b c e f i j h k = e i j h k ∙ f i j h k

  one_line : (rule : CollectRule) (a b s t : Together) → Same a b → LineMakes gold pairs rule a s →
      LineMakes gold pairs rule b t → Same s t
  one_line rule a b s t same x y i j h k =
      x.2 i j h k ∙
      same_collected pairs rule x.0 y.0 a b (same_hits gold pairs (pattern_of rule) x.0 y.0 x.1 y.1) same i j h k ∙
      sym (y.2 i j h k)

  one_list : (rules : List CollectRule) (a b s t : Together) → Same a b → LinesMake gold pairs rules a s →
      LinesMake gold pairs rules b t → Same s t
  one_list [] a b s t same x y = same_trans s a t x (same_trans a b t same (same_sym t b y))
  one_list (rule ∷ rules) a b s t same x y =
      one_list rules x.0 y.0 s t (one_line rule a b x.0 y.0 same x.1 y.1) x.2 y.2

  one_section : (top : List ℕ) (c : CollectSection) (a b s t : Together) → Same a b → SectionCollects gold pairs top c a s →
      SectionCollects gold pairs top c b t → Same s t
  one_section top c a b s t same (inl x) (inl y) = one_list c.rules a b s t same x.1 y.1
  one_section top c a b s t same (inl x) (inr y) = absurd (y.0 x.0)
  one_section top c a b s t same (inr x) (inl y) = absurd (x.0 y.0)
  one_section top c a b s t same (inr x) (inr y) = same_trans s a t x.1 (same_trans a b t same (same_sym t b y.1))

  pub one_division : (top : List ℕ) (cs : List CollectSection) (a b s t : Together) → Same a b →
      SectionsCollect gold pairs top cs a s → SectionsCollect gold pairs top cs b t → Same s t
  one_division top [] a b s t same x y = same_trans s a t x (same_trans a b t same (same_sym t b y))
  one_division top (c ∷ cs) a b s t same x y =
      one_division top cs x.0 y.0 s t (one_section top c a b x.0 y.0 same x.1 y.1) x.2 y.2

  -- a division that lines were applied to may be replaced by an equal one
  line_from : (rule : CollectRule) (a b s : Together) → Same a b → LineMakes gold pairs rule b s → LineMakes gold pairs rule a s
  line_from rule a b s same x = (
    x.0,
    x.1,
    same_trans s (collected pairs rule x.0 b) (collected pairs rule x.0 a) x.2
        (same_collected pairs rule x.0 x.0 b a (λ i h. refl) (same_sym a b same)),
  )

  lines_from : (rules : List CollectRule) (a b s : Together) → Same a b → LinesMake gold pairs rules b s →
      LinesMake gold pairs rules a s
  lines_from [] a b s same x = same_trans s b a x (same_sym a b same)
  lines_from (rule ∷ rules) a b s same x = (x.0, line_from rule a b x.0 same x.1, x.2)

  section_from : (top : List ℕ) (c : CollectSection) (a b s : Together) → Same a b → SectionCollects gold pairs top c b s →
      SectionCollects gold pairs top c a s
  section_from top c a b s same (inl x) = inl (x.0, lines_from c.rules a b s same x.1)
  section_from top c a b s same (inr x) = inr (x.0, same_trans s b a x.1 (same_sym a b same))

  pub sections_from : (top : List ℕ) (cs : List CollectSection) (a b s : Together) → Same a b →
      SectionsCollect gold pairs top cs b s → SectionsCollect gold pairs top cs a s
  sections_from top [] a b s same x = same_trans s b a x (same_sym a b same)
  sections_from top (c ∷ cs) a b s same x = (x.0, section_from top c a b x.0 same x.1, x.2)

-- equal divisions have the same classes
same_passing : (n : ℕ) (s t : ℕ → Bool) → ((i : ℕ) → i < n → s i ≡ t i) → passing n s ≡ passing n t
same_passing zero s t all = refl
same_passing (suc n) s t all =
    ap (λ x. cond x (passing n s ++ n ∷ []) (passing n s)) (all n (omega arith)) ∙
    ap (λ xs. cond (t n) (xs ++ n ∷ []) xs) (same_passing n s t (λ i h. all i (omega arith)))

module _ (n : ℕ) (held : ℕ → Bool) (a b : Together) (same : SameClasses n a b) where
  same_first : (k : ℕ) → k < n → is_first held a k ≡ is_first held b k
  same_first k h = ap (λ x. held k && not x)
      (same_below k (λ j. held j && a k j) (λ j. held j && b k j) (λ j l. ap (λ x. held j && x) (same k j h (omega arith))))

  same_class : (k : ℕ) → k < n → class_of n held a k ≡ class_of n held b k
  same_class k h = same_passing n (λ j. held j && a k j) (λ j. held j && b k j) (λ j l. ap (λ x. held j && x) (same k j h l))

  same_to : (k : ℕ) → k ≤ n → classes_to n held a k ≡ classes_to n held b k
  same_to zero h = refl
  same_to (suc k) h =
      ap (λ x. cond x (classes_to n held a k ++ class_of n held a k ∷ []) (classes_to n held a k)) (same_first k (omega arith)) ∙
      ap (λ xs. cond (is_first held b k) (classes_to n held a k ++ xs ∷ []) (classes_to n held a k)) (same_class k (omega arith)) ∙
      ap (λ cs. cond (is_first held b k) (cs ++ class_of n held b k ∷ []) cs) (same_to k (omega arith))

  pub same_classes : classes n held a ≡ classes n held b
  same_classes = same_to n (omega arith)

-- the groups that a configuration says are one list
pub one_list_of : (gold : Parts) (pairs : List Pair) (c : Config) (g h : List (List ℕ)) → AreGroups gold pairs c g →
    AreGroups gold pairs c h → g ≡ h
one_list_of gold pairs c g h x y =
    x.groups_are ∙
    same_classes (length pairs) (is_held pairs) x.together y.together
    (one_division gold pairs c.gold.top c.collects (by_net pairs) (by_net pairs) x.together y.together (λ i j h k. refl)
    x.lines y.lines) ∙ sym y.groups_are

united_tests : (x m k : Bool) → (x ≡ true → m ≡ k) → ((m && k) || (not m && not k && x)) ≡ (x || (m && k))
united_tests true true true e = refl
united_tests true true false e = absurd (let t = e refl in cc)
united_tests true false true e = absurd (let t = e refl in cc)
united_tests true false false e = refl
united_tests false true true e = refl
united_tests false true false e = refl
united_tests false false true e = refl
united_tests false false false e = refl

-- where the marked positions fill classes, to make them one class is to unite these
pub gathered_united : (n : ℕ) (leaders : List ℕ) (marks t : ℕ → Bool) → ((i : ℕ) → i < n → marks i ≡ t i) →
    ((i j : ℕ) → leader_at leaders i ≡ leader_at leaders j → t i ≡ t j) →
    SameClasses n (gathered marks (one_leader leaders)) (united t (one_leader leaders))
gathered_united n leaders marks t same fill i j h k =
    same_gathered n marks t (one_leader leaders) (one_leader leaders) same (λ a b l m. refl) i j h k ∙
    united_tests (one_leader leaders i j) (t i) (t j) (λ e. fill i j (eqb-true (leader_at leaders i) (leader_at leaders j) e))

-- what is touched fills classes
pub touches_fill : (n : ℕ) (held hit : ℕ → Bool) (leaders : List ℕ) (i j : ℕ) → leader_at leaders i ≡ leader_at leaders j →
    touches n held hit (one_leader leaders) i ≡ touches n held hit (one_leader leaders) j
touches_fill n held hit leaders i j e =
    same_below n (λ k. held k && hit k && one_leader leaders i k) (λ k. held k && hit k && one_leader leaders j k)
    (λ k h. ap (λ l. held k && hit k && eqb l (leader_at leaders k)) e)
