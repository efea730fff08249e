-- No instance stands deeper than there are modules, where no module that is reached stands in itself: the modules of a chain
-- of instances are all different, so each step down leaves fewer that are new.
use Rattle.std.proofs.Common.{◌≡◌, ℕ, zero, suc, ◌-◌, ◌<◌, ◌≤◌, Bool, true, false, not, ◌||◌, List, [], ◌∷◌, length, Option, Some, None, bytes_eq, refl, arith, sym, ap, subst, ◌∙◌, inl, inr}
use Rattle.std.specs.Prelude.{Contains}
use Rattle.std.proofs.lemmas.Bool.{cases_Bool}
use Rattle.std.proofs.lemmas.Slice.Eq.{bytes_eq-Decides}
use Rattle.eq_verilog.specs.Trees.{Name, ModuleTree}
use Rattle.eq_verilog.specs.Declarations.{has}
use Rattle.eq_verilog.specs.Hierarchy.{Instance, instances, module_named, module_names, Path, inner_prefix, reached, reached_below}
use Rattle.eq_verilog.specs.Firsts.{first_found}
use Rattle.eq_verilog.specs.ModuleRefusals.{recursive}
use Rattle.eq_analysis.specs.Tabling.{AreNamed}
use Rattle.eq_flatten.specs.Summing.{ComesToEnd}
use Rattle.eq_flatten.proofs.Reaching.{each_visited, found_name, lacking, lacking_most, one_less, some_same, visited, IsDone, IsMet}
use Rattle.eq_flatten.proofs.Truths.{not_true, or_left, or_none, or_right, true_false, unless_none}

no_name : false ≡ true → ⊥
no_name e = absurd (cc)

module _ (all : List ModuleTree) where
  -- ---- what is reached

  pub reached_done : (top n : Name) → has (module_names (reached all top)) n ≡ true → IsDone all (reached all top) n
  reached_done top n h = (visited all (length all) [] top (lacking_most [] all)).0.done n h refl

  pub top_met : (top : Name) → IsMet all (reached all top) top
  top_met top = (visited all (length all) [] top (lacking_most [] all)).1

  pub reached_named : (top : Name) → AreNamed all (reached all top)
  reached_named top = (visited all (length all) [] top (lacking_most [] all)).0.named tt

  below_done : (m : ModuleTree) (n : Name) → has (module_names (reached_below all m)) n ≡ true →
      IsDone all (reached_below all m) n
  below_done m n h =
      (each_visited all (length all) (visited all (length all)) (instances m) [] (lacking_most [] all)).0.done n h refl

  below_met : (m : ModuleTree) (i : Instance) → Contains (instances m) i → IsMet all (reached_below all m) i.module_name
  below_met m = (each_visited all (length all) (visited all (length all)) (instances m) [] (lacking_most [] all)).1

  -- what holds of each module that is reached holds of the module of each name among theirs
  pub fine_at : (f : ModuleTree → Option Name) (ms : List ModuleTree) → AreNamed all ms → first_found f ms ≡ None →
      (n : Name) (m : ModuleTree) → has (module_names ms) n ≡ true → module_named all n ≡ Some m → f m ≡ None
  fine_at f [] named none n m h is = absurd (no_name h)
  fine_at f (x ∷ xs) named none n m h is =
      let parts = or_none (f x) (first_found f xs) none in
      elim (cases_Bool (bytes_eq n x.name)) [
        | inl here ↦
            let same : n ≡ x.name = (bytes_eq-Decides n x.name).0 here in
            let found = some_same x m (sym named.0 ∙ ap (λ (y : Name). module_named all y) (sym same) ∙ is) in
            subst (λ (y : ModuleTree). f y ≡ None) found parts.0
        | inr other ↦
            fine_at f xs named.1 parts.1 n m (sym (ap (λ (b : Bool). b || has (module_names xs) n) other) ∙ h) is
      ]

  -- ---- modules above one another

  -- none of these stands in itself, and what stands in q is reached below each
  abbrev AreAbove : ModuleTree → List ModuleTree → Type 0
  AreAbove q [] = Unit {0}
  AreAbove q (a ∷ line) =
      ((recursive all a ≡ None)
      × ((i : Instance) → Contains (instances q) i → IsMet all (reached_below all a) i.module_name))
      × AreAbove q line

  -- so what stands in q is none of them
  not_again : (q : ModuleTree) (line : List ModuleTree) → AreAbove q line → (i : Instance) (m : ModuleTree) →
      Contains (instances q) i → module_named all i.module_name ≡ Some m →
      has (module_names line) i.module_name ≡ true → ⊥
  not_again q [] above i m inside is h = absurd (no_name h)
  not_again q (a ∷ line) above i m inside is h = elim (cases_Bool (bytes_eq i.module_name a.name)) [
    | inl here ↦
        let below = module_names (reached_below all a) in
        let same : i.module_name ≡ a.name = (bytes_eq-Decides i.module_name a.name).0 here in
        let there : has below a.name ≡ true = ap (λ (n : Name). has below n) (sym same) ∙ above.0.1 i inside m is in
        let never : has below a.name ≡ false =
        not_true (has below a.name) (unless_none (not (has below a.name)) a.name above.0.0) in
        true_false (has below a.name) there never
    | inr other ↦
        not_again q line above.1 i m inside is
        (sym (ap (λ (b : Bool). b || has (module_names line) i.module_name) other) ∙ h)
  ]

  not_above : (q : ModuleTree) (line : List ModuleTree) → AreAbove q line → (i : Instance) (m : ModuleTree) →
      Contains (instances q) i → module_named all i.module_name ≡ Some m → has (module_names line) i.module_name ≡ false
  not_above q line above i m inside is = elim (cases_Bool (has (module_names line) i.module_name)) [
    | inl t ↦ absurd (not_again q line above i m inside is t)
    | inr f ↦ f
  ]

  -- what stands in an instance of q is reached below them too
  above_inner : (q : ModuleTree) (line : List ModuleTree) → AreAbove q line → (i : Instance) (m : ModuleTree) →
      Contains (instances q) i → module_named all i.module_name ≡ Some m → AreAbove m line
  above_inner q [] above i m inside is = tt
  above_inner q (a ∷ line) above i m inside is = (
    (above.0.0, λ j h. below_done a i.module_name (above.0.1 i inside m is) m is j h),
    above_inner q line above.1 i m inside is,
  )

  behind : (n : Name) (ns : List Name) (x : Name) → has ns x ≡ true → has (n ∷ ns) x ≡ true
  behind n ns x h = or_right (bytes_eq x n) (has ns x) h

  first : (n : Name) (ns : List Name) → has (n ∷ ns) n ≡ true
  first n ns = or_left (bytes_eq n n) (has ns n) ((bytes_eq-Decides n n).1 refl)

  -- one module more
  fewer_left : (n : Name) (m : ModuleTree) (ns : List Name) → module_named all n ≡ Some m → has ns n ≡ false →
      lacking (n ∷ ns) all < lacking ns all
  fewer_left n m ns is new = one_less ns (n ∷ ns) (behind n ns) all n m is new (first n ns)

  module _ (seen : List ModuleTree) (closed : (n : Name) → has (module_names seen) n ≡ true → IsDone all seen n)
      (named : AreNamed all seen) (fine : first_found (recursive all) seen ≡ None) where
    no_deeper : (q : ModuleTree) (line : List ModuleTree) (i : Instance) (o : Option ModuleTree) →
        module_named all i.module_name ≡ o → lacking (module_names line) all ≤ 0 → AreAbove q line →
        Contains (instances q) i → o ≡ None
    no_deeper q line i None is few above inside = refl
    no_deeper q line i (Some m) is few above inside =
        let less = fewer_left i.module_name m (module_names line) is (not_above q line above i m inside is) in
        absurd (omega (arith, few, less))

    ends : (k : ℕ) (line : List ModuleTree) (p : Path) → lacking (module_names line) all ≤ k → AreAbove p.of line →
        ((i : Instance) → Contains (instances p.of) i → IsMet all seen i.module_name) → ComesToEnd all k p
    ends zero line p few above met = λ i inside.
        no_deeper p.of line i (module_named all i.module_name) refl few above inside
    ends (suc k) line p few above met = λ i m inside is.
        let less = fewer_left i.module_name m (module_names line) is (not_above p.of line above i m inside is) in
        let same = found_name all i.module_name m is in
        let count : lacking (module_names (m ∷ line)) all ≤ k =
        subst (λ (n : Name). lacking (n ∷ module_names line) all ≤ k) same (omega (arith, few, less)) in
        ends k (m ∷ line) (record { prefix = inner_prefix p.prefix i.name; of = m }) count (
          (fine_at (recursive all) seen named fine i.module_name m (met i inside m is) is, below_met m),
          above_inner p.of line above i m inside is,
        )
        (closed i.module_name (met i inside m is) m is)

  -- in a design in which no module that is reached stands in itself
  pub design_ends : (top : Name) (m : ModuleTree) → module_named all top ≡ Some m →
      first_found (recursive all) (reached all top) ≡ None →
      ComesToEnd all (length all - 1) (record { prefix = []; of = m })
  design_ends top m is fine =
      let less = fewer_left top m [] is refl in
      let most = lacking_most [] all in
      let same = found_name all top m is in
      let count : lacking (module_names (m ∷ [])) all ≤ length all - 1 =
      subst (λ (n : Name). lacking (n ∷ []) all ≤ length all - 1) same (omega (arith, less, most)) in
      ends (reached all top) (reached_done top) (reached_named top) fine (length all - 1) (m ∷ [])
      (record { prefix = []; of = m }) count
      ((fine_at (recursive all) (reached all top) (reached_named top) fine top m (top_met top m is) is, below_met m), tt)
      (reached_done top top (top_met top m is) m is)
