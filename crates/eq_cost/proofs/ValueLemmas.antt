-- Values of modules: a module's from those of the modules in it, and one more at a place.
use Rattle.std.proofs.Common.{◌≡◌, ℕ, zero, suc, ◌+◌, ◌<◌, ◌≤◌, List, [], ◌∷◌, Bool, cond, nat_lt, Option, Some, None, length, refl, sym, ap, subst, ◌∙◌, arith, ◌⊎◌, inl, inr}
use Rattle.std.specs.Prelude.{sum_by, filter_map, map, option_map, replicate, slice_get, set, IfSome}
use Rattle.std.proofs.lemmas.Bool.{cases_lt}
use Rattle.std.proofs.lemmas.Bool.Decides.{nat_tests}
use Rattle.eq_net.specs.Meaning.{if_there}
use Rattle.eq_vparse.specs.declared.tree.Item.{Item}
use Rattle.eq_verilog.specs.Trees.{Name, ItemTree, ModuleTree, item_tree}
use Rattle.eq_verilog.specs.Hierarchy.{Instance, instance_in, instances, module_named}
use Rattle.eq_verilog.specs.Costs.{cost_below, module_cost}
use Rattle.eq_verilog.specs.Refusals.{excess, most_cost}
use Rattle.eq_cost.specs.Counts.{told}
use Rattle.eq_cost.specs.inner.Valuing.{AreValued, inside_cost}

-- ---- one module

one_more : (own inside sum v a b : ℕ) → told own ≡ told a → told b ≡ told inside → sum ≡ told (own + inside) →
    v ≡ told (sum + 1) → told (suc a + b) ≡ told v
one_more own inside sum v a b h k e f = omega arith

pub value_above : (all : List ModuleTree) (m : ModuleTree) (own inside sum v k j : ℕ) →
    told own ≡ told (module_cost all m) →
    ((i : ℕ) → k ≤ i → told (sum_by (inside_cost all i) (instances m)) ≡ told inside) →
    sum ≡ told (own + inside) → v ≡ told (sum + 1) → k + 1 ≤ j → told (cost_below all j m) ≡ told v
value_above all m own inside sum v k zero h each e f most = absurd (omega arith)
value_above all m own inside sum v k (suc j) h each e f most =
    one_more own inside sum v (module_cost all m) (sum_by (inside_cost all j) (instances m)) h (each j (omega arith)) e
    f

-- ---- all values

some_none : {A : Type 0} (x : A) → ◌≡◌ {A = Option A} None (Some x) → ⊥
some_none x h = absurd (cc)

at_place : (values : List (Option ℕ)) (place i : ℕ) (o : Option ℕ) (v : ℕ) →
    slice_get (set values place o) i ≡ Some (Some v) →
    ((i ≡ place) × (o ≡ Some v)) ⊎ (slice_get values i ≡ Some (Some v))
at_place [] zero i o v h = inr h
at_place [] (suc place) i o v h = inr h
at_place (x ∷ xs) zero zero o v h = inl (refl, (let e : o ≡ Some v = cc in e))
at_place (x ∷ xs) zero (suc i) o v h = inr h
at_place (x ∷ xs) (suc place) zero o v h = inr h
at_place (x ∷ xs) (suc place) (suc i) o v h = moved (at_place xs place i o v h)
  where
    moved : ((i ≡ place) × (o ≡ Some v)) ⊎ (slice_get xs i ≡ Some (Some v)) →
        ((suc i ≡ suc place) × (o ≡ Some v)) ⊎ (slice_get xs i ≡ Some (Some v))
    moved (inl both) = inl (ap (λ n. suc n) both.0, both.1)
    moved (inr there) = inr there

module _ (all : List ModuleTree) where
  -- nothing changes where more may stand in one another
  pub valued_later : (k : ℕ) (values : List (Option ℕ)) → AreValued all k values → AreValued all (k + 1) values
  valued_later k values are = λ i j v there most. are i j v there (omega arith)

  pub valued_with : (k place : ℕ) (values : List (Option ℕ)) (o : Option ℕ) (m : ModuleTree) →
      AreValued all k values → slice_get all place ≡ Some m →
      ((j v : ℕ) → o ≡ Some v → k + 1 ≤ j → told (cost_below all j m) ≡ told v) →
      AreValued all (k + 1) (set values place o)
  valued_with k place values o m are there value = λ i j v is most.
      elim (at_place values place i o v is) [
        | inl both ↦
            (ap (λ n. told (if_there 0 (cost_below all j) (slice_get all n))) both.0
            ∙ ap (λ (x : Option ModuleTree). told (if_there 0 (cost_below all j) x)) there
            ∙ value j v both.1 most)
        | inr before ↦ are i j v before (omega arith)
      ]

-- ---- what items instantiate

pub if_some_at : (all : List ModuleTree) (values : List (Option ℕ)) (n : Name) (place : ℕ) (o : Option ℕ) →
    module_named all n ≡ slice_get all place → IfSome o (λ v. slice_get values place ≡ Some (Some v)) →
    IfSome o (λ v. (k j : ℕ) → AreValued all k values → k ≤ j →
    told (if_there 0 (cost_below all j) (module_named all n)) ≡ told v)
if_some_at all values n place None is h = tt
if_some_at all values n place (Some v) is h = λ k j are most.
    ap (λ (x : Option ModuleTree). told (if_there 0 (cost_below all j) x)) is ∙ are place j v h most

pub item_value : (all : List ModuleTree) (values : List (Option ℕ)) (i : ItemTree) (o : Option ℕ) (v : ℕ) →
    o ≡ Some v → IfSome o (λ x. (k j : ℕ) → AreValued all k values → k ≤ j →
    told (if_there 0 (inside_cost all j) (instance_in i)) ≡ told x) →
    (k j : ℕ) → AreValued all k values → k ≤ j → told (if_there 0 (inside_cost all j) (instance_in i)) ≡ told v
item_value all values i o v is h =
    subst (λ (x : Option ℕ). IfSome x (λ y. (k j : ℕ) → AreValued all k values → k ≤ j →
    told (if_there 0 (inside_cost all j) (instance_in i)) ≡ told y)) is h

pub all_items : (all : List ModuleTree) (values : List (Option ℕ)) (m : ModuleTree) (xs : List Item)
    → map item_tree xs ≡ m.items → (o : Option ℕ) (v : ℕ) → o ≡ Some v →
    IfSome o (λ x. (k j : ℕ) → AreValued all k values → k ≤ j →
    told (sum_by (inside_cost all j) (filter_map instance_in (map item_tree xs))) ≡ told x) →
    (k j : ℕ) → AreValued all k values → k ≤ j → told (sum_by (inside_cost all j) (instances m)) ≡ told v
all_items all values m xs same o v is h k j are most =
    ap (λ (ys : List ItemTree). told (sum_by (inside_cost all j) (filter_map instance_in ys))) (sym same)
    ∙ (subst (λ (x : Option ℕ). IfSome x (λ y. (k j : ℕ) → AreValued all k values → k ≤ j →
    told (sum_by (inside_cost all j) (filter_map instance_in (map item_tree xs))) ≡ told y)) is h) k j are most

pub found_value : (all : List ModuleTree) (values : List (Option ℕ)) (m : ModuleTree) (o : Option ℕ) →
    IfSome o (λ x. (k j : ℕ) → AreValued all k values → k + 1 ≤ j → told (cost_below all j m) ≡ told x) →
    (k : ℕ) → AreValued all k values → (j v : ℕ) → o ≡ Some v → k + 1 ≤ j → told (cost_below all j m) ≡ told v
found_value all values m o h k are j v is most =
    (subst (λ (x : Option ℕ). IfSome x (λ y. (i n : ℕ) → AreValued all i values → i + 1 ≤ n →
    told (cost_below all n m) ≡ told y)) is h) k j are most

-- ---- the whole design

pub value_of_top : (all : List ModuleTree) (n : ℕ) (values seen : List (Option ℕ)) (place v : ℕ) (o : Option ℕ) →
    seen ≡ values → AreValued all n values → n ≤ length all → o ≡ Some v →
    IfSome o (λ x. slice_get seen place ≡ Some (Some x)) →
    told (if_there 0 (cost_below all (length all)) (slice_get all place)) ≡ told v
value_of_top all n values seen place v o same are few is there =
    are place (length all) v
    (ap (λ (vs : List (Option ℕ)). slice_get vs place) (sym same)
    ∙ subst (λ (x : Option ℕ). IfSome x (λ y. slice_get seen place ≡ Some (Some y))) is there) few

pub design_in : (d x inside r : ℕ) → d ≡ 1 + x → told x ≡ told inside → r ≡ told (1 + inside) → r ≡ told d
design_in d x inside r e h f = omega arith

pub alone_in : (d x : ℕ) → d ≡ 1 + x → x ≡ 0 → 1 ≡ told d
alone_in d x e f = omega arith

-- what is too much is seen from what is told
pub excess_told : (n cost : ℕ) → cost ≡ told n → cond (nat_lt most_cost cost) (Some cost) None ≡ excess n
excess_told n cost e =
    ap (λ k. cond (nat_lt most_cost k) (Some k) None) e
    ∙ ap (λ (t : Bool). cond t (Some (told n)) None) (over n)
  where
    over : (k : ℕ) → nat_lt most_cost (told k) ≡ nat_lt most_cost k
    over k = by_order (cases_lt most_cost k)
      where
        by_order : (most_cost < k) ⊎ (k ≤ most_cost) → nat_lt most_cost (told k) ≡ nat_lt most_cost k
        by_order (inl h) = let e : most_cost < told k = omega arith in grind (arith, nat_tests)
        by_order (inr h) = let e : told k ≡ k = omega arith in ap (λ n. nat_lt most_cost n) e

-- no value is none that is wrong
pub none_valued : (all : List ModuleTree) (count : ℕ) → AreValued all 0 (replicate count None)
none_valued all count = λ i j v there most. absurd (nothing count i v there)
  where
    nothing : (n i v : ℕ) → slice_get (replicate n None) i ≡ Some (Some v) → ⊥
    nothing zero i v h = absurd (cc)
    nothing (suc n) zero v h = absurd (cc)
    nothing (suc n) (suc i) v h = nothing n i v h

-- the value of an instance's module is the instance's
pub named_instance : (all : List ModuleTree) (values : List (Option ℕ)) (n : Name) (o : Option Instance)
    (r : Option ℕ) → option_map (λ (i : Instance). i.module_name) o ≡ Some n →
    IfSome r (λ v. (k j : ℕ) → AreValued all k values → k ≤ j →
    told (if_there 0 (cost_below all j) (module_named all n)) ≡ told v) →
    IfSome r (λ v. (k j : ℕ) → AreValued all k values → k ≤ j → told (if_there 0 (inside_cost all j) o) ≡ told v)
named_instance all values n None r is h = absurd (cc)
named_instance all values n (Some i) r is h =
    let same : i.module_name ≡ n = cc in
    subst (λ (m : Name). IfSome r (λ v. (k j : ℕ) → AreValued all k values → k ≤ j →
    told (if_there 0 (cost_below all j) (module_named all m)) ≡ told v)) (sym same) h
