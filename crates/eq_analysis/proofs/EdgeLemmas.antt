-- The edges of items and of modules are added one by one, and those that were there stay.
use Rattle.std.proofs.Common.{◌≡◌, ℕ, zero, suc, ◌+◌, ◌<◌, ◌≤◌, List, [], ◌∷◌, Option, Some, None, Bor, length, get_or, drop, map, refl, sym, ap, subst, ◌∙◌, arith, inl, inr}
use Rattle.std.specs.Prelude.{slice_get}
use Rattle.std.proofs.lemmas.List.{drop_more}
use Rattle.std.proofs.lemmas.Bool.Decides.{eqb_tells}
use Rattle.eq_net.specs.Meaning.{if_there}
use Rattle.eq_reads.specs.declared.graph.Edge.{Edge}
use Rattle.eq_vparse.specs.declared.tree.Item.{Item}
use Rattle.eq_vparse.specs.declared.tree.Module.{Module}
use Rattle.eq_verilog.specs.Trees.{Name, ItemTree, ModuleTree, item_tree, module_tree}
use Rattle.eq_analysis.specs.inner.Climbing.{AreJoined, HasEdges, IsJoined, Keeps}

some_is : {A : Type 0} (x y : A) → ◌≡◌ {A = Option A} (Some x) (Some y) → x ≡ y
some_is x y h = ap (λ (o : Option _). if_there x (λ z. z) o) h

none_module : (m : ModuleTree) → ◌≡◌ {A = Option ModuleTree} None (Some m) → ⊥
none_module m h = absurd (cc)

none_there : (i : ItemTree) → ◌≡◌ {A = Option ItemTree} None (Some i) → ⊥
none_there i at = absurd (cc)

drop_past : {A : Type 0} (xs : List A) (n : ℕ) → length xs ≤ n → drop n xs ≡ []
drop_past [] zero h = refl
drop_past [] (suc n) h = refl
drop_past (x ∷ xs) zero h = absurd (omega (arith, h))
drop_past (x ∷ xs) (suc n) h = drop_past xs n (omega (arith, h))

joined_kept : (edges after : List Edge) (names : List Name) (from : ℕ) (items : List ItemTree) → Keeps edges after →
    AreJoined edges names from items → AreJoined after names from items
joined_kept edges after names from items keep h = λ j i at n c one two. keep from c (h j i at n c one two)

joined_more : (edges : List Edge) (names : List Name) (from : ℕ) (x : ItemTree) (items : List ItemTree) →
    IsJoined edges names from x → AreJoined edges names from items → AreJoined edges names from (x ∷ items)
joined_more edges names from x items one h zero i at =
    subst (λ (y : ItemTree). IsJoined edges names from y) (some_is x i at) one
joined_more edges names from x items one h (suc j) i at = h j i at

-- ---- the edges of items

-- old edges became `now`, and once those of the items from place k on are there, those of all are
pub record AreAdding (names : List Name) (from : ℕ) (items : List Item) (old now : List Edge) (k : ℕ) : Type 0 where
  pub kept : Keeps old now
  pub goes_on : (after : List Edge) → Keeps now after → AreJoined after names from (map item_tree (drop k items)) →
      AreJoined after names from (map item_tree items)

module _ (names : List Name) (from : ℕ) (items : List Item) (old : List Edge) where
  pub adding_none : AreAdding names from items old old 0
  adding_none = record { kept = λ a b j. j; goes_on = λ after keep h. h }

  pub adding_more : (now next : List Edge) (k : ℕ) (x : Item) → k < length items → get_or items k x ≡ x →
      AreAdding names from items old now k → Keeps now next → IsJoined next names from (item_tree x) →
      AreAdding names from items old next (k + 1)
  adding_more now next k x lt at before keep one = record {
    kept = λ a b j. keep a b (before.kept a b j);
    goes_on = λ after more h. before.goes_on after (λ a b j. more a b (keep a b j))
        (subst (λ (is : List Item). AreJoined after names from (map item_tree is)) (sym (drop_more items k x lt))
        (subst (λ (y : Item). AreJoined after names from (item_tree y ∷ map item_tree (drop (k + 1) items))) (sym at)
        (joined_more after names from (item_tree x) (map item_tree (drop (k + 1) items))
        (λ n c p q. more from c (one n c p q)) h)));
  }

  pub adding_all : (now : List Edge) (k : ℕ) → length items ≤ k → AreAdding names from items old now k →
      AreJoined now names from (map item_tree items)
  adding_all now k le all = all.goes_on now (λ a b j. j)
      (subst (λ (is : List Item). AreJoined now names from (map item_tree is)) (sym (drop_past items k le))
      (λ j i at. absurd (none_there i at)))

-- ---- the edges of modules

-- those of the first k modules are there
abbrev pub HasEdgesTo : List Edge → List Name → List ModuleTree → ℕ → Type 0
HasEdgesTo edges names all place = (k : ℕ) (m : ModuleTree) → k < place → slice_get all k ≡ Some m →
    AreJoined edges names k m.items

get_there : (ms : List (Bor Module)) (k : ℕ) (d : Bor Module) → k < length ms →
    slice_get (map (λ m. module_tree m.now) ms) k ≡ Some (module_tree (get_or ms k d).now)
get_there [] k d lt = absurd (omega (arith, lt))
get_there (m ∷ ms) zero d lt = refl
get_there (m ∷ ms) (suc k) d lt = get_there ms k d (omega (arith, lt))

within : (ms : List (Bor Module)) (k : ℕ) (m : ModuleTree) → slice_get (map (λ x. module_tree x.now) ms) k ≡ Some m →
    k < length ms
within [] k m h = absurd (none_module m h)
within (x ∷ xs) zero m h = omega arith
within (x ∷ xs) (suc k) m h = let rest = within xs k m h in omega (arith, rest)

pub edges_more : (edges after : List Edge) (names : List Name) (ms : List (Bor Module)) (place : ℕ) (d : Bor Module) →
    place < length ms → HasEdgesTo edges names (map (λ m. module_tree m.now) ms) place → Keeps edges after →
    AreJoined after names place (map item_tree (get_or ms place d).now.items) →
    HasEdgesTo after names (map (λ m. module_tree m.now) ms) (place + 1)
edges_more edges after names ms place d lt before keep here k m less at = elim (eqb_tells k place) [
  | inl same ↦
      let is : module_tree (get_or ms place d).now ≡ m = some_is (module_tree (get_or ms place d).now) m
      (sym (get_there ms place d lt)
      ∙ ap (λ (j : ℕ). slice_get (map (λ m. module_tree m.now) ms) j) (sym same.1) ∙ at) in
      subst (λ (j : ℕ). AreJoined after names j m.items) (sym same.1)
      (subst (λ (x : ModuleTree). AreJoined after names place x.items) is here)
  | inr other ↦
      (let apart = other.1 in
      joined_kept edges after names k m.items keep (before k m (omega (arith, less, apart)) at))
]

pub edges_all : (edges : List Edge) (names : List Name) (ms : List (Bor Module)) (place : ℕ) → length ms ≤ place →
    HasEdgesTo edges names (map (λ m. module_tree m.now) ms) place →
    HasEdges edges names (map (λ m. module_tree m.now) ms)
edges_all edges names ms place le h k m at =
    let lt = within ms k m at in
    h k m (omega (arith, lt, le)) at
