-- Visits on a stack: those on top of others, and one for each instance among items.
use Rattle.std.proofs.Common.{◌≡◌, ℕ, ◌≤◌, List, [], ◌∷◌, ◌++◌, Option, Some, None, length, drop, map, refl, sym, ap, ◌∙◌}
use Rattle.std.specs.Prelude.{fold, filter_map, option_map}
use Rattle.std.specs.List.{cons_option}
use Rattle.eq_net.specs.Meaning.{if_there}
use Rattle.eq_vparse.specs.declared.tree.Item.{Item}
use Rattle.eq_verilog.specs.Trees.{Name, ModuleTree, ItemTree, item_tree}
use Rattle.eq_verilog.specs.Hierarchy.{Instance, instance_in, visit}
use Rattle.eq_analysis.specs.declared.visiting.Visit.{Visit}
use Rattle.eq_analysis.specs.inner.Visiting.{after, with_item, with_all}

-- the visits on top are made first
pub after_append : (all seen : List ModuleTree) (vs ws : List Visit)
    → after all seen (vs ++ ws) ≡ after all (after all seen ws) vs
after_append all seen [] ws = refl
after_append all seen (v ∷ vs) ws = ap (λ (s : List ModuleTree). visit all v.left s v.name.now)
    (after_append all seen vs ws)

module _ (all : List ModuleTree) (left : ℕ) where
  one_item : (seen : List ModuleTree) (o : Option Instance) (is : List Instance) →
      with_all all left seen (cons_option o is)
      ≡ with_all all left (if_there seen (λ (x : Instance). visit all left seen x.module_name) o) is
  one_item seen None is = refl
  one_item seen (Some x) is = refl

  -- instances one by one, as items
  pub by_items : (seen : List ModuleTree) (items : List Item) →
      with_all all left seen (filter_map instance_in (map item_tree items))
      ≡ fold (λ s i. with_item all left s (item_tree i)) seen items
  by_items seen [] = refl
  by_items seen (i ∷ is) =
      one_item seen (instance_in (item_tree i)) (filter_map instance_in (map item_tree is))
      ∙ by_items (with_item all left seen (item_tree i)) is

  one_name : (seen : List ModuleTree) (o : Option Instance) →
      if_there seen (λ n. visit all left seen n) (option_map (λ (x : Instance). x.module_name) o)
      ≡ if_there seen (λ (x : Instance). visit all left seen x.module_name) o
  one_name seen None = refl
  one_name seen (Some x) = refl

  -- an instance's visit is on top
  pub pushed : (seen : List ModuleTree) (i : ItemTree) (v : Visit) (old new : List Visit) → v.left ≡ left
      → Some v.name.now ≡ option_map (λ (x : Instance). x.module_name) (instance_in i) → new ≡ old ++ v ∷ []
      → after all seen new ≡ after all (with_item all left seen i) old
  pushed seen i v old new same is more =
      ap (λ (vs : List Visit). after all seen vs) more
      ∙ after_append all seen old (v ∷ [])
      ∙ ap (λ (s : List ModuleTree). after all s old) (
      ap (λ (k : ℕ). visit all k seen v.name.now) same
      ∙ ap (λ (o : Option Name). if_there seen (λ n. visit all left seen n) o) is
      ∙ one_name seen (instance_in i))

-- the visits of the items from a place on are on the stack
pub record ArePushed (items : List Item) (left : ℕ) (old : List Visit) (place : ℕ) (stack : List Visit) : Type 0 where
  pub within : place ≤ length items
  pub same : (all seen : List ModuleTree) →
      after all seen stack ≡ after all (fold (λ s i. with_item all left s (item_tree i)) seen (drop place items)) old

pub all_pushed : (items : List Item) (left : ℕ) (old : List Visit) (place : ℕ) (stack : List Visit) → place ≡ 0
    → ArePushed items left old place stack → (all seen : List ModuleTree)
    → after all seen stack ≡ after all (with_all all left seen (filter_map instance_in (map item_tree items))) old
all_pushed items left old place stack none h all seen =
    h.same all seen
    ∙ ap (λ (k : ℕ). after all (fold (λ s i. with_item all left s (item_tree i)) seen (drop k items)) old) none
    ∙ ap (λ (s : List ModuleTree). after all s old) (sym (by_items all left seen items))
