-- The first that is found: among those that there are, among instances as items, in lists that are joined.
use Rattle.std.proofs.Common.{◌≡◌, List, [], ◌∷◌, ◌++◌, Option, Some, None, map, refl, sym, ap, ◌∙◌}
use Rattle.std.specs.Prelude.{filter_map}
use Rattle.std.specs.List.{cons_option}
use Rattle.std.specs.Option.{option_or}
use Rattle.eq_net.specs.Meaning.{if_there}
use Rattle.eq_vparse.specs.declared.tree.Item.{Item}
use Rattle.eq_verilog.specs.Trees.{item_tree}
use Rattle.eq_verilog.specs.Hierarchy.{Instance, instance_in}
use Rattle.eq_verilog.specs.Firsts.{first_found, first_of}

one_item : {A B : Type 0} (f : A → Option B) (o : Option A) (ys : List A) →
    first_found f (cons_option o ys) ≡ option_or (if_there None f o) (first_found f ys)
one_item f None ys = refl
one_item f (Some y) ys = refl

-- among those that there are
pub found_there : {A B C : Type 0} (g : B → Option C) (f : A → Option B) (xs : List A) →
    first_found (λ x. if_there None g (f x)) xs ≡ first_found g (filter_map f xs)
found_there g f [] = refl
found_there g f (x ∷ xs) =
    ap (λ o. option_or (if_there None g (f x)) o) (found_there g f xs) ∙ sym (one_item g (f x) (filter_map f xs))

-- instances one by one, as items
pub found_by_items : {B : Type 0} (f : Instance → Option B) (items : List Item) →
    first_found f (filter_map instance_in (map item_tree items))
    ≡ first_found (λ i. if_there None f (instance_in (item_tree i))) items
found_by_items f [] = refl
found_by_items f (i ∷ is) =
    one_item f (instance_in (item_tree i)) (filter_map instance_in (map item_tree is))
    ∙ ap (λ o. option_or (if_there None f (instance_in (item_tree i))) o) (found_by_items f is)

pub or_none : {B : Type 0} (o : Option B) → option_or o None ≡ o
or_none None = refl
or_none (Some x) = refl

pub or_assoc : {B : Type 0} (o p q : Option B) → option_or o (option_or p q) ≡ option_or (option_or o p) q
or_assoc None p q = refl
or_assoc (Some x) p q = refl

-- one more, behind the others
pub found_behind : {A B : Type 0} (f : A → Option B) (xs : List A) (x : A) →
    first_found f (xs ++ x ∷ []) ≡ option_or (first_found f xs) (f x)
found_behind f [] x = or_none (f x)
found_behind f (y ∷ ys) x =
    ap (λ o. option_or (f y) o) (found_behind f ys x) ∙ or_assoc (f y) (first_found f ys) (f x)

-- in one list and then in another
pub found_joined : {A B : Type 0} (f : A → Option B) (xs ys : List A) →
    first_found f (xs ++ ys) ≡ option_or (first_found f xs) (first_found f ys)
found_joined f [] ys = refl
found_joined f (x ∷ xs) ys =
    ap (λ o. option_or (f x) o) (found_joined f xs ys) ∙ or_assoc (f x) (first_found f xs) (first_found f ys)

-- the first of two, or else of the others
pub after_two : {A : Type 0} (o p : Option A) (os : List (Option A)) →
    first_of (o ∷ p ∷ os) ≡ option_or (first_of (o ∷ p ∷ [])) (first_of os)
after_two (Some x) p os = refl
after_two None (Some y) os = refl
after_two None None os = refl

-- the first of three, or else of the others
pub after_three : {A : Type 0} (o p q : Option A) (os : List (Option A)) →
    first_of (o ∷ p ∷ q ∷ os) ≡ option_or (first_of (o ∷ p ∷ q ∷ [])) (first_of os)
after_three (Some x) p q os = refl
after_three None (Some y) q os = refl
after_three None None (Some z) os = refl
after_three None None None os = refl
