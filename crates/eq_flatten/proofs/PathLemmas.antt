-- Paths and links: a path and the ends of all links in it are all paths; a stack of links grows at its end.
use Rattle.std.proofs.Common.{◌≡◌, ℕ, zero, suc, ◌-◌, ◌<◌, ◌≤◌, List, [], ◌∷◌, ◌++◌, map, length, drop, Option, Some, None, slice_index_or, refl, sym, ap, ◌∙◌, arith}
use Rattle.std.specs.Prelude.{filter_map, flat_map}
use Rattle.std.specs.List.{cons_option}
use Rattle.std.proofs.lemmas.List.{map-append, append_assoc, append-nil}
use Rattle.eq_net.specs.Meaning.{if_there}
use Rattle.eq_vparse.specs.declared.tree.Item.{Item}
use Rattle.eq_verilog.specs.Trees.{ModuleTree, ItemTree, item_tree, module_tree}
use Rattle.eq_verilog.specs.Hierarchy.{Instance, instance_in, instances, module_named, Path, inner_prefix, paths_from}
use Rattle.eq_flatten.specs.declared.paths.Pending.{Pending}
use Rattle.eq_flatten.specs.Paths.{Link, end_of, links_from, links_at, item_links, path_at, AreBegun, written_of, begun, unfolded, AreWithin}

-- nothing from each is nothing
no_parts : {A B : Type 0} (f : A → List B) → ((a : A) → f a ≡ []) → (xs : List A) → flat_map f xs ≡ []
no_parts f h [] = refl
no_parts f h (x ∷ xs) = ap (λ ys. ys ++ flat_map f xs) (h x) ∙ no_parts f h xs

-- the parts of each, mapped
map_parts : {A B C : Type 0} (g : B → C) (f : A → List B) (h : A → List C) → ((a : A) → map g (f a) ≡ h a) →
    (xs : List A) → map g (flat_map f xs) ≡ flat_map h xs
map_parts g f h e [] = refl
map_parts g f h e (x ∷ xs) =
    map-append g (f x) (flat_map f xs)
    ∙ ap (λ ys. ys ++ map g (flat_map f xs)) (e x)
    ∙ ap (λ ys. h x ++ ys) (map_parts g f h e xs)

module _ (all : List ModuleTree) where
  abbrev inside : ℕ → Path → Instance → List Path
  inside k p i = if_there [] (paths_from all k (inner_prefix p.prefix i.name)) (module_named all i.module_name)

  none_inside : (p : Path) (i : Instance) → inside 0 p i ≡ []
  none_inside p i = at (module_named all i.module_name)
    where
      at : (o : Option ModuleTree) → if_there [] (paths_from all 0 (inner_prefix p.prefix i.name)) o ≡ []
      at None = refl
      at (Some m) = refl

  ends_at : (k : ℕ) (p : Path) (i : Instance) (o : Option ModuleTree)
      → ((q : Path) → paths_from all (suc k) q.prefix q.of ≡ q ∷ map end_of (links_from all k q))
      → map end_of (if_there [] (λ m. let l : Link = record { within = p; written = i; of = m } in
      l ∷ links_from all k (end_of l)) o)
      ≡ if_there [] (paths_from all (suc k) (inner_prefix p.prefix i.name)) o
  ends_at k p i None below = refl
  ends_at k p i (Some m) below = sym (below (record { prefix = inner_prefix p.prefix i.name; of = m }))

  -- a path, and the ends of the links in it, are the paths from it
  pub on_top : (k : ℕ) (p : Path) → paths_from all (suc k) p.prefix p.of ≡ p ∷ map end_of (links_from all k p)
  on_top zero p = ap (λ ps. p ∷ ps) (no_parts (inside 0 p) (none_inside p) (instances p.of))
  on_top (suc k) p =
      ap (λ ps. p ∷ ps)
      (sym (map_parts end_of (links_at all k p) (inside (suc k) p)
      (λ i. ends_at k p i (module_named all i.module_name) (on_top k)) (instances p.of)))

  -- ---- items

  one_item : (k : ℕ) (p : Path) (o : Option Instance) (is : List Instance) →
      flat_map (links_at all k p) (cons_option o is) ≡ if_there [] (links_at all k p) o ++ flat_map (links_at all k p) is
  one_item k p None is = refl
  one_item k p (Some i) is = refl

  -- links instance by instance, as items
  pub links_by_items : (k : ℕ) (p : Path) (items : List ItemTree) →
      flat_map (links_at all k p) (filter_map instance_in items) ≡ flat_map (item_links all k p) items
  links_by_items k p [] = refl
  links_by_items k p (i ∷ is) =
      one_item k p (instance_in i) (filter_map instance_in is)
      ∙ ap (λ ls. item_links all k p i ++ ls) (links_by_items k p is)

  -- ---- the stack

  abbrev linked : ℕ → Path → Instance → Option ModuleTree → List Link
  linked k p i o = if_there [] (λ m. let l : Link = record { within = p; written = i; of = m } in
      l ∷ links_from all k (end_of l)) o

  begun_is : (ps : List Path) (x : Pending) → unfolded all ps (x ∷ [])
      ≡ linked x.left (path_at ps x.link.within) (written_of x.link) (Some (module_tree x.link.of.module.now))
  begun_is ps x = refl

  -- the last of a stack comes first
  pub unfolded_append : (ps : List Path) (xs ys : List Pending) →
      unfolded all ps (xs ++ ys) ≡ unfolded all ps ys ++ unfolded all ps xs
  unfolded_append ps [] ys = sym (append-nil (unfolded all ps ys))
  unfolded_append ps (x ∷ xs) ys =
      ap (λ ls. ls ++ begun all ps x) (unfolded_append ps xs ys)
      ∙ append_assoc (unfolded all ps ys) (unfolded all ps xs) (begun all ps x)

  -- an instance's link is on top
  pub links_pushed : (ps : List Path) (left within : ℕ) (i : ItemTree) (x : Pending) (old new : List Pending)
      → new ≡ old ++ x ∷ [] → x.left ≡ left → x.link.within ≡ within → instance_in i ≡ Some (written_of x.link)
      → module_named all x.link.module.now ≡ Some (module_tree x.link.of.module.now)
      → unfolded all ps new ≡ item_links all left (path_at ps within) i ++ unfolded all ps old
  links_pushed ps left within i x old new more depth place is there =
      ap (λ (xs : List Pending). unfolded all ps xs) more
      ∙ unfolded_append ps old (x ∷ [])
      ∙ ap (λ (ls : List Link). ls ++ unfolded all ps old)
      (begun_is ps x
      ∙ sym (ap (λ (o : Option ModuleTree). linked x.left (path_at ps x.link.within) (written_of x.link) o)
      there)
      ∙ ap (λ (k : ℕ). links_at all k (path_at ps x.link.within) (written_of x.link)) depth
      ∙ ap (λ (k : ℕ). links_at all left (path_at ps k) (written_of x.link)) place
      ∙ sym (ap (λ (o : Option Instance). if_there [] (links_at all left (path_at ps within)) o) is))

  pub within_append : (n : ℕ) (xs ys : List Pending) → AreWithin all n xs → AreWithin all n ys →
      AreWithin all n (xs ++ ys)
  within_append n [] ys h g = g
  within_append n (x ∷ xs) ys h g = (h.0, (h.1.0, within_append n xs ys h.1.1 g))

  pub within_before : (n : ℕ) (xs ys : List Pending) → AreWithin all n (xs ++ ys) → AreWithin all n xs × AreWithin all n ys
  within_before n [] ys h = (tt, h)
  within_before n (x ∷ xs) ys h =
      let rest = within_before n xs ys h.1.1 in
      ((h.0, (h.1.0, rest.0)), rest.1)

  pub within_more : (n m : ℕ) → n ≤ m → (xs : List Pending) → AreWithin all n xs → AreWithin all m xs
  within_more n m some [] h = tt
  within_more n m some (x ∷ xs) h = ((let less = h.0 in omega (arith, less, some)), (h.1.0, within_more n m some xs h.1.1))

  -- items from a place on
  drop_next : (items : List Item) (k : ℕ) (i : Item) → k < length items → i ≡ slice_index_or items k i →
      map item_tree (drop k items) ≡ item_tree i ∷ map item_tree (drop (suc k) items)
  drop_next [] k i inside is = absurd (omega (arith, inside))
  drop_next (x ∷ xs) zero i inside is = ap (λ y. item_tree y ∷ map item_tree xs) (sym is)
  drop_next (x ∷ xs) (suc k) i inside is = drop_next xs k i (omega (arith, inside)) is

  -- the stack with the item before those that are done
  pub begun_next : (items : List Item) (within left : ℕ) (old mid new : List Pending) (k m : ℕ) (i : Item) → m ≡ suc k
      → k < length items → i ≡ slice_index_or items k i → AreBegun all items within left old m mid
      → ((ps : List Path) → unfolded all ps new ≡
      item_links all left (path_at ps within) (item_tree i) ++ unfolded all ps mid)
      → ((n : ℕ) → within < n → AreWithin all n mid → AreWithin all n new)
      → AreBegun all items within left old k new
  begun_next items within left old mid new k m i next inside is so_far one kept = record {
    bound = omega (arith, inside);
    begun_all = λ ps.
        let f : ItemTree → List Link = item_links all left (path_at ps within) in
        one ps
        ∙ ap (λ (ls : List Link). f (item_tree i) ++ ls) (so_far.begun_all ps)
        ∙ sym (append_assoc (f (item_tree i)) (flat_map f (map item_tree (drop m items))) (unfolded all ps old))
        ∙ ap (λ (n : ℕ). (f (item_tree i) ++ flat_map f (map item_tree (drop n items))) ++ unfolded all ps old) next
        ∙ sym (ap (λ (is : List ItemTree). flat_map f is ++ unfolded all ps old) (drop_next items k i inside is));
    kept = λ n bound before. kept n bound (so_far.kept n bound before);
  }

  -- the links below a path, item by item
  pub below_is : (left : ℕ) (p : Path) (items : List ItemTree) → 0 < left → p.of.items ≡ items →
      links_from all left p ≡ flat_map (item_links all (left - 1) p) items
  below_is zero p items some is = absurd (omega (arith, some))
  below_is (suc k) p items some is =
      links_by_items k p p.of.items
      ∙ ap (λ (is : List ItemTree). flat_map (item_links all k p) is) is
      ∙ ap (λ (n : ℕ). flat_map (item_links all n p) items) (let e : k ≡ suc k - 1 = omega arith in e)
