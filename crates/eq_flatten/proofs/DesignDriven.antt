-- Slots that speak of the equations by tables speak of those of the design, where no module that is reached is refused and
-- full names are distinct. And what is asked before these equations are added is so then.
use Rattle.std.proofs.Common.{◌≡◌, ℕ, zero, suc, ◌-◌, ◌<◌, ◌^◌, true, List, [], ◌∷◌, ◌++◌, map, length, replicate, All, Option, Some, None, refl, arith, sym, ap, subst, ◌∙◌}
use Rattle.std.specs.Prelude.{flat_map, is_some, zip}
use Rattle.std.proofs.lemmas.List.{length-map, take_all}
use Rattle.eq_model.specs.Nets.{Net}
use Rattle.eq_net.specs.declared.types.NetInfo.{NetInfo}
use Rattle.eq_net.specs.Meaning.{if_there}
use Rattle.eq_net.specs.Net.{bits_of}
use Rattle.eq_net.specs.Nets.{net_of}
use Rattle.eq_net.specs.Tree.{Tree}
use Rattle.eq_verilog.specs.Trees.{Name, ModuleTree}
use Rattle.eq_verilog.specs.Declarations.{nets_in}
use Rattle.eq_verilog.specs.Designs.{flat_of}
use Rattle.eq_verilog.specs.Equations.{equations_of}
use Rattle.eq_verilog.specs.Firsts.{first_again}
use Rattle.eq_verilog.specs.Hierarchy.{module_named, Path, paths, paths_from}
use Rattle.eq_verilog.specs.Nets.{full_names, nets_of}
use Rattle.eq_flatten.specs.declared.driving.Slot.{Slot}
use Rattle.eq_flatten.specs.declared.driving.Slot.TheVariants.{Free}
use Rattle.eq_flatten.specs.declared.paths.Paths.{Paths}
use Rattle.eq_flatten.specs.Driving.{slot_at}
use Rattle.eq_flatten.specs.Equating.{AreDriven, SlotSays}
use Rattle.eq_flatten.specs.Flat.{first_of, IsFlat}
use Rattle.eq_flatten.specs.Flattening.{ArePathsReady}
use Rattle.eq_flatten.specs.Joining.{AreLinksReady}
use Rattle.eq_flatten.specs.Paths.{end_of, links_from, path_of, top_path, HasPaths}
use Rattle.eq_flatten.specs.Spelled.{IsModuleSpelled}
use Rattle.eq_flatten.specs.Summing.{by_tables, link_at, own_at}
use Rattle.eq_flatten.proofs.Alike.{driven_so, equations_parts}
use Rattle.eq_flatten.proofs.Bridged.{OffsetsByPath}
use Rattle.eq_flatten.proofs.DesignReady.{links_ready, paths_reached, paths_ready, IsUnrefused, PathsReached}
use Rattle.eq_flatten.proofs.Ending.{design_ends}
use Rattle.eq_flatten.proofs.Likened.{driven_agreed}
use Rattle.eq_flatten.proofs.Listing.{numbered_length}
use Rattle.eq_flatten.proofs.PathLemmas.{on_top}
use Rattle.eq_flatten.proofs.Scoped.{all_written, AreWritten}
use Rattle.eq_flatten.proofs.Tabled.{all_agreed, from_second}

-- the module that there is
pub the_module : (o : Option ModuleTree) → is_some o ≡ true → (m : ModuleTree) × (o ≡ Some m)
the_module None h = absurd (cc)
the_module (Some m) h = (m, refl)

some_modules : (all : List ModuleTree) (n : Name) (m : ModuleTree) → module_named all n ≡ Some m →
    suc (length all - 1) ≡ length all
some_modules [] n m is = absurd (cc)
some_modules (x ∷ xs) n m is = omega arith

-- ---- no equation

free_at : (n b : ℕ) → slot_at (replicate n Free) b ≡ Free
free_at zero b = refl
free_at (suc n) zero = refl
free_at (suc n) (suc b) = free_at n b

pub none_driven : (nets : List NetInfo) (words : List Tree) (n : ℕ) → AreDriven nets words [] (replicate n Free)
none_driven nets words n b less = subst (λ (s : Slot). SlotSays nets words [] b s) (sym (free_at n b)) refl

module _ (law : OffsetsByPath) (all : List ModuleTree) (top : Name) (m : ModuleTree)
    (is : module_named all top ≡ Some m) (found : Paths) (nets : List NetInfo) (firsts : List ℕ)
    (has_paths : HasPaths all (top_path m) found)
    (flat : IsFlat found.paths.items (length found.paths.items) nets firsts)
    (distinct : first_again (full_names (map net_of nets)) ≡ None) (right : IsUnrefused all top) where
  abbrev k : ℕ
  k = length all - 1

  abbrev ps : List Path
  ps = map path_of found.paths.items

  ps_are : ps ≡ top_path m ∷ map end_of (links_from all k (top_path m))
  ps_are = has_paths.ends ∙ ap (λ ls. top_path m ∷ map end_of ls) has_paths.links

  from_top : paths_from all (suc k) [] m ≡ paths all top
  from_top =
      ap (λ (n : ℕ). paths_from all n [] m) (some_modules all top m is)
      ∙ sym (ap (λ (o : Option ModuleTree). if_there [] (paths_from all (length all) []) o) is)

  nets_are : map net_of nets ≡ nets_of (paths all top)
  nets_are =
      flat.are
      ∙ ap nets_of (let e = length-map found.paths.items path_of in take_all (length found.paths.items) ps (omega (arith, e)))
      ∙ ap nets_of (ps_are ∙ sym (on_top all k (top_path m)) ∙ from_top)

  -- the equations by tables are those of the design
  pub design_driven : (words : List Tree) (slots : List Slot) →
      AreDriven nets words (by_tables nets (map nets_in all) found.paths.items found.links.items firsts) slots →
      AreDriven nets words (flat_of all top).equations slots
  design_driven words slots h =
      let N = map net_of nets in
      let parts = flat_map (own_at N) (paths_from all (suc k) [] m) ++ flat_map (link_at all N) (links_from all k (top_path m)) in
      let code = by_tables nets (map nets_in all) found.paths.items found.links.items firsts in
      subst (λ (ns : List Net). AreDriven nets words (equations_of all ns (paths all top)) slots) nets_are
      (subst (λ (qs : List Path). AreDriven nets words (equations_of all N qs) slots) from_top
      (driven_so nets words (equations_of all N (paths_from all (suc k) [] m)) parts slots
      (equations_parts all N k (top_path m) (design_ends all top m is right.recursion))
      (driven_agreed nets words code parts slots (all_agreed law all (top_path m) found nets firsts has_paths flat distinct) h)))

  pub as_many : length firsts ≡ length found.paths.items
  as_many =
      ap (λ (ns : List ℕ). length ns) flat.firsts_are
      ∙ numbered_length (first_of found.paths.items) (length found.paths.items)

  module _ (spelled : All IsModuleSpelled all) (few : bits_of nets < 2 ^ 32) where
    reach : PathsReached all top ps
    reach = subst (PathsReached all top) (sym ps_are) (paths_reached all top k m (top_path m) refl is)

    pub design_paths : ArePathsReady nets (map nets_in all) (zip found.paths.items firsts)
    design_paths =
        paths_ready law all nets found.paths.items firsts has_paths.placed flat distinct top right spelled few reach

    pub design_links : AreLinksReady nets all (map nets_in all) (zip found.paths.items firsts) 1 found.links.items
    design_links =
        links_ready law all nets found.paths.items firsts has_paths.placed flat distinct top right spelled few reach
        found.links.items 1
        (from_second law all nets found.paths.items firsts has_paths.placed flat distinct as_many (top_path m)
        found.paths.items found.links.items refl has_paths.ends
        (subst (AreWritten all) (sym has_paths.links) (all_written all k (top_path m))))

-- what holds of these holds of those that are equal to them
pub moved : {A B C D E : Type 0} (P : A → B → C → D → E → Type 0) (a x : A) (b y : B) (c z : C) (d v : D) (e w : E) →
    a ≡ x → b ≡ y → c ≡ z → d ≡ v → e ≡ w → P a b c d e → P x y z v w
moved P a x b y c z d v e w first second third fourth fifth h =
    subst (λ k. P x y z v k) fifth (subst (λ k. P x y z k e) fourth (subst (λ k. P x y k d e) third
    (subst (λ k. P x k c d e) second (subst (λ k. P k b c d e) first h))))
