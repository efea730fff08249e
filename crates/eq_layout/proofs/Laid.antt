-- A layout from what its parts say.
use Rattle.std.proofs.Common.{◌≡◌, List, All, Option, Some, None, IfSome, length, map, refl, arith, sym, ap, subst, ◌∙◌, ◌⊎◌, inl, inr}
use Rattle.std.proofs.lemmas.List.{take_all, length-map}
use Rattle.eq_names.specs.Name.{IsNameByte}
use Rattle.eq_net.specs.Net.{bits_of}
use Rattle.eq_net.specs.Nets.{net_of}
use Rattle.eq_verilog.specs.Trees.{Name, ModuleTree}
use Rattle.eq_verilog.specs.Declarations.{nets_in}
use Rattle.eq_verilog.specs.Designs.{flat_of}
use Rattle.eq_verilog.specs.Hierarchy.{module_named, Path, paths as all_paths}
use Rattle.eq_verilog.specs.Nets.{nets_of}
use Rattle.eq_flatten.specs.declared.paths.Path.{Path as PathValue}
use Rattle.eq_flatten.specs.declared.paths.Paths.{Paths}
use Rattle.eq_flatten.specs.Equating.{AreStarts}
use Rattle.eq_flatten.specs.Flat.{IsFlat}
use Rattle.eq_flatten.specs.Owning.{names_in}
use Rattle.eq_flatten.specs.Paths.{path_of, top_path, HasPaths, IsPath}
use Rattle.eq_layout.specs.declared.layout.Layout.{Layout}
use Rattle.eq_layout.specs.Layout.{trees_of}
use Rattle.eq_layout.specs.Laying.{LaysOut}

cases_option : {A : Type 0} (o : Option A) → (o ≡ None) ⊎ ((a : A) × (o ≡ Some a))
cases_option None = inl refl
cases_option (Some a) = inr (a, refl)

-- the paths that were found, from the top
pub record HasTop (all : List ModuleTree) (top : Name) (found : Paths) : Type 0 where
  pub there : module_named all top ≡ None → ⊥
  pub links : (m : ModuleTree) → module_named all top ≡ Some m → HasPaths all (top_path m) found
  pub are : map path_of found.paths.items ≡ all_paths all top

-- the paths of an answer
pub top_of : (all : List ModuleTree) (top : Name) (answer : Option Paths) (found : Paths) → answer ≡ Some found →
    (module_named all top ≡ None → ⊥) → IfSome answer (λ ps. map path_of ps.paths.items ≡ all_paths all top) →
    IfSome answer (λ ps. (m : ModuleTree) → module_named all top ≡ Some m → HasPaths all (top_path m) ps) →
    HasTop all top found
top_of all top answer found is there are links = record {
  there = there;
  links = subst (λ (o : Option Paths). IfSome o (λ ps. (m : ModuleTree) → module_named all top ≡ Some m →
      HasPaths all (top_path m) ps)) is links;
  are = subst (λ (o : Option Paths). IfSome o (λ ps. map path_of ps.paths.items ≡ all_paths all top)) is are;
}

-- the modules of the paths have their numbers
pub placed : (all : List ModuleTree) (top : Name) (found : Paths) → HasTop all top found →
    All (IsPath all) found.paths.items
placed all top found h = elim (cases_option (module_named all top)) [
  | inl none ↦ absurd (h.there none)
  | inr some ↦ (h.links some.0 some.1).placed
]

-- what stands before their names may stand in names
pub prefixes : (all : List ModuleTree) (top : Name) (found : Paths) → HasTop all top found →
    All (λ (p : PathValue). All IsNameByte p.prefix.items) found.paths.items
prefixes all top found h k d lt = (placed all top found h k d lt).1

flat_nets_are : (top : Name) (l : Layout) (all : List ModuleTree) → HasTop all top l.found →
    IsFlat l.found.paths.items (length l.found.paths.items) l.flat.nets.items l.flat.firsts.items →
    map net_of l.flat.nets.items ≡ (flat_of all top).nets
flat_nets_are top l all h flat =
    let ps = map path_of l.found.paths.items in
    let size = length-map l.found.paths.items path_of in
    flat.are
    ∙ ap (λ (xs : List Path). nets_of xs) (take_all (length l.found.paths.items) ps (omega (arith, size)))
    ∙ ap (λ (xs : List Path). nets_of xs) h.are

pub laid : (all : List ModuleTree) (top : Name) (l : Layout) → trees_of l ≡ all → HasTop all top l.found →
    map names_in l.owned.items ≡ map nets_in (trees_of l) →
    IsFlat l.found.paths.items (length l.found.paths.items) l.flat.nets.items l.flat.firsts.items →
    AreStarts l.flat.nets.items l.starts.starts.items → l.starts.bits ≡ bits_of l.flat.nets.items → LaysOut all top l
laid all top l same h names flat starts bits =
    let k = subst (λ (ms : List ModuleTree). HasTop ms top l.found) (sym same) h in
    record {
      trees = same;
      is = record {
        names = names;
        there = k.there;
        paths = k.links;
        paths_are = k.are;
        flat = flat;
        nets = flat_nets_are top l (trees_of l) k flat;
        starts = starts;
        bits = bits;
      };
    }
