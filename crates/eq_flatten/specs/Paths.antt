-- A walk through the instances by a stack of those that are still to be come to.
use Rattle.std.specs.Prelude.{◌≡◌, ◌<◌, ◌≤◌, ◌-◌, ◌++◌, ℕ, zero, suc, List, [], ◌∷◌, All, Some, drop, length, map, flat_map, slice_get, slice_index_or}
use Rattle.eq_names.specs.Name.{IsNameByte}
use Rattle.eq_vparse.specs.declared.tree.Item.{Item}
use Rattle.eq_net.specs.Meaning.{if_there}
use Rattle.eq_verilog.specs.Trees.{ItemTree, ModuleTree, item_tree, module_tree, connection_list}
use Rattle.eq_verilog.specs.Hierarchy.{Instance, instance_in, instances, module_named, Path, inner_prefix}
use Rattle.eq_flatten.specs.declared.paths.Placed.{Placed}
use Rattle.eq_flatten.specs.declared.paths.Path.{Path as PathValue}
use Rattle.eq_flatten.specs.declared.paths.Link.{Link as LinkValue}
use Rattle.eq_flatten.specs.declared.paths.Pending.{Pending}
use Rattle.eq_flatten.specs.declared.paths.Paths.{Paths}

-- an instance in a path: that path, how it is written there, and its module
pub record Link : Type 0 where
  pub within : Path
  pub written : Instance
  pub of : ModuleTree

-- the path of the instance
abbrev pub end_of : Link → Path
end_of l = record { prefix = inner_prefix l.within.prefix l.written.name; of = l.of }

-- the instances in a path, each followed by those in it. At most k stand in one another
abbrev pub links_from : List ModuleTree → ℕ → Path → List Link
links_from all zero p = []
links_from all (suc k) p =
    flat_map
    (λ (i : Instance). if_there [] (λ m. let l : Link = record { within = p; written = i; of = m } in
    l ∷ links_from all k (end_of l)) (module_named all i.module_name))
    (instances p.of)

-- an instance in path p, and those in it
abbrev pub links_at : List ModuleTree → ℕ → Path → Instance → List Link
links_at all k p i =
    if_there [] (λ m. let l : Link = record { within = p; written = i; of = m } in
    l ∷ links_from all k (end_of l)) (module_named all i.module_name)

-- those that an item begins
abbrev pub item_links : List ModuleTree → ℕ → Path → ItemTree → List Link
item_links all k p i = if_there [] (links_at all k p) (instance_in i)

-- ---- values of the code

abbrev pub IsPlaced : List ModuleTree → Placed → Type 0
IsPlaced all p = slice_get all p.place ≡ Some (module_tree p.module.now)

-- the module of a path has its number, and what stands before its names may stand in names
abbrev pub IsPath : List ModuleTree → PathValue → Type 0
IsPath all x = IsPlaced all x.of × All IsNameByte x.prefix.items

abbrev pub path_of : PathValue → Path
path_of p = record { prefix = p.prefix.items; of = module_tree p.of.module.now }

-- the top's
abbrev pub top_path : ModuleTree → Path
top_path m = record { prefix = []; of = m }

abbrev pub nowhere : Path
nowhere = record { prefix = []; of = record { name = []; ports = []; items = [] } }

abbrev pub path_at : List Path → ℕ → Path
path_at ps k = slice_index_or ps k nowhere

abbrev pub written_of : LinkValue → Instance
written_of l = record { module_name = l.module.now; name = l.name.now; connections = connection_list l.conns.now }

-- a link of the code, where these are the paths
abbrev pub link_of : List Path → LinkValue → Link
link_of ps l = record { within = path_at ps l.within; written = written_of l; of = module_tree l.of.module.now }

-- ---- the stack

-- what an instance on the stack stands for: itself, and those in it
abbrev pub begun : List ModuleTree → List Path → Pending → List Link
begun all ps x = link_of ps x.link ∷ links_from all x.left (end_of (link_of ps x.link))

-- what the stack stands for, its last first
abbrev pub unfolded : List ModuleTree → List Path → List Pending → List Link
unfolded all ps [] = []
unfolded all ps (x ∷ xs) = unfolded all ps xs ++ begun all ps x

-- the instances on the stack stand in one of n paths, and their modules have their numbers
abbrev pub AreWithin : List ModuleTree → ℕ → List Pending → Type 0
AreWithin all n [] = Unit {0}
AreWithin all n (x ∷ xs) = (x.link.within < n) × (IsPlaced all x.link.of × AreWithin all n xs)

-- the instances among the items from a place on are on the stack
pub record AreBegun (all : List ModuleTree) (items : List Item) (within left : ℕ) (old : List Pending) (place : ℕ)
    (stack : List Pending) : Type 0 where
  pub bound : place ≤ length items
  pub begun_all : (ps : List Path) → unfolded all ps stack ≡
      flat_map (item_links all left (path_at ps within)) (map item_tree (drop place items)) ++ unfolded all ps old
  pub kept : (n : ℕ) → within < n → AreWithin all n old → AreWithin all n stack

-- ---- the walk

-- an instance was taken from the stack: it and its path were found last, and those in it are on top of the others
pub record IsEntered (all : List ModuleTree) (next : Pending) (old new : Paths) (rest stack : List Pending) : Type 0
  where
    pub ends : (more : List Path) → map path_of new.paths.items ≡
        map path_of old.paths.items ++ end_of (link_of (map path_of new.paths.items ++ more) next.link) ∷ []
    pub links : new.links.items ≡ old.links.items ++ next.link ∷ []
    pub goes_on : (more : List Path) → unfolded all (map path_of new.paths.items ++ more) stack ≡
        links_from all next.left (end_of (link_of (map path_of new.paths.items ++ more) next.link))
        ++ unfolded all (map path_of new.paths.items ++ more) rest
    pub within : AreWithin all (length old.paths.items) rest → AreWithin all (length new.paths.items) stack
    pub placed : IsPlaced all next.link.of → All (IsPath all) old.paths.items →
        All (IsPath all) new.paths.items

-- a walk from path p, in which k may stand in one another: these paths and links were found, and these are still to come
pub record IsWalk (all : List ModuleTree) (k : ℕ) (p : Path) (found : Paths) (stack : List Pending) : Type 0 where
  pub goes_on : (more : List Path) → links_from all k p ≡
      map (link_of (map path_of found.paths.items ++ more)) found.links.items
      ++ unfolded all (map path_of found.paths.items ++ more) stack
  pub ends : (more : List Path) → map path_of found.paths.items ≡
      p ∷ map end_of (map (link_of (map path_of found.paths.items ++ more)) found.links.items)
  pub within : AreWithin all (length found.paths.items) stack
  pub placed : All (IsPath all) found.paths.items

-- these are all paths of the design, the top the first, each other with its link
pub record HasPaths (all : List ModuleTree) (top : Path) (found : Paths) : Type 0 where
  pub links : map (link_of (map path_of found.paths.items)) found.links.items ≡ links_from all (length all - 1) top
  pub ends : map path_of found.paths.items ≡
      top ∷ map end_of (map (link_of (map path_of found.paths.items)) found.links.items)
  pub placed : All (IsPath all) found.paths.items
