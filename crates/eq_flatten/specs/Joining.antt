-- The equations of the connections of all instances, by the tables of their modules and the numbers of their first nets.
use Rattle.std.specs.Prelude.{◌≡◌, ◌+◌, ◌<◌, ◌^◌, ◌++◌, ℕ, List, [], ◌∷◌, Option, Some, length, map, flat_map, sum_by, slice_get}
use Rattle.eq_net.specs.declared.types.NetInfo.{NetInfo}
use Rattle.eq_net.specs.Meaning.{if_there}
use Rattle.eq_verilog.specs.Trees.{Name, ConnectionList, by_order, by_name, ModuleTree, connection_list, module_tree}
use Rattle.eq_verilog.specs.Scopes.{Scope}
use Rattle.eq_verilog.specs.Equations.{Connection, Equation}
use Rattle.eq_analysis.specs.Finding.{scope_of}
use Rattle.eq_flatten.specs.declared.paths.Link.{Link}
use Rattle.eq_flatten.specs.declared.paths.Path.{Path}
use Rattle.eq_flatten.specs.Flattening.{names_of}
use Rattle.eq_flatten.specs.Linking.{maybe_cost, maybe_equations, named_connection, ordered, AreJoined}

-- the connections of an instance of a module as they are written, also those that are none
abbrev pub maybe_connections : ModuleTree → ConnectionList → List (Option Connection)
maybe_connections m (by_order es) = ordered m.ports es
maybe_connections m (by_name ns) = map (named_connection m) ns

-- between the instance, whose scope is i, and the path that it stands in, of scope o
abbrev pub conns_equations : Scope → Scope → ModuleTree → ConnectionList → List Equation
conns_equations i o m cs = flat_map (maybe_equations i o m) (maybe_connections m cs)

abbrev pub conns_cost : Scope → Scope → ModuleTree → ConnectionList → ℕ
conns_cost i o m cs = sum_by (maybe_cost i o m) (maybe_connections m cs)

-- the scope of a path whose nets have numbers from the one beside it on
abbrev pub scope_in : List NetInfo → List (List Name) → Path × ℕ → Scope
scope_in nets owned x = scope_of nets (names_of owned x.0) x.1

-- of an instance whose path is y, in a scope o
abbrev pub inside_equations : List NetInfo → List (List Name) → ConnectionList → Scope → Path × ℕ → List Equation
inside_equations nets owned cs o y =
    conns_equations (scope_in nets owned y) o (module_tree y.0.of.module.now) cs

abbrev pub inside_cost : List NetInfo → List (List Name) → ConnectionList → Scope → Path × ℕ → ℕ
inside_cost nets owned cs o y = conns_cost (scope_in nets owned y) o (module_tree y.0.of.module.now) cs

-- the module of y is there, and the connections can become equations in the scope of these names
pub record IsInside (nets : List NetInfo) (modules : List ModuleTree) (owned : List (List Name)) (cs : ConnectionList)
    (names : List Name) (from : ℕ) (y : Path × ℕ) : Type 0 where
  pub there : y.0.of.place < length owned
  pub module_is : slice_get modules y.0.of.place ≡ Some (module_tree y.0.of.module.now)
  pub outer_room : from + length names < 2 ^ 32
  pub room : y.1 + length (names_of owned y.0) < 2 ^ 32
  pub joined : AreJoined nets (names_of owned y.0) y.1 names from (module_tree y.0.of.module.now)
      (maybe_connections (module_tree y.0.of.module.now) cs)

-- and this is the scope of path x
pub record IsBetween (nets : List NetInfo) (modules : List ModuleTree) (owned : List (List Name)) (cs : ConnectionList)
    (x y : Path × ℕ) : Type 0 where
  pub outer_there : x.0.of.place < length owned
  pub inside : IsInside nets modules owned cs (names_of owned x.0) x.1 y

-- ---- links, where `ends` are the paths with the numbers of their first nets

-- of a link whose own path has number k
abbrev pub joined_equations : List NetInfo → List (List Name) → List (Path × ℕ) → ℕ → Link → List Equation
joined_equations nets owned ends k l =
    if_there [] (λ x. if_there [] (inside_equations nets owned (connection_list l.conns.now) (scope_in nets owned x))
    (slice_get ends k)) (slice_get ends l.within)

abbrev pub joined_cost : List NetInfo → List (List Name) → List (Path × ℕ) → ℕ → Link → ℕ
joined_cost nets owned ends k l =
    if_there 0 (λ x. if_there 0 (inside_cost nets owned (connection_list l.conns.now) (scope_in nets owned x))
    (slice_get ends k)) (slice_get ends l.within)

-- of links whose own paths have numbers from k on
abbrev pub all_joined : List NetInfo → List (List Name) → List (Path × ℕ) → ℕ → List Link → List Equation
all_joined nets owned ends k [] = []
all_joined nets owned ends k (l ∷ ls) = joined_equations nets owned ends k l ++ all_joined nets owned ends (k + 1) ls

abbrev pub all_joined_cost : List NetInfo → List (List Name) → List (Path × ℕ) → ℕ → List Link → ℕ
all_joined_cost nets owned ends k [] = 0
all_joined_cost nets owned ends k (l ∷ ls) =
    joined_cost nets owned ends k l + all_joined_cost nets owned ends (k + 1) ls

-- both paths of the link are there, and its connections can become equations
pub record IsLinkReady (nets : List NetInfo) (modules : List ModuleTree) (owned : List (List Name))
    (ends : List (Path × ℕ)) (k : ℕ) (l : Link) : Type 0 where
  pub outer : l.within < length ends
  pub own : k < length ends
  pub between : (x y : Path × ℕ) → slice_get ends l.within ≡ Some x → slice_get ends k ≡ Some y →
      IsBetween nets modules owned (connection_list l.conns.now) x y

abbrev pub AreLinksReady : List NetInfo → List ModuleTree → List (List Name) → List (Path × ℕ) → ℕ → List Link → Type 0
AreLinksReady nets modules owned ends k [] = Unit {0}
AreLinksReady nets modules owned ends k (l ∷ ls) =
    IsLinkReady nets modules owned ends k l × AreLinksReady nets modules owned ends (k + 1) ls
