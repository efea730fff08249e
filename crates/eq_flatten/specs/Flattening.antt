-- What the items of instances drive, by the tables of their modules and the numbers of their first nets.
use Rattle.std.specs.Prelude.{◌+◌, ◌<◌, ◌^◌, ℕ, List, [], ◌∷◌, length, map, flat_map, sum_by, slice_get}
use Rattle.eq_net.specs.declared.types.NetInfo.{NetInfo}
use Rattle.eq_net.specs.Meaning.{if_there}
use Rattle.eq_verilog.specs.Trees.{Name, item_tree}
use Rattle.eq_verilog.specs.Equations.{Equation}
use Rattle.eq_analysis.specs.Finding.{scope_of}
use Rattle.eq_flatten.specs.declared.paths.Path.{Path}
use Rattle.eq_flatten.specs.Items.{own_cost, own_equations, AreReady}

-- the names of a path's module
abbrev pub names_of : List (List Name) → Path → List Name
names_of owned p = if_there [] (λ ns. ns) (slice_get owned p.of.place)

abbrev pub path_equations : List NetInfo → List (List Name) → Path × ℕ → List Equation
path_equations nets owned x =
    flat_map (own_equations (scope_of nets (names_of owned x.0) x.1)) (map item_tree x.0.of.module.now.items)

abbrev pub path_cost : List NetInfo → List (List Name) → Path × ℕ → ℕ
path_cost nets owned x =
    sum_by (own_cost (scope_of nets (names_of owned x.0) x.1)) (map item_tree x.0.of.module.now.items)

-- the module of the path is there, its nets have numbers from the one beside it on, and its items are ready
pub record IsPathReady (nets : List NetInfo) (owned : List (List Name)) (x : Path × ℕ) : Type 0 where
  pub there : x.0.of.place < length owned
  pub room : x.1 + length (names_of owned x.0) < 2 ^ 32
  pub items : AreReady nets (names_of owned x.0) x.1 (map item_tree x.0.of.module.now.items)

abbrev pub ArePathsReady : List NetInfo → List (List Name) → List (Path × ℕ) → Type 0
ArePathsReady nets owned [] = Unit {0}
ArePathsReady nets owned (x ∷ xs) = IsPathReady nets owned x × ArePathsReady nets owned xs
