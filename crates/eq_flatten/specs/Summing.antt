-- The equations of a design as those that items drive by themselves, and those of the links' connections.
use Rattle.std.specs.Prelude.{◌≡◌, ◌+◌, ◌++◌, ℕ, zero, suc, List, [], ◌∷◌, Contains, None, Some, flat_map, sum_by, zip}
use Rattle.eq_model.specs.Nets.{Net}
use Rattle.eq_net.specs.declared.types.NetInfo.{NetInfo}
use Rattle.eq_verilog.specs.Trees.{Name, ModuleTree}
use Rattle.eq_verilog.specs.Hierarchy.{Instance, instances, module_named, Path, inner_prefix}
use Rattle.eq_verilog.specs.Nets.{scope_at}
use Rattle.eq_verilog.specs.Equations.{Equation, connection_equation, connections_of}
use Rattle.eq_flatten.specs.declared.paths.Link.{Link as LinkValue}
use Rattle.eq_flatten.specs.declared.paths.Path.{Path as PathValue}
use Rattle.eq_flatten.specs.Flattening.{path_cost, path_equations}
use Rattle.eq_flatten.specs.Items.{own_equations}
use Rattle.eq_flatten.specs.Joining.{all_joined, all_joined_cost}
use Rattle.eq_flatten.specs.Paths.{Link}
use Rattle.eq_flatten.specs.Rendering.{SameNames}

-- what the items of a path drive by themselves
abbrev pub own_at : List Net → Path → List Equation
own_at nets p = flat_map (own_equations (scope_at nets p)) p.of.items

-- the connections of a link's instance
abbrev pub link_at : List ModuleTree → List Net → Link → List Equation
link_at all nets l =
    flat_map (connection_equation all nets l.within l.written.name l.of) (connections_of l.of l.written.connections)

-- at most k instances stand in one another in an instance of path p
abbrev pub ComesToEnd : List ModuleTree → ℕ → Path → Type 0
ComesToEnd all zero p = (i : Instance) → Contains (instances p.of) i → module_named all i.module_name ≡ None
ComesToEnd all (suc k) p = (i : Instance) (m : ModuleTree) → Contains (instances p.of) i →
    module_named all i.module_name ≡ Some m → ComesToEnd all k (record { prefix = inner_prefix p.prefix i.name; of = m })

-- two equations have the same sides, and say the same of their names
pub record IsAgreed (e f : Equation) : Type 0 where
  pub target : e.target ≡ f.target
  pub source : e.source ≡ f.source
  pub target_names : SameNames e.target_scope f.target_scope f.target
  pub source_names : SameNames e.source_scope f.source_scope f.source

abbrev pub AreAgreed : List Equation → List Equation → Type 0
AreAgreed [] [] = Unit {0}
AreAgreed (e ∷ es) (f ∷ fs) = IsAgreed e f × AreAgreed es fs
AreAgreed _ _ = ⊥

-- the equations of paths and links as the code has them: by the names of the modules, and the number of each path's first net
abbrev pub by_tables : List NetInfo → List (List Name) → List PathValue → List LinkValue → List ℕ → List Equation
by_tables nets owned paths links firsts =
    flat_map (path_equations nets owned) (zip paths firsts) ++ all_joined nets owned (zip paths firsts) 1 links

-- and what their words cost at most
abbrev pub cost_by_tables : List NetInfo → List (List Name) → List PathValue → List LinkValue → List ℕ → ℕ
cost_by_tables nets owned paths links firsts =
    sum_by (path_cost nets owned) (zip paths firsts) + all_joined_cost nets owned (zip paths firsts) 1 links
