-- The modules and the instances of a design (IEEE 1364-2005, 12.1 and 12.5).
use Rattle.std.specs.Prelude.{ℕ, zero, suc, List, [], ◌∷◌, ◌++◌, if◌then◌else◌, Option, Some, None, length, map, find, filter_map, flat_map, fold, bytes_eq}
use Rattle.eq_net.specs.Meaning.{if_there}
use Rattle.eq_verilog.specs.Trees.{Name, ConnectionList, ItemTree, instance, ModuleTree}
use Rattle.eq_verilog.specs.Declarations.{has}

-- an instance as it is written in a module
pub record Instance : Type 0 where
  pub module_name : Name
  pub name : Name
  pub connections : ConnectionList

abbrev pub instance_in : ItemTree → Option Instance
instance_in (instance m n conns) = Some (record { module_name = m; name = n; connections = conns })
instance_in _ = None

abbrev pub instances : ModuleTree → List Instance
instances m = filter_map instance_in m.items

abbrev pub module_names : List ModuleTree → List Name
module_names ms = map (λ (m : ModuleTree). m.name) ms

-- the first module of a name. Where two have it the design is refused
abbrev pub module_named : List ModuleTree → Name → Option ModuleTree
module_named all n = find (λ (m : ModuleTree). bytes_eq n m.name) all

-- The modules that were seen, and behind them those that are reached from the module of a name, in the order of first
-- visit: depth first, a module before what it instantiates, its instances in the order of the text. At most k modules
-- stand in one another.
abbrev pub visit : List ModuleTree → ℕ → List ModuleTree → Name → List ModuleTree
visit all zero seen n = seen
visit all (suc k) seen n =
    if has (module_names seen) n then seen
    else if_there seen (λ m. fold (λ more (i : Instance). visit all k more i.module_name) (seen ++ m
    ∷ []) (instances m))
    (module_named all n)

-- the modules that are reached from the top, itself the first. A module is visited once, so no more than all modules
-- stand in one another
abbrev pub reached : List ModuleTree → Name → List ModuleTree
reached all top = visit all (length all) [] top

-- the modules that are reached from the instances of a module
abbrev pub reached_below : List ModuleTree → ModuleTree → List ModuleTree
reached_below all m = fold (λ seen (i : Instance). visit all (length all) seen i.module_name) [] (instances m)

-- ---- instance paths

-- an instance of the design: what stands before the own names of its nets, and its module. The top's prefix is empty;
-- any other ends with a dot
pub record Path : Type 0 where
  pub prefix : Name
  pub of : ModuleTree

abbrev pub dot : ℕ
dot = 0x2E

abbrev pub inner_prefix : Name → Name → Name
inner_prefix prefix name = prefix ++ (name ++ dot ∷ [])

-- An instance and all in it, depth first: a parent before its children, children in the order of the text. At most k
-- stand in one another. No module contains itself in a design that isn't refused, so as many as there are modules are
-- enough.
abbrev pub paths_from : List ModuleTree → ℕ → Name → ModuleTree → List Path
paths_from all zero prefix m = []
paths_from all (suc k) prefix m =
    record { prefix = prefix; of = m }
    ∷ flat_map
    (λ (i : Instance). if_there [] (paths_from all k (inner_prefix prefix i.name)) (module_named all i.module_name))
    (instances m)

abbrev pub paths : List ModuleTree → Name → List Path
paths all top = if_there [] (paths_from all (length all) []) (module_named all top)
